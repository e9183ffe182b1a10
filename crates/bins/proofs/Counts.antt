-- The count of a bin after several items, from the laws of its kind.
use Rattle.std.proofs.Common.{◌≡◌, ℕ, ◌+◌, ◌%◌, ◌^◌, ◌<◌, List, [], ◌∷◌, length, fold, ap, ◌∙◌, arith}
use native.Mathlib.Nat.{mod-add-mod}

module _ {S T : Type 0} (rule : S → T → S) (count : S → ℕ) (counts : (s : S) (x : T) → count (rule s x) ≡ (count s + 1) % 2 ^ 64) (fits : (s : S) → count s < 2 ^ 64) where
  pub counted : (s : S) (xs : List T) → count (fold rule s xs) ≡ (count s + length xs) % 2 ^ 64
  counted s [] = let h = fits s in omega arith
  counted s (x ∷ xs) = counted (rule s x) xs ∙ ap (λ n. (n + length xs) % 2 ^ 64) (counts s x) ∙ mod-add-mod (count s + 1) (2 ^ 64) (length xs) ∙ ap (λ n. n % 2 ^ 64) (omega arith)
