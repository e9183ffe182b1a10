-- What a bin holds after several items.
use Rattle.std.proofs.Common.{◌≡◌, ℕ, suc, ◌+◌, ◌%◌, ◌^◌, List, [], ◌∷◌, ◌++◌, length, take, fold, sym, refl, ap, ◌∙◌, append_assoc, append-nil, arith}
use native.Mathlib.Nat.{mod-add-mod}
use lib.Seq.{take-nil}
use Rattle.lists.proofs.Prefixes.{take_front}
use Rattle.bins.specs.Pairs.{paired}
use Rattle.bins.specs.Trays.{TrayState, trayed, tray_of, empty_tray}

-- each bin of a pair takes them as if it stood alone
pub folded_pair : {S U T : Type 0} (f : S → T → S) (h : U → T → U) (s : S) (u : U) (xs : List T) → fold (paired f h) (s, u) xs ≡ (fold f s xs, fold h u xs)
folded_pair f h s u [] = refl
folded_pair f h s u (x ∷ xs) = folded_pair f h (f s x) (h u x) xs

module _ {T : Type 0} where
  trayed_on : (n c : ℕ) (ys xs : List T)
      → fold trayed (record { slots = n; kept = take n ys; count = c % 2 ^ 64 }) xs ≡ record { slots = n; kept = take n (ys ++ xs); count = (c + length xs) % 2 ^ 64 }
  trayed_on n c ys [] =
      let Is : List T → ℕ → TrayState T = λ k m. record { slots = n; kept = take n k; count = m % 2 ^ 64 } in
      let same : c ≡ c + 0 = omega arith in
      ap (λ (k : List T). Is k c) (sym (append-nil ys)) ∙ ap (Is (ys ++ [])) same
  trayed_on n c ys (x ∷ xs) =
      let Is : List T → ℕ → TrayState T = λ k m. record { slots = n; kept = k; count = m } in
      let first : trayed (Is (take n ys) (c % 2 ^ 64)) x ≡ Is (take n (ys ++ x ∷ [])) ((c + 1) % 2 ^ 64) =
      ap (λ (k : List T). Is k ((c % 2 ^ 64 + 1) % 2 ^ 64)) (take_front n ys (x ∷ [])) ∙ ap (Is (take n (ys ++ x ∷ []))) (mod-add-mod c (2 ^ 64) 1) in
      let same : c + 1 + length xs ≡ c + suc (length xs) = omega arith in
      ap (λ (s : TrayState T). fold trayed s xs) first ∙ trayed_on n (c + 1) (ys ++ x ∷ []) xs
      ∙ ap (λ (k : List T). Is (take n k) ((c + 1 + length xs) % 2 ^ 64)) (append_assoc ys (x ∷ []) xs) ∙ ap (λ (m : ℕ). Is (take n (ys ++ x ∷ xs)) (m % 2 ^ 64)) same

  -- a fresh tray after the items xs
  pub trayed_all : (n : ℕ) (xs : List T) → fold trayed (empty_tray n) xs ≡ tray_of n xs
  trayed_all n xs =
      let nil : List T = [] in
      let none : take n nil ≡ nil = take-nil n in
      let same : 0 + length xs ≡ length xs = omega arith in
      ap (λ (k : List T). fold trayed (record { slots = n; kept = k; count = 0 }) xs) (sym none) ∙ trayed_on n 0 [] xs
      ∙ ap (λ (m : ℕ). record { slots = n; kept = take n xs; count = m % 2 ^ 64 }) same
