-- The first n elements of a list that grows at its end, and the others of two lists.
use Rattle.std.proofs.Common.{◌≡◌, ℕ, zero, suc, ◌+◌, ◌-◌, min, List, [], ◌∷◌, ◌++◌, length, take, drop, fold, sym, refl, ap, ◌∙◌, inl, inr, arith}
use Rattle.std.proofs.Math.Seq.{drop-append-add}
use Rattle.std.proofs.lemmas.List.{drop_all, drop_min, drop-append-le, take_rest}
use Rattle.std.proofs.lemmas.List.Sums.{fold-append}
use Rattle.std.proofs.lemmas.Bool.{cases_lt}

module _ {T : Type 0} where
  pub take_front : (n : ℕ) (ys zs : List T) → take n (take n ys ++ zs) ≡ take n (ys ++ zs)
  take_front zero ys zs = refl
  take_front (suc n) [] zs = refl
  take_front (suc n) (y ∷ ys) zs = ap (λ (l : List T). y ∷ l) (take_front n ys zs)

  -- all but the first n of two lists, by how many of each are left out
  drop_both : (n : ℕ) (xs ys : List T) → drop (min n (length xs)) xs ++ drop (min (n - min n (length xs)) (length ys)) ys ≡ drop n (xs ++ ys)
  drop_both n xs ys = elim (cases_lt (length xs) n) [
    | inl a ↦
        let e : min n (length xs) ≡ length xs = omega arith in
        let s : length xs + (n - length xs) ≡ n = omega arith in
        rw (drop_min (n - min n (length xs)) ys, e, drop_all (length xs) xs (omega arith)) (sym (drop-append-add xs ys (n - length xs)) ∙ ap (λ k. drop k (xs ++ ys)) s)
    | inr b ↦
        let e : min n (length xs) ≡ n = omega arith in
        let s : n - n ≡ 0 = omega arith in
        rw (drop_min (n - min n (length xs)) ys, e, s) (sym (drop-append-le n xs ys b))
  ]

  -- a fold over those, each list cut at a place
  pub fold_both : {S : Type 0} (f : S → T → S) (s : S) (n low high : ℕ) (xs ys : List T) → low ≡ min n (length xs) → high ≡ min (n - low) (length ys)
      → fold f (fold f s (take (length xs - low) (drop low xs))) (take (length ys - high) (drop high ys)) ≡ fold f s (drop n (xs ++ ys))
  fold_both f s n low high xs ys p q =
      rw (take_rest xs low, take_rest ys high, q, p)
      (sym (fold-append f s (drop (min n (length xs)) xs) (drop (min (n - min n (length xs)) (length ys)) ys)) ∙ ap (fold f s) (drop_both n xs ys))
