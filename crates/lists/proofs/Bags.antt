-- Bags: lists with the same elements, order aside.
use Rattle.std.proofs.Common.{◌≡◌, ℕ, zero, suc, ◌-◌, ◌<◌, List, [], ◌∷◌, ◌++◌, length, get_or, take, drop, set, Some, None, Option, sym, refl, ap, ◌∙◌, subst, arith}
use mathlib.Core.List.Perm
use mathlib.Core.List.{Perm, perm_append_singleton, perm_append_comm}
use Rattle.std.specs.List.{slice_get, swap}
use Rattle.std.specs.Option.{option_to_list}
use Rattle.std.proofs.lemmas.List.{append_assoc}
use Rattle.std.proofs.lemmas.Option.{slice_get-get_or}

module _ {A : Type 0} where
  pub equal_bag : {xs ys : List A} → xs ≡ ys → Perm xs ys
  equal_bag {xs} e = subst (Perm xs) e (Perm.refl xs)

  interchange : (a b c d : List A) → Perm ((a ++ b) ++ (c ++ d)) ((a ++ c) ++ (b ++ d))
  interchange a b c d =
      Perm.trans (equal_bag (append_assoc a b (c ++ d)))
      (Perm.trans (Perm.append_left a (Perm.trans (equal_bag (sym (append_assoc b c d))) (Perm.trans (Perm.append_right d (perm_append_comm b c)) (equal_bag (append_assoc c b d)))))
      (equal_bag (sym (append_assoc a c (b ++ d)))))

  -- the element that a write at i puts out; past the end, the one written
  abbrev put_out : A → Option A → List A
  put_out y None = y ∷ []
  put_out y (Some x) = x ∷ []

  written_bag : (xs : List A) (i : ℕ) (y : A) → Perm (y ∷ xs) (set xs i y ++ put_out y (slice_get xs i))
  written_bag [] i y = Perm.refl (y ∷ [])
  written_bag (x ∷ xs) zero y = Perm.cons y (Perm.symm (perm_append_singleton x xs))
  written_bag (x ∷ xs) (suc i) y = Perm.trans (Perm.swap x y xs) (Perm.cons x (written_bag xs i y))

  pub set_bag : (xs : List A) (i : ℕ) (x y : A) → slice_get xs i ≡ Some x → Perm (y ∷ xs) (set xs i y ++ x ∷ [])
  set_bag xs i x y e = subst (λ o. Perm (y ∷ xs) (set xs i y ++ put_out y o)) e (written_bag xs i y)

  exchange_bag : (xs : List A) (i j : ℕ) (d : A) → i < length xs → j < length xs → Perm xs (set (set xs i (get_or xs j d)) j (get_or xs i d))
  exchange_bag [] i j d p q = Perm.refl []
  exchange_bag (x ∷ xs) zero zero d p q = Perm.refl (x ∷ xs)
  exchange_bag (x ∷ xs) zero (suc j) d p q = Perm.trans (set_bag xs j (get_or xs j d) x (slice_get-get_or xs j d (omega arith))) (perm_append_singleton (get_or xs j d) (set xs j x))
  exchange_bag (x ∷ xs) (suc i) zero d p q = Perm.trans (set_bag xs i (get_or xs i d) x (slice_get-get_or xs i d (omega arith))) (perm_append_singleton (get_or xs i d) (set xs i x))
  exchange_bag (x ∷ xs) (suc i) (suc j) d p q = Perm.cons x (exchange_bag xs i j d (omega arith) (omega arith))

  pub exchanged_bag : (xs : List A) (i j : ℕ) → i < length xs → j < length xs → Perm xs (swap xs i j)
  exchanged_bag [] i j p q = Perm.refl []
  exchanged_bag (x ∷ xs) i j p q = exchange_bag (x ∷ xs) i j x p q

  -- a list is what is left without the element at an end, and that element
  pub front_bag : (xs : List A) → Perm xs (drop 1 xs ++ option_to_list (slice_get xs 0))
  front_bag [] = Perm.refl []
  front_bag (x ∷ xs) = Perm.symm (perm_append_singleton x xs)

  last_at : (x : A) (xs : List A) → x ∷ xs ≡ take (length xs) (x ∷ xs) ++ option_to_list (slice_get (x ∷ xs) (length xs))
  last_at x [] = refl
  last_at x (y ∷ ys) = ap (λ l. x ∷ l) (last_at y ys)

  pub back_bag : (xs : List A) → Perm xs (take (length xs - 1) xs ++ option_to_list (slice_get xs (length xs - 1)))
  back_bag [] = Perm.refl []
  back_bag (x ∷ xs) =
      let m : length xs ≡ suc (length xs) - 1 = omega arith in
      equal_bag (subst (λ k. x ∷ xs ≡ take k (x ∷ xs) ++ option_to_list (slice_get (x ∷ xs) k)) m (last_at x xs))

  -- What comes in (t and u) and what goes out (h, b and f) of a list: a first step takes xs to l, and the steps after it l to L.
  pub step_bag : (t u xs l h b f T U L H B F : List A)
      → Perm (t ++ (u ++ xs)) (l ++ h ++ b ++ f)
      → Perm (T ++ (U ++ l)) (L ++ H ++ B ++ F)
      → Perm ((t ++ T) ++ ((u ++ U) ++ xs)) (L ++ (h ++ H) ++ (b ++ B) ++ (f ++ F))
  step_bag t u xs l h b f T U L H B F p q =
      Perm.trans (Perm.append (perm_append_comm t T) (Perm.append_right xs (perm_append_comm u U)))
      (Perm.trans (equal_bag (ap (λ z. (T ++ t) ++ z) (append_assoc U u xs)))
      (Perm.trans (interchange T t U (u ++ xs))
      (Perm.trans (Perm.append_left (T ++ U) p)
      (Perm.trans (equal_bag (ap (λ z. (T ++ U) ++ z) (append_assoc (l ++ h) b f ∙ append_assoc l h (b ++ f)) ∙ sym (append_assoc (T ++ U) l (h ++ (b ++ f))) ∙ ap (λ z. z ++ (h ++ (b ++ f))) (append_assoc T U l)))
      (Perm.trans (Perm.append_right (h ++ (b ++ f)) q)
      (Perm.trans (equal_bag (ap (λ z. (L ++ H ++ B ++ F) ++ z) (sym (append_assoc h b f))))
      (Perm.trans (interchange (L ++ H ++ B) F (h ++ b) f)
      (Perm.append (Perm.trans (interchange (L ++ H) B h b) (Perm.append (Perm.trans (equal_bag (append_assoc L H h)) (Perm.append_left L (perm_append_comm H h))) (perm_append_comm B b)))
      (perm_append_comm F f)))))))))
