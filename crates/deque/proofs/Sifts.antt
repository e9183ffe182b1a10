-- The showings of a list, one item more, and the exchange that a yes makes.
use Rattle.std.proofs.Common.{◌≡◌, suc, ◌+◌, true, false, cond, List, [], ◌∷◌, ◌++◌, length, get_or, set, fold, sym, refl, ap, ◌∙◌, append_assoc, add-zero, arith, length-append}
use lib.Seq.{set_at, get_or_at, set-get_or}
use Rattle.std.proofs.lemmas.List.{length_push}
use Rattle.std.proofs.lemmas.List.Sums.{fold_push}
use Rattle.std.proofs.lemmas.Bool.{cond-true, cond-false}
use Rattle.predicates.specs.Showing.{Shown, showings, after}
use Rattle.deque.specs.Sifting.{Sifted, first_to_end, sift, kept, rest}

module _ {S T : Type 0} (rule : S → T → Shown S T) where
  pub length_showings : (s : S) (l : List T) → length (showings rule s l) ≡ length l
  length_showings s [] = refl
  length_showings s (x ∷ l) = ap suc (length_showings (rule s x).state l)

  pub showings_push : (s : S) (l : List T) (x : T) → showings rule s (l ++ x ∷ []) ≡ showings rule s l ++ rule (after rule s l) x ∷ []
  showings_push s [] x = refl
  showings_push s (y ∷ l) x = ap (λ r. rule s y ∷ r) (showings_push (rule s y).state l x)

  pub after_push : (s : S) (l : List T) (x : T) → after rule s (l ++ x ∷ []) ≡ (rule (after rule s l) x).state
  after_push s l x = fold_push (λ t y. (rule t y).state) s l x

length_first_to_end : {T : Type 0} (l : List T) → length (first_to_end l) ≡ length l
length_first_to_end [] = refl
length_first_to_end (x ∷ l) = simp length-append (omega arith)

module _ {S T : Type 0} where
  module _ (ws : List (Shown S T)) (w : Shown S T) where
    one_more : fold sift (record { kept = []; rest = [] }) (ws ++ w ∷ []) ≡ sift (record { kept = kept ws; rest = rest ws }) w
    one_more = fold_push sift (record { kept = []; rest = [] }) ws w

    pub kept_yes : w.answer ≡ true → kept (ws ++ w ∷ []) ≡ kept ws ++ w.item ∷ []
    kept_yes e = ap (λ (s : Sifted T). s.kept) (one_more ∙ cond-true w.answer _ _ e)

    pub kept_no : w.answer ≡ false → kept (ws ++ w ∷ []) ≡ kept ws
    kept_no e = ap (λ (s : Sifted T). s.kept) (one_more ∙ cond-false w.answer _ _ e)

    pub rest_yes : w.answer ≡ true → rest (ws ++ w ∷ []) ≡ first_to_end (rest ws)
    rest_yes e = ap (λ (s : Sifted T). s.rest) (one_more ∙ cond-true w.answer _ _ e)

    pub rest_no : w.answer ≡ false → rest (ws ++ w ∷ []) ≡ rest ws ++ w.item ∷ []
    rest_no e = ap (λ (s : Sifted T). s.rest) (one_more ∙ cond-false w.answer _ _ e)

  length_sifted_from : (s : Sifted T) (ws : List (Shown S T)) → length (fold sift s ws).kept + length (fold sift s ws).rest ≡ length s.kept + length s.rest + length ws
  length_sifted_from s [] = omega arith
  length_sifted_from s (w ∷ ws) =
      let yes_way : Sifted T = record { kept = s.kept ++ w.item ∷ []; rest = first_to_end s.rest } in
      let no_way : Sifted T = record { kept = s.kept; rest = s.rest ++ w.item ∷ [] } in
      elim w.answer as (λ b. length (fold sift (cond b yes_way no_way) ws).kept + length (fold sift (cond b yes_way no_way) ws).rest ≡ length s.kept + length s.rest + suc (length ws)) [
        | true ↦ omega (arith, length_sifted_from yes_way ws, length_first_to_end s.rest, length_push s.kept w.item)
        | false ↦ omega (arith, length_sifted_from no_way ws, length_push s.rest w.item)
      ]

  -- every item shown is kept or one of the rest
  pub length_sifted : (ws : List (Shown S T)) → length (kept ws) + length (rest ws) ≡ length ws
  length_sifted ws = length_sifted_from (record { kept = []; rest = [] }) ws ∙ omega arith

module _ {T : Type 0} where
  -- an item at the end of xs and ys changes places with the first of ys
  pub exchange_first : (xs ys : List T) (y : T) (zs : List T) (d : T) → let l = xs ++ (ys ++ y ∷ zs) in
      let i = length xs in let j = length xs + length ys in
      set (set l i (get_or l j d)) j (get_or l i d) ≡ (xs ++ y ∷ []) ++ (first_to_end ys ++ zs)
  exchange_first xs [] y zs d =
      let l : List T = xs ++ y ∷ zs in
      let i = length xs in
      ap (λ j. set (set l i (get_or l j d)) j (get_or l i d)) (add-zero i)
      ∙ ap (λ r. set r i (get_or l i d)) (set-get_or l i d)
      ∙ set-get_or l i d
      ∙ sym (append_assoc xs (y ∷ []) zs)
  exchange_first xs (x ∷ ys) y zs d =
      let l : List T = xs ++ (x ∷ (ys ++ y ∷ zs)) in
      let i = length xs in
      let j = length xs + suc (length ys) in
      let at_i : get_or l i d ≡ x = get_or_at xs x (ys ++ y ∷ zs) d i refl in
      let at_j : get_or l j d ≡ y =
      ap (λ r. get_or r j d) (sym (append_assoc xs (x ∷ ys) (y ∷ zs))) ∙ get_or_at (xs ++ x ∷ ys) y zs d j (length-append xs (x ∷ ys)) in
      ap (λ b. set (set l i b) j (get_or l i d)) at_j
      ∙ ap (λ a. set (set l i y) j a) at_i
      ∙ ap (λ r. set r j x) (set_at xs x (ys ++ y ∷ zs) y i refl ∙ sym (append_assoc xs (y ∷ ys) (y ∷ zs)))
      ∙ set_at (xs ++ y ∷ ys) y zs x j (length-append xs (y ∷ ys))
      ∙ simp append_assoc
