-- The list of a ring after an exchange or a load.
use Rattle.std.proofs.Common.{◌≡◌, ℕ, ◌+◌, ◌<◌, ◌≤◌, List, [], ◌∷◌, ◌++◌, length, get_or, drop, set, sym, refl, ap, ◌∙◌, mod-eq_of_lt, arith, length-append, length-drop, length-set}
use Rattle.std.proofs.lemmas.List.Edits.{swap_is}
use Rattle.std.proofs.lemmas.List.{get_or_append_left}
use Rattle.std.specs.List.{swap}
use Rattle.places.specs.declared.Places.{Places}
use Rattle.deque.specs.Sound.{Sound}
use Rattle.deque.specs.Ring.{slot, contents}
use Rattle.deque.specs.Moves.{placed}
use Rattle.deque.proofs.Contents.{slot_below, length_contents, contents_at, contents_is, contents_set, contents_none}

module _ {T : Type 0} (p : Places) (ok : Sound p) where
  exchanged_at : (d : T) (xs : List T) → p.capacity ≤ length xs → (i j : ℕ) → i < p.len → j < p.len → contents p (swap xs (slot p i) (slot p j)) ≡ swap (contents p xs) i j
  exchanged_at d xs enough i j hi hj =
      let a = slot p i in
      let b = slot p j in
      let l = contents p xs in
      let size = length_contents p xs ok enough in
      let la : a < length xs = omega (arith, slot_below p ok i (omega arith)) in
      let lb : b < length xs = omega (arith, slot_below p ok j (omega arith)) in
      let once : List T = set xs a (get_or xs b d) in
      let room : p.capacity ≤ length once = simp length-set (omega arith) in
      ap (contents p) (sym (swap_is xs a b d la lb))
      ∙ contents_set p once ok room j (get_or xs a d) hj
      ∙ ap (λ k. set k j (get_or xs a d)) (contents_set p xs ok enough i (get_or xs b d) hi)
      ∙ ap (λ y. set (set l i y) j (get_or xs a d)) (sym (contents_at p xs ok enough j d hj))
      ∙ ap (λ y. set (set l i (get_or l j d)) j y) (sym (contents_at p xs ok enough i d hi))
      ∙ swap_is l i j d (omega arith) (omega arith)

  -- an exchange of the slots of items i and j
  pub contents_exchanged : (xs : List T) → p.capacity ≤ length xs → (i j : ℕ) → i < p.len → j < p.len → contents p (swap xs (slot p i) (slot p j)) ≡ swap (contents p xs) i j
  contents_exchanged [] enough i j hi hj = absurd (omega arith)
  contents_exchanged (d ∷ xs) enough i j hi hj = exchanged_at d (d ∷ xs) enough i j hi hj

  -- an empty ring that is loaded from slot 0 on
  pub contents_load : (xs items : List T) → p.capacity ≤ length xs → p.len ≡ 0 → length items ≤ p.capacity → contents (placed p 0 (length items)) (items ++ drop (length items) xs) ≡ contents p xs ++ items
  contents_load xs items enough empty fits =
      let q : Places = placed p 0 (length items) in
      let sound : Sound q = (omega arith, omega arith, omega arith) in
      let room : p.capacity ≤ length (items ++ drop (length items) xs) = simp (length-append, length-drop) (omega arith) in
      contents_is q (items ++ drop (length items) xs) sound room items refl
      (λ i d h.
      let low : 0 + i < p.capacity = omega arith in
      let e : slot q i ≡ i = mod-eq_of_lt low ∙ omega arith in
      ap (λ k. get_or (items ++ drop (length items) xs) k d) e ∙ get_or_append_left items (drop (length items) xs) d i h)
      ∙ ap (λ l. l ++ items) (sym (contents_none p xs ok enough empty))
