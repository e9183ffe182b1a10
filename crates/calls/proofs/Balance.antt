-- Each accepted call keeps the books: what comes in is what goes out.
use Rattle.std.proofs.Common.{◌≡◌, ℕ, ◌-◌, ◌<◌, cond, nat_lt, List, [], ◌∷◌, ◌++◌, map, length, set, Some, None, fold, Option, sym, refl, ap, ◌∙◌, arith}
use mathlib.Core.List.Perm
use mathlib.Core.List.{Perm, perm_middle, perm_append_singleton, perm_append_comm}
use Rattle.std.specs.List.{slice_get, swap}
use Rattle.std.specs.Option.{option_to_list}
use Rattle.std.proofs.lemmas.List.{append-nil, append_assoc, take-append-drop}
use Rattle.std.proofs.lemmas.Bool.{cond_both, ltb-true}
use Rattle.predicates.specs.Showing.{Shown, yes_to, left, stored, showings}
use Rattle.deque.specs.Plain as plain
use Rattle.deque.specs.Sifting.{Sifted, sift, first_to_end, kept, rest}
use Rattle.lists.proofs.Bags.{equal_bag, set_bag, exchanged_bag, front_bag, back_bag}
use Rattle.calls.specs.Calls.{edit_refusal, refusal}
use Rattle.calls.specs.PlainList.{Turn, edit_turn, release_turn, test_turn, retain_turn, unmade, turn, popped}
use Rattle.places.specs.declared.End.{End}
use Rattle.places.specs.declared.End.TheVariants.{Front, Back}
use Rattle.calls.specs.declared.call.Edit.{Edit}
use Rattle.calls.specs.declared.call.Edit.TheVariants.{Load, Push, Pop, Swap, SwapRemove, MakeContiguous}
use Rattle.calls.specs.declared.call.Test.{Test}
use Rattle.calls.specs.declared.call.Test.TheVariants.{PopIf, Change}
use Rattle.calls.specs.declared.call.Release.{Release}
use Rattle.calls.specs.declared.call.Release.TheVariants.{Truncate, Clear}
use Rattle.calls.specs.declared.call.Call.{Call}
use Rattle.calls.specs.declared.call.Call.TheVariants.{Edit as Edits, Test as Tests, Release as Releases, Retain, Read as Reads, IntoIter, Close}
use Rattle.calls.proofs.Predicates.{either_way}
use Rattle.calls.proofs.Refusing.{both_inside}

module _ {T : Type 0} where
  abbrev pub Balanced : List T → Turn T → Type 0
  Balanced l t = Perm (t.flow.taken ++ (t.flow.left ++ l)) (t.list ++ t.flow.handed ++ t.flow.binned ++ t.flow.found)

  pub unmoved : (l : List T) → Perm l (l ++ [] ++ [] ++ [])
  unmoved l = simp append-nil (Perm.refl l)

  -- a pop from an end, of any list
  pub popped_bag : (end : End) (l : List T) → Perm l ((popped end l).list ++ option_to_list (popped end l).answer)
  popped_bag Front l = front_bag l
  popped_bag Back l = back_bag l

  swap_removed : (pop : List T → plain.Edit (Option T) T) → ((l : List T) → Perm l ((pop l).list ++ option_to_list (pop l).answer)) → (l : List T) (i j : ℕ) → (i < length l → j < length l)
      → let e = cond (nat_lt i (length l)) (pop (swap l i j)) (plain.edited None l) in Perm l (e.list ++ option_to_list e.answer ++ [] ++ [])
  swap_removed pop bag l i j inside =
      cond_both (nat_lt i (length l)) (pop (swap l i j)) (plain.edited None l) (λ e. Perm l (e.list ++ option_to_list e.answer ++ [] ++ []))
      (λ lt. simp append-nil (Perm.trans (exchanged_bag l i j (ltb-true i (length l) lt) (inside (ltb-true i (length l) lt))) (bag (swap l i j))))
      (λ _. unmoved l)

  pub edit_balanced : (edit : Edit T) (capacity lent : ℕ) (l : List T) → edit_refusal edit capacity lent (length l) ≡ None → Balanced l (edit_turn edit l)
  edit_balanced (Load items) capacity lent l h = simp append-nil (perm_append_comm items.now l)
  edit_balanced (Push Front item) capacity lent l h = simp append-nil (Perm.refl (item ∷ l))
  edit_balanced (Push Back item) capacity lent l h = simp append-nil (Perm.symm (perm_append_singleton item l))
  edit_balanced (Pop end) capacity lent l h = simp append-nil (popped_bag end l)
  edit_balanced (Swap i j) capacity lent l h =
      let both = both_inside i j capacity lent (length l) h in
      simp append-nil (exchanged_bag l i j both.0 both.1)
  edit_balanced (SwapRemove Front index) capacity lent l h = swap_removed plain.pop_front front_bag l index 0 (λ lt. omega arith)
  edit_balanced (SwapRemove Back index) capacity lent l h = swap_removed plain.pop_back back_bag l index (length l - 1) (λ lt. omega arith)
  edit_balanced MakeContiguous capacity lent l h = unmoved l

  release_balanced : (release : Release) (l : List T) → Balanced l (release_turn release l)
  release_balanced (Truncate len) l = simp append-nil (equal_bag (sym (take-append-drop len l)))
  release_balanced Clear l = simp append-nil (Perm.refl l)

  first_to_end_bag : (l : List T) → Perm l (first_to_end l)
  first_to_end_bag [] = Perm.refl []
  first_to_end_bag (x ∷ l) = Perm.symm (perm_append_singleton x l)

  -- an item that got yes, at the end of the kept ones
  yes_bag : (ks rs ms : List T) (x : T) → Perm ((ks ++ rs) ++ x ∷ ms) (((ks ++ x ∷ []) ++ first_to_end rs) ++ ms)
  yes_bag ks rs ms x =
      Perm.trans (equal_bag (append_assoc ks rs (x ∷ ms)))
      (Perm.trans (Perm.append_left ks (Perm.trans (perm_middle rs ms) (Perm.cons x (Perm.append_right ms (first_to_end_bag rs)))))
      (equal_bag (sym (append_assoc (ks ++ x ∷ []) (first_to_end rs) ms ∙ append_assoc ks (x ∷ []) (first_to_end rs ++ ms)))))

module _ {S T : Type 0} where
  sifted_from : (s : Sifted T) (ws : List (Shown S T)) → Perm ((s.kept ++ s.rest) ++ map (λ w. w.item) ws) ((fold sift s ws).kept ++ (fold sift s ws).rest)
  sifted_from s [] = equal_bag (append-nil (s.kept ++ s.rest))
  sifted_from s (w ∷ ws) =
      let ms : List T = map (λ w. w.item) ws in
      cond_both w.answer (record { kept = s.kept ++ w.item ∷ []; rest = first_to_end s.rest }) (record { kept = s.kept; rest = s.rest ++ w.item ∷ [] })
      (λ (z : Sifted T). Perm ((s.kept ++ s.rest) ++ w.item ∷ ms) ((fold sift z ws).kept ++ (fold sift z ws).rest))
      (λ _. Perm.trans (yes_bag s.kept s.rest ms w.item) (sifted_from (record { kept = s.kept ++ w.item ∷ []; rest = first_to_end s.rest }) ws))
      (λ _. Perm.trans (equal_bag (sym (ap (λ z. z ++ ms) (sym (append_assoc s.kept s.rest (w.item ∷ []))) ∙ append_assoc (s.kept ++ s.rest) (w.item ∷ []) ms)))
      (sifted_from (record { kept = s.kept; rest = s.rest ++ w.item ∷ [] }) ws))

  -- what was shown, as it was left, is kept or one of the rest
  pub sifted_bag : (ws : List (Shown S T)) → Perm (map (λ w. w.item) ws) (kept ws ++ rest ws)
  sifted_bag ws = sifted_from (record { kept = []; rest = [] }) ws

module _ {T P : Type 0} (rule : P → T → Shown P T) (s : P) where
  -- an item at i, or none, is shown and stored, and a yes pops it
  tested_bag : (pop : List T → plain.Edit (Option T) T) → ((l : List T) → Perm l ((pop l).list ++ option_to_list (pop l).answer)) → (l : List T) (i : ℕ) (o : Option T) → slice_get l i ≡ o
      → let after = stored (left rule s o) i l in
      let e = cond (yes_to rule s o) (pop after) (plain.edited None after) in
      Perm (option_to_list (left rule s o) ++ l) (e.list ++ option_to_list e.answer ++ [] ++ option_to_list o)
  tested_bag pop bag l i None h = unmoved l
  tested_bag pop bag l i (Some x) h =
      let y : T = (rule s x).item in
      let after : List T = set l i y in
      let base = set_bag l i x y h in
      cond_both (rule s x).answer (pop after) (plain.edited None after) (λ e. Perm (y ∷ l) (e.list ++ option_to_list e.answer ++ [] ++ x ∷ []))
      (λ _. simp append-nil (Perm.trans base (Perm.append_right (x ∷ []) (bag after))))
      (λ _. simp append-nil base)

  changed_bag : (l : List T) (i : ℕ) (o : Option T) → slice_get l i ≡ o → Perm (option_to_list (left rule s o) ++ l) (stored (left rule s o) i l ++ [] ++ [] ++ option_to_list o)
  changed_bag l i None h = unmoved l
  changed_bag l i (Some x) h = simp append-nil (set_bag l i x (rule s x).item h)

  test_balanced : (test : Test) (l : List T) → Balanced l (test_turn rule test s l)
  test_balanced (PopIf Front) l = tested_bag plain.pop_front front_bag l 0 (slice_get l 0) refl
  test_balanced (PopIf Back) l = tested_bag plain.pop_back back_bag l (length l - 1) (slice_get l (length l - 1)) refl
  test_balanced (Change index) l = changed_bag l index (slice_get l index) refl

  retain_balanced : (l : List T) → Balanced l (retain_turn rule s l)
  retain_balanced l = simp append-nil (Perm.append_right l (sifted_bag (showings rule s l)))

module _ {T P : Type 0} (rule : P → T → Shown P T) where
  pub balanced : (capacity lent : ℕ) (call : Call T) (ps : List P) (l : List T) → refusal call capacity lent (length l) ≡ None → Balanced l (turn rule capacity call ps l)
  balanced capacity lent (Edits edit) ps l h = edit_balanced edit capacity lent l h
  balanced capacity lent (Tests test predicate) ps l h = either_way (Balanced l) (slice_get ps predicate) (λ s. test_turn rule test s l) (unmade l) (unmoved l) (λ s. test_balanced rule s test l)
  balanced capacity lent (Releases release bin) ps l h = release_balanced release l
  balanced capacity lent (Retain predicate bin) ps l h = either_way (Balanced l) (slice_get ps predicate) (λ s. retain_turn rule s l) (unmade l) (unmoved l) (λ s. retain_balanced rule s l)
  balanced capacity lent (Reads read) ps l h = unmoved l
  balanced capacity lent IntoIter ps l h = unmoved l
  balanced capacity lent (Close bin) ps l h = simp append-nil (Perm.refl l)
