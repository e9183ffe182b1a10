-- Each accepted call leaves a ring whose list is the edit of the list before.
use Rattle.std.proofs.Common.{◌≡◌, ℕ, zero, ◌+◌, ◌-◌, ◌<◌, ◌≤◌, min, Bool, true, false, cond, ◌==◌, nat_lt, List, [], ◌++◌, length, take, drop, Some, None, Option, sym, refl, ap, ◌∙◌, subst, inl, inr, mod-lt, arith, length-append, length-drop, length-set, length-take}
use Rattle.std.specs.List.{slice_get, swap}
use Rattle.std.specs.Option.{option_map_or}
use Rattle.std.proofs.lemmas.List.Edits.{length-swap}
use Rattle.std.proofs.lemmas.List.{take_at, take_all}
use Rattle.std.proofs.lemmas.Option.{slice_get_past}
use Rattle.std.proofs.lemmas.Bool.{cond_both, cases_lt, ltb-true, eqb-true, eqb-false}
use Rattle.predicates.specs.Showing.{Shown, yes_to, left, stored, showings}
use Rattle.places.specs.declared.Places.{Places}
use Rattle.deque.specs.Sound.{Sound}
use Rattle.deque.specs.Ring.{slot, contents, lay}
use Rattle.deque.specs.Plain as plain
use Rattle.deque.specs.Moves.{placed}
use Rattle.deque.specs.Moves as moves
use Rattle.deque.specs.Writes as writes
use Rattle.deque.specs.Sifting.{kept, rest}
use Rattle.deque.proofs.Contents.{length_contents, contents_none, contents_set, contents_push_back, contents_push_front, contents_pop_front, contents_pop_back, contents_truncate, before_below}
use Rattle.deque.proofs.Edited.{contents_exchanged, contents_load}
use Rattle.deque.proofs.Gathered.{new_front_fits, front_stays, contents_gathered}
use Rattle.deque.proofs.Laid.{length_lay, contents_lay}
use Rattle.deque.proofs.Sifts.{length_showings, length_sifted}
use Rattle.calls.specs.Calls.{edit_refusal, refusal}
use Rattle.calls.specs.PlainList.{Turn, edit_turn, release_turn, test_turn, retain_turn, turn, popped, item_at}
use Rattle.calls.specs.PlainList as plain_list
use Rattle.calls.specs.RingAt.{Lies, lie, list_of, pops, releases, edits, tests, retains, lies_after}
use Rattle.calls.specs.RingAt as ring_at
use Rattle.places.specs.declared.End.{End}
use Rattle.places.specs.declared.End.TheVariants.{Front, Back}
use Rattle.calls.specs.declared.call.Edit.{Edit}
use Rattle.calls.specs.declared.call.Edit.TheVariants.{Load, Push, Pop, Swap, SwapRemove, MakeContiguous}
use Rattle.calls.specs.declared.call.Test.{Test}
use Rattle.calls.specs.declared.call.Test.TheVariants.{PopIf, Change}
use Rattle.calls.specs.declared.call.Release.{Release}
use Rattle.calls.specs.declared.call.Release.TheVariants.{Truncate, Clear}
use Rattle.calls.specs.declared.call.Call.{Call}
use Rattle.calls.specs.declared.call.Call.TheVariants.{Edit as Edits, Test as Tests, Release as Releases, Retain, Read as Reads, IntoIter, Close}
use Rattle.calls.proofs.Refusing.{load_fits, not_full, both_inside}

-- a ring of this capacity that is sound, has its slots, and has this list
pub record Good {T : Type 0} (capacity : ℕ) (r : Lies T) (l : List T) : Type 0 where
  pub list : list_of r ≡ l
  pub sound : Sound r.places
  pub same_capacity : r.places.capacity ≡ capacity
  pub enough : capacity ≤ length r.slots

module _ {T : Type 0} (p : Places) (xs : List T) (ok : Sound p) (enough : p.capacity ≤ length xs) where
  abbrev N : ℕ
  N = p.capacity

  abbrev l : List T
  l = contents p xs

  size : length l ≡ p.len
  size = length_contents p xs ok enough

  pub stays : Good N (lie p xs) l
  stays = record { list = refl; sound = ok; same_capacity = refl; enough = enough }

  pub pushed_good : (end : End) (x : T) → p.len < p.capacity → Good N (ring_at.pushes end x p xs) (plain_list.pushed end x l).list
  pushed_good Front x h =
      let below = before_below p ok (omega arith) in
      record { list = contents_push_front p xs ok enough x h; sound = (omega arith, omega arith, omega arith); same_capacity = refl; enough = simp length-set enough }
  pushed_good Back x h =
      record { list = contents_push_back p xs ok enough x h; sound = (omega arith, omega arith, omega arith); same_capacity = refl; enough = simp length-set enough }

  pub popped_good : (end : End) → Good N (lie (pops end p) xs) (popped end l).list
  popped_good Front =
      cond_both (p.len == 0) p (placed p (slot p 1) (p.len - 1)) (λ q. Good N (lie q xs) (drop 1 l))
      (λ e. let none = contents_none p xs ok enough (eqb-true p.len 0 e) in
      record { list = none ∙ sym (ap (drop 1) none); sound = ok; same_capacity = refl; enough = enough })
      (λ e. let some : 0 < p.len = elim (cases_lt 0 p.len) [ inl a ↦ a | inr a ↦ absurd (eqb-false p.len 0 e (omega arith)) ] in
      let low : zero < p.capacity = omega arith in
      let below = mod-lt (p.front + 1) low in
      record { list = contents_pop_front p xs ok enough some; sound = (omega arith, omega arith, omega arith); same_capacity = refl; enough = enough })
  popped_good Back = record { list = contents_pop_back p xs ok enough; sound = (omega arith, omega arith, omega arith); same_capacity = refl; enough = enough }

  -- an item, or none, stored as item i
  pub stored_good : (i : ℕ) (o : Option T) → (p.len ≤ i → o ≡ None) → Good N (lie p (stored o (slot p i) xs)) (stored o i l)
  stored_good i None h = stays
  stored_good i (Some x) h =
      let inside : i < p.len = elim (cases_lt i p.len) [ inl a ↦ a | inr a ↦ cc (h a) ] in
      record { list = contents_set p xs ok enough i x inside; sound = ok; same_capacity = refl; enough = simp length-set enough }

  exchanged_good : (i j : ℕ) → i < p.len → j < p.len → Good N (lie p (swap xs (slot p i) (slot p j))) (swap l i j)
  exchanged_good i j hi hj =
      record { list = contents_exchanged p ok xs enough i j hi hj; sound = ok; same_capacity = refl; enough = simp length-swap enough }

  pub truncated_good : (n : ℕ) → Good N (lie (moves.truncate n p) xs) (take n l)
  truncated_good n =
      let m : min n p.len ≤ p.len = omega arith in
      let shorter : take (min n p.len) l ≡ take n l =
      elim (cases_lt n p.len) [
        | inl a ↦ let e : min n p.len ≡ n = omega arith in ap (λ k. take k l) e
        | inr a ↦ let s = size in take_all (min n p.len) l (omega arith) ∙ sym (take_all n l (omega arith))
      ] in
      record { list = contents_truncate p xs ok enough (min n p.len) m ∙ shorter; sound = (omega arith, omega arith, omega arith); same_capacity = refl; enough = enough }

  pub cleared_good : Good N (lie (moves.clear p) xs) []
  cleared_good =
      let sound : Sound (moves.clear p) = (omega arith, omega arith, omega arith) in
      record { list = contents_none (moves.clear p) xs sound enough refl; sound = sound; same_capacity = refl; enough = enough }

  gathered_good : Good N (lie (moves.make_contiguous p) (writes.make_contiguous p xs)) l
  gathered_good =
      let fits = new_front_fits p ok in
      let s = size in
      let long : N ≤ length (writes.make_contiguous p xs) = simp (length-append, length-take, length-drop) (omega arith) in
      elim (cases_lt 0 p.len) [
        | inl some ↦ record { list = contents_gathered p xs ok enough some; sound = (omega arith, omega arith, omega arith); same_capacity = refl; enough = long }
        | inr none ↦
            let front = front_stays p ok (omega arith) in
            let sound : Sound (moves.make_contiguous p) = (omega arith, omega arith, omega arith) in
            record { list = contents_none (moves.make_contiguous p) (writes.make_contiguous p xs) sound long (omega arith) ∙ sym (contents_none p xs ok enough (omega arith)); sound = sound; same_capacity = refl; enough = long }
      ]

  -- the items kept come first, and the rest is cut off
  laid_good : (ks rs : List T) → length ks + length rs ≡ p.len → Good N (lie (moves.retain (length ks) p) (writes.retain ks rs p xs)) ks
  laid_good ks rs sum =
      let all : List T = ks ++ rs in
      let len : length all ≡ p.len = length-append ks rs ∙ sum in
      let long = length_lay p xs all ok enough len in
      let room : N ≤ length (lay p xs all) = omega arith in
      record {
        list = contents_truncate p (lay p xs all) ok room (length ks) (omega arith) ∙ ap (take (length ks)) (contents_lay p xs all ok enough len) ∙ take_at ks rs (length ks) refl;
        sound = (omega arith, omega arith, omega arith);
        same_capacity = refl;
        enough = room;
      }

module _ {T : Type 0} (p : Places) (xs : List T) (ok : Sound p) (enough : p.capacity ≤ length xs) where
  -- after an exchange, or none, and then a pop
  swap_removed_good : (end : End) (i j : ℕ) → (i < p.len → j < p.len) → (b : Bool) → nat_lt i p.len ≡ b
      → Good p.capacity (lie (cond b (pops end p) p) (cond b (swap xs (slot p i) (slot p j)) xs)) (cond b (popped end (swap (contents p xs) i j)) (plain.edited None (contents p xs))).list
  swap_removed_good end i j inside true e =
      let hi = ltb-true i p.len e in
      let g = exchanged_good p xs ok enough i j hi (inside hi) in
      subst (λ l. Good p.capacity (lie (pops end p) (swap xs (slot p i) (slot p j))) (popped end l).list) g.list (popped_good p (swap xs (slot p i) (slot p j)) ok g.enough end)
  swap_removed_good end i j inside false e = stays p xs ok enough

  edit_good : (edit : Edit T) (lent : ℕ) → edit_refusal edit p.capacity lent p.len ≡ None → Good p.capacity (edits edit p xs) (edit_turn edit (contents p xs)).list
  edit_good (Load items) lent h =
      let fits = load_fits (length items.now) p.capacity lent p.len h in
      record { list = contents_load p ok xs items.now enough fits.0 fits.1; sound = (omega arith, omega arith, omega arith); same_capacity = refl; enough = simp (length-append, length-drop) (omega arith) }
  edit_good (Push end item) lent h =
      let ne = not_full p.capacity lent p.len h in
      let room : p.len < p.capacity = elim (cases_lt p.len p.capacity) [ inl a ↦ a | inr a ↦ absurd (ne (omega arith)) ] in
      pushed_good p xs ok enough end item room
  edit_good (Pop end) lent h = popped_good p xs ok enough end
  edit_good (Swap i j) lent h =
      let both = both_inside i j p.capacity lent p.len h in
      exchanged_good p xs ok enough i j both.0 both.1
  edit_good (SwapRemove Front index) lent h =
      let s = length_contents p xs ok enough in
      subst (λ n. Good p.capacity (edits (SwapRemove Front index) p xs) (cond (nat_lt index n) (popped Front (swap (contents p xs) index 0)) (plain.edited None (contents p xs))).list) (sym s)
      (swap_removed_good Front index 0 (λ i. omega arith) (nat_lt index p.len) refl)
  edit_good (SwapRemove Back index) lent h =
      let s = length_contents p xs ok enough in
      subst (λ n. Good p.capacity (edits (SwapRemove Back index) p xs) (cond (nat_lt index n) (popped Back (swap (contents p xs) index (n - 1))) (plain.edited None (contents p xs))).list) (sym s)
      (swap_removed_good Back index (p.len - 1) (λ i. omega arith) (nat_lt index p.len) refl)
  edit_good MakeContiguous lent h = gathered_good p xs ok enough

  release_good : (release : Release) → Good p.capacity (lie (releases release p) xs) (release_turn release (contents p xs)).list
  release_good (Truncate len) = truncated_good p xs ok enough len
  release_good Clear = cleared_good p xs ok enough

module _ {T P : Type 0} (rule : P → T → Shown P T) (s : P) (p : Places) (xs : List T) (ok : Sound p) (enough : p.capacity ≤ length xs) where
  -- an item shown at i is stored as left
  shown_good : (i : ℕ) → Good p.capacity (lie p (stored (left rule s (slice_get (contents p xs) i)) (slot p i) xs)) (stored (left rule s (slice_get (contents p xs) i)) i (contents p xs))
  shown_good i = stored_good p xs ok enough i (left rule s (slice_get (contents p xs) i)) (λ h. ap (left rule s) (slice_get_past (contents p xs) i (omega (arith, length_contents p xs ok enough))))

  -- and a yes pops it
  tested_good : (end : End) (i : ℕ) (b : Bool) → let after = stored (left rule s (slice_get (contents p xs) i)) i (contents p xs) in
      Good p.capacity (lie (cond b (pops end p) p) (stored (left rule s (slice_get (contents p xs) i)) (slot p i) xs)) (cond b (popped end after) (plain.edited None after)).list
  tested_good end i true =
      let g = shown_good i in
      let ys = stored (left rule s (slice_get (contents p xs) i)) (slot p i) xs in
      subst (λ l. Good p.capacity (lie (pops end p) ys) (popped end l).list) g.list (popped_good p ys ok g.enough end)
  tested_good end i false = shown_good i

  test_good : (test : Test) → Good p.capacity (tests rule test s p xs) (test_turn rule test s (contents p xs)).list
  test_good (PopIf Front) = tested_good Front 0 (yes_to rule s (plain.front (contents p xs)))
  test_good (PopIf Back) =
      let w : Option T = plain.back (contents p xs) in
      let n = length (contents p xs) in
      let g = tested_good Back (n - 1) (yes_to rule s w) in
      let e : n ≡ p.len = length_contents p xs ok enough in
      subst (λ k. Good p.capacity (lie (cond (yes_to rule s w) (pops Back p) p) (stored (left rule s w) (slot p (k - 1)) xs)) (test_turn rule (PopIf Back) s (contents p xs)).list) e g
  test_good (Change index) = shown_good index

  retain_good : Good p.capacity (retains rule s p xs) (retain_turn rule s (contents p xs)).list
  retain_good =
      let ws = showings rule s (contents p xs) in
      laid_good p xs ok enough (kept ws) (rest ws) (length_sifted ws ∙ length_showings rule s (contents p xs) ∙ length_contents p xs ok enough)

module _ {T P : Type 0} (rule : P → T → Shown P T) (p : Places) (xs : List T) (ok : Sound p) (enough : p.capacity ≤ length xs) where
  with_good : (o : Option P) (does : P → Turn T) (leaves : P → Lies T) → ((s : P) → Good p.capacity (leaves s) (does s).list)
      → Good p.capacity (option_map_or leaves o (lie p xs)) (option_map_or does o (plain_list.unmade (contents p xs))).list
  with_good None does leaves h = stays p xs ok enough
  with_good (Some s) does leaves h = h s

  pub ring_law : (call : Call T) (ps : List P) (lent : ℕ) → refusal call p.capacity lent p.len ≡ None → Good p.capacity (lies_after rule call ps p xs) (turn rule p.capacity call ps (contents p xs)).list
  ring_law (Edits edit) ps lent h = edit_good p xs ok enough edit lent h
  ring_law (Tests test predicate) ps lent h = with_good (slice_get ps predicate) (λ s. test_turn rule test s (contents p xs)) (λ s. tests rule test s p xs) (λ s. test_good rule s p xs ok enough test)
  ring_law (Releases release bin) ps lent h = release_good p xs ok enough release
  ring_law (Retain predicate bin) ps lent h = with_good (slice_get ps predicate) (λ s. retain_turn rule s (contents p xs)) (λ s. retains rule s p xs) (λ s. retain_good rule s p xs ok enough)
  ring_law (Reads read) ps lent h = stays p xs ok enough
  ring_law IntoIter ps lent h = stays p xs ok enough
  ring_law (Close bin) ps lent h = cleared_good p xs ok enough
