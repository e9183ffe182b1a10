-- The ring and the plain list go together, request by request and over whole histories.
use Rattle.std.proofs.Common.{◌≡◌, ℕ, ◌+◌, ◌%◌, ◌^◌, ◌<◌, ◌≤◌, true, false, cond, List, [], ◌∷◌, ◌++◌, map, length, Some, None, Ok, Err, fold, Option, sym, refl, ap, ◌∙◌, subst, ap₂, subst₂, arith}
use mathlib.Core.Path.{subst₃}
use mathlib.Core.List.{Perm}
use Rattle.std.specs.List.{slice_get}
use Rattle.std.proofs.lemmas.List.{append-nil}
use Rattle.fault.specs.declared.Fault.{Fault}
use Rattle.predicates.specs.Showing.{Shown}
use Rattle.bins.proofs.Counts.{counted}
use Rattle.places.specs.declared.Places.{Places}
use Rattle.deque.specs.Sound.{Sound}
use Rattle.deque.specs.Ring.{contents}
use Rattle.deque.specs.Moves as moves
use Rattle.deque.proofs.Contents.{length_contents, contents_none}
use Rattle.calls.specs.Calls.{bin_of, predicate_of, next_phase, refusal, made}
use Rattle.calls.specs.Answers.{Heard, said, slices, walked, plainly, idle, struck}
use Rattle.calls.specs.PlainList.{Plain, Step, Flow, Turn, turn, test_turn, edit_turn, release_turn, retain_turn, unmade, reading, nothing, next_state, moved_at, turned}
use Rattle.calls.specs.PlainList as plain_list
use Rattle.calls.specs.RingAt.{Lies, lie, list_of, lies_after, told, Moment, Happened, plain_of, acts}
use Rattle.calls.specs.RingAt as ring_at
use Rattle.calls.specs.Law.{making, Holds}
use Rattle.calls.specs.declared.answer.Value.TheVariants.{Done, Item, Verdict, Number, Flag, Contiguous}
use Rattle.calls.specs.declared.answer.NotDone.TheVariants.{Unmade, Refused}
use Rattle.calls.specs.declared.call.Edit.TheVariants.{Load, Push, Pop, Swap, SwapRemove, MakeContiguous}
use Rattle.calls.specs.declared.call.Test.TheVariants.{PopIf, Change}
use Rattle.calls.specs.declared.call.Release.TheVariants.{Truncate, Clear}
use Rattle.calls.specs.declared.call.Read.TheVariants.{Get, AtEnd, Len, Capacity, IsEmpty, IsFull, Slices, Walk}
use Rattle.calls.specs.declared.call.Call.{Call}
use Rattle.calls.specs.declared.call.Call.TheVariants.{Edit as Edits, Test as Tests, Release as Releases, Retain, Read as Reads, IntoIter, Close}
use Rattle.calls.specs.declared.call.Request.{Request}
use Rattle.calls.proofs.PlainLaws.{run_balanced, struck_run, struck_answers, effective_of, unmoved_at, length_moved_at, fed, bins_run, struck_bins, bins_fed}
use Rattle.calls.proofs.Predicates.{either_way}
use Rattle.calls.proofs.RingLaw.{ring_law}

module _ {T : Type 0} where
  idle_plainly : (a : Heard T) → idle (plainly a) ≡ idle a
  idle_plainly (said (Ok Done)) = refl
  idle_plainly (said (Ok (Item item))) = refl
  idle_plainly (said (Ok (Verdict verdict))) = refl
  idle_plainly (said (Ok (Number number))) = refl
  idle_plainly (said (Ok (Flag flag))) = refl
  idle_plainly (said (Ok (Contiguous front len))) = refl
  idle_plainly (said (Err Unmade)) = refl
  idle_plainly (said (Err (Refused fault item))) = refl
  idle_plainly (slices front first second) = refl
  idle_plainly (walked items) = refl

  struck_plainly : {X : Type 0} (as1 : List (Heard T)) (xs : List X) → struck (map plainly as1) xs ≡ struck as1 xs
  struck_plainly [] xs = refl
  struck_plainly (a ∷ as1) [] = refl
  struck_plainly (a ∷ as1) (x ∷ xs) =
      ap (λ b. cond b (struck (map plainly as1) xs) (x ∷ struck (map plainly as1) xs)) (idle_plainly a) ∙ ap (λ l. cond (idle a) l (x ∷ l)) (struck_plainly as1 xs)

  map_struck : {X Y : Type 0} (f : X → Y) (as1 : List (Heard T)) (xs : List X) → map f (struck as1 xs) ≡ struck as1 (map f xs)
  map_struck f [] xs = refl
  map_struck f (a ∷ as1) [] = refl
  map_struck f (a ∷ as1) (x ∷ xs) =
      elim (idle a) as (λ b. map f (cond b (struck as1 xs) (x ∷ struck as1 xs)) ≡ cond b (struck as1 (map f xs)) (f x ∷ struck as1 (map f xs))) [
        | true ↦ map_struck f as1 xs
        | false ↦ ap (λ l. f x ∷ l) (map_struck f as1 xs)
      ]

module _ {T P : Type 0} (rule : P → T → Shown P T) (p : Places) (xs : List T) where
  -- what the ring tells is the plain answer, but for what `plainly` leaves out
  abbrev Steady : Turn T → Type 0
  Steady t = plainly (told p xs t.answer) ≡ t.answer

  told_plainly : (call : Call T) (ps : List P) → Steady (turn rule p.capacity call ps (contents p xs))
  unfolding contents
  told_plainly (Edits (Load items)) ps = refl
  told_plainly (Edits (Push end item)) ps = refl
  told_plainly (Edits (Pop end)) ps = refl
  told_plainly (Edits (Swap i j)) ps = refl
  told_plainly (Edits (SwapRemove end index)) ps = refl
  told_plainly (Edits MakeContiguous) ps = refl
  told_plainly (Tests (PopIf end) predicate) ps = either_way Steady (slice_get ps predicate) (λ s. test_turn rule (PopIf end) s (contents p xs)) (unmade (contents p xs)) refl (λ s. refl)
  told_plainly (Tests (Change index) predicate) ps = either_way Steady (slice_get ps predicate) (λ s. test_turn rule (Change index) s (contents p xs)) (unmade (contents p xs)) refl (λ s. refl)
  told_plainly (Releases (Truncate len) bin) ps = refl
  told_plainly (Releases Clear bin) ps = refl
  told_plainly (Retain predicate bin) ps = either_way Steady (slice_get ps predicate) (λ s. retain_turn rule s (contents p xs)) (unmade (contents p xs)) refl (λ s. refl)
  told_plainly (Reads (Get index)) ps = refl
  told_plainly (Reads (AtEnd end)) ps = refl
  told_plainly (Reads Len) ps = refl
  told_plainly (Reads Capacity) ps = refl
  told_plainly (Reads IsEmpty) ps = refl
  told_plainly (Reads IsFull) ps = refl
  told_plainly (Reads Slices) ps = refl
  told_plainly (Reads (Walk ends)) ps = refl
  told_plainly IntoIter ps = refl
  told_plainly (Close bin) ps = refl

-- a ring with its slots
pub record Fit {T : Type 0} (r : Lies T) : Type 0 where
  pub sound : Sound r.places
  pub enough : r.places.capacity ≤ length r.slots

module _ {T S P : Type 0} (takes : S → T → S) (rule : P → T → Shown P T) where
  -- what one request comes to, at the ring and at its plain list
  record Together (m : Moment T S P) (q : Request T) (h : Happened T S P) (r : Step T P) : Type 0 where
    capacity : h.after.lies.places.capacity ≡ m.lies.places.capacity
    bin_count : length h.after.bins ≡ length m.bins
    same : plain_of takes rule h.after ≡ r.after
    fit : Fit h.after.lies
    answered : plainly h.answer ≡ r.answer
    binned : h.after.bins ≡ fed takes (bin_of q.call) r.flow.binned m.bins

  at_rest : (m : Moment T S P) (q : Request T) (a : Heard T) → plainly a ≡ a → Fit m.lies → Together m q (record { after = m; answer = a }) (record { after = plain_of takes rule m; answer = a; flow = nothing })
  at_rest m q a e f = record { capacity = refl; bin_count = refl; same = refl; fit = f; answered = e; binned = sym (unmoved_at (bin_of q.call) m.bins) }

  acting : (m : Moment T S P) (q : Request T) → Fit m.lies → (o : Option Fault) → (o ≡ None → refusal q.call m.lies.places.capacity q.lent m.lies.places.len ≡ None) →
      Together m q (acts takes rule m q.call o) (turned rule m.lies.places.capacity (length m.bins) (plain_of takes rule m) q.call o)
  acting m q f (Some fault) h = at_rest m q _ refl f
  acting m q f None h =
      let call = q.call in
      let p = m.lies.places in
      let xs = m.lies.slots in
      let ps = m.predicates in
      let t = turn rule p.capacity call ps (contents p xs) in
      let next = moved_at (predicate_of call) (next_state rule call (contents p xs)) ps in
      let g = ring_law rule p xs f.sound f.enough call ps q.lent (h refl) in
      let Is : List T → Plain T P = λ l. record { phase = next_phase m.phase call; list = l; predicates = next } in
      record {
        capacity = g.same_capacity;
        bin_count = length_moved_at (bin_of call) (λ s. fold takes s t.flow.binned) m.bins;
        same = ap Is g.list;
        fit = record { sound = g.sound; enough = subst (λ n. n ≤ length (lies_after rule call ps p xs).slots) (sym g.same_capacity) g.enough };
        answered = told_plainly rule p xs call ps;
        binned = refl;
      }

  together : (m : Moment T S P) (q : Request T) → Fit m.lies →
      Together m q (ring_at.step takes rule m q) (plain_list.step rule m.lies.places.capacity (length m.bins) (plain_of takes rule m) q)
  together m q f =
      let N = m.lies.places.capacity in
      let B = length m.bins in
      let s = plain_of takes rule m in
      let n : length (list_of m.lies) ≡ m.lies.places.len = length_contents m.lies.places m.lies.slots f.sound f.enough in
      let o = refusal q.call N q.lent m.lies.places.len in
      let t : Together m q (ring_at.step takes rule m q) (cond (made m.phase B (length m.predicates) q.call) (turned rule N B s q.call o) (record { after = s; answer = said (Err Unmade); flow = nothing })) =
      elim (made m.phase B (length m.predicates) q.call) as (λ b. Together m q (cond b (acts takes rule m q.call o) (record { after = m; answer = said (Err Unmade) })) (cond b (turned rule N B s q.call o) (record { after = s; answer = said (Err Unmade); flow = nothing }))) [
        | true ↦ acting m q f o (λ e. e)
        | false ↦ at_rest m q (said (Err Unmade)) refl f
      ] in
      subst (λ k. Together m q (ring_at.step takes rule m q) (cond (made m.phase B (length m.predicates) q.call) (turned rule N B s q.call (refusal q.call N q.lent k)) (record { after = s; answer = said (Err Unmade); flow = nothing }))) (sym n) t

  pub step_fit : (m : Moment T S P) (q : Request T) → Fit m.lies → Fit (ring_at.step takes rule m q).after.lies
  step_fit m q f = (together m q f).fit

  -- over a whole history
  record Along (m : Moment T S P) (N B : ℕ) (s : Plain T P) (qs : List (Request T)) : Type 0 where
    same : plain_of takes rule (ring_at.run takes rule m qs) ≡ plain_list.run rule N B s qs
    answered : map plainly (ring_at.answers takes rule m qs) ≡ plain_list.answers rule N B s qs
    binned : (ring_at.run takes rule m qs).bins ≡ bins_run takes rule N B m.bins s qs

  along : (m : Moment T S P) (qs : List (Request T)) → Fit m.lies → Along m m.lies.places.capacity (length m.bins) (plain_of takes rule m) qs
  along m [] f = record { same = refl; answered = refl; binned = refl }
  along m (q ∷ qs) f =
      let t = together m q f in
      let N = m.lies.places.capacity in
      let B = length m.bins in
      let m1 = (ring_at.step takes rule m q).after in
      let r = plain_list.step rule N B (plain_of takes rule m) q in
      let a : Along m1 N B r.after qs = subst₃ (λ N B s. Along m1 N B s qs) t.capacity t.bin_count t.same (along m1 qs t.fit) in
      record { same = a.same; answered = ap₂ ◌∷◌ t.answered a.answered; binned = a.binned ∙ ap (λ bs. bins_run takes rule N B bs r.after qs) t.binned }

  from_empty : (t u none l ring h b f : List T) → none ≡ [] → ring ≡ l → Perm (t ++ (u ++ none)) (l ++ h ++ b ++ f) → Perm (t ++ u) (ring ++ h ++ b ++ f)
  from_empty t u none l ring h b f e1 e2 p = subst₂ (λ x y. Perm (t ++ x) (y ++ h ++ b ++ f)) (ap (λ z. u ++ z) e1 ∙ append-nil u) (sym e2) p

  pub making_fit : (slots : List T) → Fit (lie (moves.fresh (length slots)) slots)
  making_fit slots = record { sound = (omega arith, omega arith, omega arith); enough = omega arith }

  pub holds : (count : S → ℕ) → ((s : S) (x : T) → count (takes s x) ≡ (count s + 1) % 2 ^ 64) → ((s : S) → count s < 2 ^ 64) →
      (slots : List T) (bins : List S) (predicates : List P) (qs : List (Request T)) → Holds takes count rule (making takes count rule slots bins predicates) qs
  holds count counts fits slots bins predicates qs =
      let m = making takes count rule slots bins predicates in
      let N = m.lies.places.capacity in
      let B = length bins in
      let s = plain_of takes rule m in
      let fit = making_fit slots in
      let a = along m qs fit in
      let answers = ring_at.answers takes rule m qs in
      let eff = struck answers qs in
      let same_eff : eff ≡ effective_of rule N B s qs = sym (struck_plainly answers qs) ∙ ap (λ l. struck l qs) a.answered in
      let w = along m eff fit in
      let same_end : plain_of takes rule (ring_at.run takes rule m eff) ≡ plain_of takes rule (ring_at.run takes rule m qs) =
      w.same ∙ ap (plain_list.run rule N B s) same_eff ∙ struck_run rule N B s qs ∙ sym a.same in
      record {
        follows = record {
          list = ap (λ (x : Plain T P). x.list) a.same;
          predicates = ap (λ (x : Plain T P). x.predicates) a.same;
          phase = ap (λ (x : Plain T P). x.phase) a.same;
          answers = a.answered;
        };
        balance = from_empty (plain_list.all rule N B (λ f. f.taken) s qs) (plain_list.all rule N B (λ f. f.left) s qs) _ _ _ _ _ _ (contents_none (moves.fresh (length slots)) slots fit.sound fit.enough refl) (ap (λ (x : Plain T P). x.list) a.same) (run_balanced rule N B s qs);
        bins = record {
          states = λ b x e. ap (λ l. slice_get l b) a.binned ∙ bins_fed takes rule N B bins s qs b x e;
          counts = λ b x e. counted takes count counts fits x _;
        };
        idle = record {
          list = ap (λ (x : Plain T P). x.list) same_end;
          bins = w.binned ∙ ap (bins_run takes rule N B bins s) same_eff ∙ struck_bins takes rule N B bins s qs ∙ sym a.binned;
          predicates = ap (λ (x : Plain T P). x.predicates) same_end;
          answers = w.answered ∙ ap (plain_list.answers rule N B s) same_eff ∙ struck_answers rule N B s qs ∙ ap₂ struck (sym a.answered) (sym a.answered) ∙ struck_plainly answers (map plainly answers) ∙ sym (map_struck plainly answers answers);
        };
      }
