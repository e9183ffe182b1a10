-- The ring: its places and slots, with bins and predicates beside it, and where each call leaves them.
use Rattle.std.specs.Prelude.{ℕ, ◌-◌, cond, List, [], ◌∷◌, length, Err, fold, Option}
use Rattle.std.specs.List.{slice_get}
use Rattle.std.specs.Option.{option_map_or}
use Rattle.fault.specs.declared.Fault.{Fault}
use Rattle.fault.specs.Refusing.{unless}
use Rattle.predicates.specs.Showing.{Shown, yes_to, left}
use Rattle.places.specs.declared.Places.{Places}
use Rattle.deque.specs.Ring.{contents, new_front}
use Rattle.deque.specs.Ring as parts
use Rattle.deque.specs.Plain as plain
use Rattle.deque.specs.Moves as moves
use Rattle.deque.specs.Writes as writes
use Rattle.calls.specs.Calls.{Phase, bin_of, predicate_of, next_phase, refusal, brings, made}
use Rattle.calls.specs.Answers.{Heard, said, slices, walked, unless_refused, answer_from}
use Rattle.calls.specs.PlainList.{Plain, Turn, turn, next_state, moved_at}
use Rattle.calls.specs.declared.answer.NotDone.TheVariants.{Unmade}
use Rattle.places.specs.declared.End.{End}
use Rattle.places.specs.declared.End.TheVariants.{Front, Back}
use Rattle.calls.specs.declared.call.Edit.{Edit}
use Rattle.calls.specs.declared.call.Edit.TheVariants.{Load, Push, Pop, Swap, SwapRemove, MakeContiguous}
use Rattle.calls.specs.declared.call.Test.{Test}
use Rattle.calls.specs.declared.call.Test.TheVariants.{PopIf, Change}
use Rattle.calls.specs.declared.call.Release.{Release}
use Rattle.calls.specs.declared.call.Release.TheVariants.{Truncate, Clear}
use Rattle.calls.specs.declared.call.Call.{Call}
use Rattle.calls.specs.declared.call.Call.TheVariants.{Edit as Edits, Test as Tests, Release as Releases, Retain, Read as Reads, IntoIter, Close}
use Rattle.calls.specs.declared.call.Request.{Request}

-- a ring in its slots
pub record Lies (T : Type 0) : Type 0 where
  pub places : Places
  pub slots : List T

abbrev pub pops : End → Places → Places
pops Front p = moves.pop_front p
pops Back p = moves.pop_back p

abbrev pub releases : Release → Places → Places
releases (Truncate len) p = moves.truncate len p
releases Clear p = moves.clear p

module _ {T : Type 0} where
  abbrev pub lie : Places → List T → Lies T
  lie p xs = record { places = p; slots = xs }

  abbrev pub list_of : Lies T → List T
  list_of r = contents r.places r.slots

  -- where each accepted edit leaves the ring
  abbrev pub pushes : End → T → Places → List T → Lies T
  pushes Front x p xs = lie (moves.push_front p) (writes.push_front x p xs)
  pushes Back x p xs = lie (moves.push_back p) (writes.push_back x p xs)

  abbrev pub swap_removes : End → ℕ → Places → List T → Lies T
  swap_removes Front i p xs = lie (moves.swap_remove_front i p) (writes.swap_remove_front i p xs)
  swap_removes Back i p xs = lie (moves.swap_remove_back i p) (writes.swap_remove_back i p xs)

  abbrev pub edits : Edit T → Places → List T → Lies T
  edits (Load items) p xs = lie (moves.load (length items.now) p) (writes.load items.now xs)
  edits (Push end item) p xs = pushes end item p xs
  edits (Pop end) p xs = lie (pops end p) xs
  edits (Swap i j) p xs = lie p (writes.swap i j p xs)
  edits (SwapRemove end index) p xs = swap_removes end index p xs
  edits MakeContiguous p xs = lie (moves.make_contiguous p) (writes.make_contiguous p xs)

  -- what the ring answers where the plain list does not know: the new front, and the slots in which two slices lie
  abbrev pub told : Places → List T → Heard T → Heard T
  told p xs (said answer) = said (answer_from (new_front p) answer)
  told p xs (slices front first second) = slices p.front (parts.slices p xs).0 (parts.slices p xs).1
  told p xs (walked items) = walked items

module _ {T P : Type 0} (rule : P → T → Shown P T) where
  -- the same of the calls that show items to a predicate in the state s
  abbrev pub pops_if : End → P → Places → List T → Lies T
  pops_if Front s p xs =
      let item : Option T = plain.front (contents p xs) in
      lie (moves.pop_front_if (yes_to rule s item) p) (writes.store (left rule s item) 0 p xs)
  pops_if Back s p xs =
      let item : Option T = plain.back (contents p xs) in
      lie (moves.pop_back_if (yes_to rule s item) p) (writes.store (left rule s item) (p.len - 1) p xs)

  abbrev pub tests : Test → P → Places → List T → Lies T
  tests (PopIf end) s p xs = pops_if end s p xs
  tests (Change index) s p xs = lie p (writes.store (left rule s (plain.get index (contents p xs))) index p xs)

  abbrev pub retains : P → Places → List T → Lies T
  retains s p xs =
      let e : plain.Edit ℕ T = plain.retain rule s (contents p xs) in
      lie (moves.retain (length e.list) p) (writes.retain e.list e.binned p xs)

  -- where each accepted call leaves the ring: without its predicate as it was
  abbrev pub lies_after : Call T → List P → Places → List T → Lies T
  lies_after (Edits edit) ps p xs = edits edit p xs
  lies_after (Tests test predicate) ps p xs = option_map_or (λ s. tests test s p xs) (slice_get ps predicate) (lie p xs)
  lies_after (Releases release bin) ps p xs = lie (releases release p) xs
  lies_after (Retain predicate bin) ps p xs = option_map_or (λ s. retains s p xs) (slice_get ps predicate) (lie p xs)
  lies_after (Reads read) ps p xs = lie p xs
  lies_after IntoIter ps p xs = lie p xs
  lies_after (Close bin) ps p xs = lie (moves.clear p) xs

-- a ring at a moment, with the states of the bins and of the predicates beside it
pub record Moment (T S P : Type 0) : Type 0 where
  pub phase : Phase
  pub lies : Lies T
  pub bins : List S
  pub predicates : List P

pub record Happened (T S P : Type 0) : Type 0 where
  pub after : Moment T S P
  pub answer : Heard T

module _ {T S P : Type 0} (takes : S → T → S) (rule : P → T → Shown P T) where
  -- the plain list that a ring stands for
  abbrev pub plain_of : Moment T S P → Plain T P
  plain_of m = record { phase = m.phase; list = list_of m.lies; predicates = m.predicates }

  -- a call that is refused, and so changes nothing, or is not
  abbrev pub acts : Moment T S P → Call T → Option Fault → Happened T S P
  acts m call o =
      let p : Places = m.lies.places in
      let xs : List T = m.lies.slots in
      let l : List T = contents p xs in
      let t : Turn T = turn rule p.capacity call m.predicates l in
      record {
        after = record {
          phase = unless o m.phase (next_phase m.phase call);
          lies = unless o m.lies (lies_after rule call m.predicates p xs);
          bins = unless o m.bins (moved_at (bin_of call) (λ s. fold takes s t.flow.binned) m.bins);
          predicates = unless o m.predicates (moved_at (predicate_of call) (next_state rule call l) m.predicates);
        };
        answer = unless_refused o (brings call) (told p xs t.answer);
      }

  abbrev pub step : Moment T S P → Request T → Happened T S P
  step m q =
      cond (made m.phase (length m.bins) (length m.predicates) q.call)
      (acts m q.call (refusal q.call m.lies.places.capacity q.lent m.lies.places.len))
      (record { after = m; answer = said (Err Unmade) })

  -- a list of requests, one after another
  abbrev pub run : Moment T S P → List (Request T) → Moment T S P
  run m [] = m
  run m (q ∷ qs) = run (step m q).after qs

  abbrev pub answers : Moment T S P → List (Request T) → List (Heard T)
  answers m [] = []
  answers m (q ∷ qs) = (step m q).answer ∷ answers (step m q).after qs
