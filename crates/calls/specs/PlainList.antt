-- The plain list: what each call is for a list of items, front to back, with predicates beside it.
-- It is fed the capacity, how many bins there are, what the calls bring, and how many slots they are lent.
use Rattle.std.specs.Prelude.{ℕ, zero, suc, Bool, false, cond, List, [], ◌∷◌, ◌++◌, map, length, Some, None, Ok, Err, Option, ◌==◌}
use Rattle.std.specs.List.{slice_get}
use Rattle.std.specs.Option.{option_to_list, option_map_or}
use Rattle.fault.specs.declared.Fault.{Fault}
use Rattle.fault.specs.Refusing.{unless}
use Rattle.predicates.specs.Showing.{Shown, left, moved, showings, after}
use Rattle.deque.specs.Plain as plain
use Rattle.calls.specs.Calls.{Phase, bin_of, predicate_of, next_phase, refusal, brings, made}
use Rattle.calls.specs.Answers.{Heard, said, slices, walked, unless_refused}
use Rattle.calls.specs.declared.answer.Value.TheVariants.{Done, Item, Verdict, Number, Flag, Contiguous}
use Rattle.calls.specs.declared.answer.NotDone.TheVariants.{Unmade}
use Rattle.places.specs.declared.End.{End}
use Rattle.places.specs.declared.End.TheVariants.{Front, Back}
use Rattle.calls.specs.declared.call.Edit.{Edit}
use Rattle.calls.specs.declared.call.Edit.TheVariants.{Load, Push, Pop, Swap, SwapRemove, MakeContiguous}
use Rattle.calls.specs.declared.call.Test.{Test}
use Rattle.calls.specs.declared.call.Test.TheVariants.{PopIf, Change}
use Rattle.calls.specs.declared.call.Release.{Release}
use Rattle.calls.specs.declared.call.Release.TheVariants.{Truncate, Clear}
use Rattle.calls.specs.declared.call.Read.{Read}
use Rattle.calls.specs.declared.call.Read.TheVariants.{Get, AtEnd, Len, Capacity, IsEmpty, IsFull, Slices, Walk}
use Rattle.calls.specs.declared.call.Call.{Call}
use Rattle.calls.specs.declared.call.Call.TheVariants.{Edit as Edits, Test as Tests, Release as Releases, Retain, Read as Reads, IntoIter, Close}
use Rattle.calls.specs.declared.call.Request.{Request}

-- the items that a call took in, handed out and sent to its bin, and those that it changed, as they were found and as they were left
pub record Flow (T : Type 0) : Type 0 where
  pub taken : List T
  pub handed : List T
  pub binned : List T
  pub found : List T
  pub left : List T

-- what an accepted call comes to
pub record Turn (T : Type 0) : Type 0 where
  pub answer : Heard T
  pub list : List T
  pub flow : Flow T

module _ {T : Type 0} where
  abbrev pub nothing : Flow T
  nothing = record { taken = []; handed = []; binned = []; found = []; left = [] }

  abbrev pub takes : List T → Flow T
  takes items = record { taken = items; handed = []; binned = []; found = []; left = [] }

  abbrev pub hands : List T → Flow T
  hands items = record { taken = []; handed = items; binned = []; found = []; left = [] }

  abbrev pub bins : List T → Flow T
  bins items = record { taken = []; handed = []; binned = items; found = []; left = [] }

  abbrev pub comes_to : Heard T → List T → Flow T → Turn T
  comes_to answer l flow = record { answer = answer; list = l; flow = flow }

  abbrev pub unmade : List T → Turn T
  unmade l = comes_to (said (Err Unmade)) l nothing

  -- a call that hands out an item, or none; and one that bins items, and answers how many
  abbrev pub hands_out : plain.Edit (Option T) T → Turn T
  hands_out e = comes_to (said (Ok (Item e.answer))) e.list (hands (option_to_list e.answer))

  abbrev pub lets_go : plain.Edit ℕ T → Turn T
  lets_go e = comes_to (said (Ok (Number e.answer))) e.list (bins e.binned)

  -- the calls that come in two, by their end
  abbrev pub item_at : End → List T → Option T
  item_at Front l = plain.front l
  item_at Back l = plain.back l

  abbrev pub pushed : End → T → List T → plain.Edit (Unit {0}) T
  pushed Front x l = plain.push_front x l
  pushed Back x l = plain.push_back x l

  abbrev pub popped : End → List T → plain.Edit (Option T) T
  popped Front l = plain.pop_front l
  popped Back l = plain.pop_back l

  abbrev pub swap_removed : End → ℕ → List T → plain.Edit (Option T) T
  swap_removed Front i l = plain.swap_remove_front i l
  swap_removed Back i l = plain.swap_remove_back i l

  abbrev pub edit_turn : Edit T → List T → Turn T
  edit_turn (Load items) l = comes_to (said (Ok Done)) (plain.load items.now l).list (takes items.now)
  edit_turn (Push end item) l = comes_to (said (Ok Done)) (pushed end item l).list (takes (item ∷ []))
  edit_turn (Pop end) l = hands_out (popped end l)
  edit_turn (Swap i j) l = comes_to (said (Ok Done)) (plain.swap i j l).list nothing
  edit_turn (SwapRemove end index) l = hands_out (swap_removed end index l)
  edit_turn MakeContiguous l = comes_to (said (Ok (Contiguous 0 (length l)))) l nothing

  abbrev pub release_turn : Release → List T → Turn T
  release_turn (Truncate len) l = lets_go (plain.truncate len l)
  release_turn Clear l = lets_go (plain.clear l)

  -- a walk takes an item from each of these ends in turn, until the two ends meet
  abbrev pub walk : List End → List T → List (Option T)
  walk [] l = []
  walk (end ∷ ends) l = (popped end l).answer ∷ walk ends (popped end l).list

  abbrev pub reading : (capacity : ℕ) → Read → List T → Heard T
  reading capacity (Get index) l = said (Ok (Item (plain.get index l)))
  reading capacity (AtEnd end) l = said (Ok (Item (item_at end l)))
  reading capacity Len l = said (Ok (Number (length l)))
  reading capacity Capacity l = said (Ok (Number capacity))
  reading capacity IsEmpty l = said (Ok (Flag (length l == 0)))
  reading capacity IsFull l = said (Ok (Flag (length l == capacity)))
  reading capacity Slices l = slices 0 l []
  reading capacity (Walk ends) l = walked (walk ends.now l)

  -- the item that is shown
  abbrev pub shown_item : Test → List T → Option T
  shown_item (PopIf end) l = item_at end l
  shown_item (Change index) l = plain.get index l

module _ {T P : Type 0} (rule : P → T → Shown P T) where
  abbrev pub popped_if : End → P → List T → plain.Edit (Option T) T
  popped_if Front s l = plain.pop_front_if rule s l
  popped_if Back s l = plain.pop_back_if rule s l

  -- a predicate in the state s is shown an item, or none, and the call hands out some
  abbrev pub shows : P → Option T → (handed : List T) → Flow T
  shows s item handed = record { taken = []; handed = handed; binned = []; found = option_to_list item; left = option_to_list (left rule s item) }

  abbrev pub test_turn : Test → P → List T → Turn T
  test_turn (PopIf end) s l =
      let e : plain.Edit (Option T) T = popped_if end s l in
      comes_to (said (Ok (Item e.answer))) e.list (shows s (item_at end l) (option_to_list e.answer))
  test_turn (Change index) s l =
      let e : plain.Edit (Option Bool) T = plain.change rule s index l in
      comes_to (said (Ok (Verdict e.answer))) e.list (shows s (plain.get index l) [])

  abbrev pub retain_turn : P → List T → Turn T
  retain_turn s l =
      let e : plain.Edit ℕ T = plain.retain rule s l in
      comes_to (said (Ok (Number e.answer))) e.list (record { taken = []; handed = []; binned = e.binned; found = l; left = map (λ w. w.item) (showings rule s l) })

  -- what each accepted call comes to: without its predicate to nothing
  abbrev pub turn : (capacity : ℕ) → Call T → List P → List T → Turn T
  turn capacity (Edits edit) ps l = edit_turn edit l
  turn capacity (Tests test predicate) ps l = option_map_or (λ s. test_turn test s l) (slice_get ps predicate) (unmade l)
  turn capacity (Releases release bin) ps l = release_turn release l
  turn capacity (Retain predicate bin) ps l = option_map_or (λ s. retain_turn s l) (slice_get ps predicate) (unmade l)
  turn capacity (Reads read) ps l = comes_to (reading capacity read l) l nothing
  turn capacity IntoIter ps l = comes_to (said (Ok Done)) l nothing
  turn capacity (Close bin) ps l = lets_go (plain.clear l)

  -- the state of its predicate after a call on the list l
  abbrev pub next_state : Call T → List T → P → P
  next_state (Edits edit) l s = s
  next_state (Tests test predicate) l s = moved rule s (shown_item test l)
  next_state (Releases release bin) l s = s
  next_state (Retain predicate bin) l s = after rule s l
  next_state (Reads read) l s = s
  next_state IntoIter l s = s
  next_state (Close bin) l s = s

-- one element of a list, or none, moved by a function
abbrev pub modified : {A : Type 0} → ℕ → (A → A) → List A → List A
modified k f [] = []
modified zero f (x ∷ xs) = f x ∷ xs
modified (suc k) f (x ∷ xs) = x ∷ modified k f xs

abbrev pub moved_at : {A : Type 0} → Option ℕ → (A → A) → List A → List A
moved_at None f xs = xs
moved_at (Some k) f xs = modified k f xs

-- the plain list at a moment
pub record Plain (T P : Type 0) : Type 0 where
  pub phase : Phase
  pub list : List T
  pub predicates : List P

-- what a request comes to
pub record Step (T P : Type 0) : Type 0 where
  pub after : Plain T P
  pub answer : Heard T
  pub flow : Flow T

abbrev pub names : ℕ → Option ℕ → Bool
names b None = false
names b (Some k) = b == k

module _ {T P : Type 0} (rule : P → T → Shown P T) (capacity bin_count : ℕ) where
  -- a call that is refused, and so changes nothing, or is not
  abbrev pub turned : Plain T P → Call T → Option Fault → Step T P
  turned s call o =
      let t : Turn T = turn rule capacity call s.predicates s.list in
      record {
        after = record {
          phase = unless o s.phase (next_phase s.phase call);
          list = unless o s.list t.list;
          predicates = unless o s.predicates (moved_at (predicate_of call) (next_state rule call s.list) s.predicates);
        };
        answer = unless_refused o (brings call) t.answer;
        flow = unless o nothing t.flow;
      }

  abbrev pub step : Plain T P → Request T → Step T P
  step s q =
      cond (made s.phase bin_count (length s.predicates) q.call)
      (turned s q.call (refusal q.call capacity q.lent (length s.list)))
      (record { after = s; answer = said (Err Unmade); flow = nothing })

  -- a list of requests, one after another
  abbrev pub run : Plain T P → List (Request T) → Plain T P
  run s [] = s
  run s (q ∷ qs) = run (step s q).after qs

  abbrev pub answers : Plain T P → List (Request T) → List (Heard T)
  answers s [] = []
  answers s (q ∷ qs) = (step s q).answer ∷ answers (step s q).after qs

  -- all that they took in, handed out, binned, found or left: `part` is one of the lists of a flow
  abbrev pub all : (Flow T → List T) → Plain T P → List (Request T) → List T
  all part s [] = []
  all part s (q ∷ qs) = part (step s q).flow ++ all part (step s q).after qs

  -- all that they sent to the bin b, in order
  abbrev pub all_binned_in : (b : ℕ) → Plain T P → List (Request T) → List T
  all_binned_in b s [] = []
  all_binned_in b s (q ∷ qs) = cond (names b (bin_of q.call)) (step s q).flow.binned [] ++ all_binned_in b (step s q).after qs
