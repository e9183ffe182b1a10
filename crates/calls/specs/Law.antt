-- The law of histories: what holds at every moment of a ring, whatever requests were put to it.
-- S and P are the states of the bins and of the predicates; `takes` and `count` are the bins', `rule` is the predicates'.
use Rattle.std.specs.Prelude.{◌≡◌, ℕ, ◌+◌, ◌%◌, ◌^◌, List, ◌++◌, map, length, take, Some, fold}
use mathlib.Core.List.{Perm}
use Rattle.std.specs.List.{slice_get}
use Rattle.predicates.specs.Showing.{Shown}
use Rattle.deque.specs.Moves as moves
use Rattle.calls.specs.Calls.{ring}
use Rattle.calls.specs.Answers.{Heard, plainly, struck}
use Rattle.calls.specs.PlainList.{Plain, Flow}
use Rattle.calls.specs.PlainList as plain_list
use Rattle.calls.specs.RingAt.{Moment, lie, list_of, plain_of}
use Rattle.calls.specs.RingAt as ring_at
use Rattle.calls.specs.declared.call.Request.{Request}

module _ {T S P : Type 0} (takes : S → T → S) (count : S → ℕ) (rule : P → T → Shown P T) where
  -- a ring just made over these slots, with bins and predicates in any state
  abbrev pub making : List T → List S → List P → Moment T S P
  making slots bins predicates = record { phase = ring; lies = lie (moves.fresh (length slots)) slots; bins = bins; predicates = predicates }

  -- From a moment on, some requests are put to the ring, and the same to the plain list.
  module _ (m : Moment T S P) (requests : List (Request T)) where
    abbrev pub after : Moment T S P
    after = ring_at.run takes rule m requests

    abbrev pub answers : List (Heard T)
    answers = ring_at.answers takes rule m requests

    abbrev pub plain_after : Plain T P
    plain_after = plain_list.run rule m.lies.places.capacity (length m.bins) (plain_of takes rule m) requests

    abbrev pub plain_answers : List (Heard T)
    plain_answers = plain_list.answers rule m.lies.places.capacity (length m.bins) (plain_of takes rule m) requests

    -- all that was taken in, handed out, binned, found or left, read off the plain list
    abbrev pub all : (Flow T → List T) → List T
    all part = plain_list.all rule m.lies.places.capacity (length m.bins) part (plain_of takes rule m) requests

    abbrev pub all_binned_in : (b : ℕ) → List T
    all_binned_in b = plain_list.all_binned_in rule m.lies.places.capacity (length m.bins) b (plain_of takes rule m) requests

    -- the requests but for the refused ones and the makings-contiguous
    abbrev pub effective : List (Request T)
    effective = struck answers requests

  -- the ring's list, the predicates and the phase are those of the plain list, and so is every answer, but for what `plainly` leaves out
  pub record FollowsThePlainList (m : Moment T S P) (requests : List (Request T)) : Type 0 where
    pub list : list_of (after m requests).lies ≡ (plain_after m requests).list
    pub predicates : (after m requests).predicates ≡ (plain_after m requests).predicates
    pub phase : (after m requests).phase ≡ (plain_after m requests).phase
    pub answers : map plainly (answers m requests) ≡ plain_answers m requests

  -- what was taken in, and what changes left, is what is in the ring, what was handed out, what was binned, and what changes found: order aside
  abbrev pub NothingLostOrDoubled : Moment T S P → List (Request T) → Type 0
  NothingLostOrDoubled m requests =
      Perm (all m requests (λ f. f.taken) ++ all m requests (λ f. f.left))
      (list_of (after m requests).lies ++ all m requests (λ f. f.handed) ++ all m requests (λ f. f.binned) ++ all m requests (λ f. f.found))

  -- each bin stands where its own rule takes it over the items binned there, in order, and its count rose by their number
  pub record BinsByTheirOwnRules (m : Moment T S P) (requests : List (Request T)) : Type 0 where
    pub states : (b : ℕ) (s : S) → slice_get m.bins b ≡ Some s → slice_get (after m requests).bins b ≡ Some (fold takes s (all_binned_in m requests b))
    pub counts : (b : ℕ) (s : S) → slice_get m.bins b ≡ Some s → count (fold takes s (all_binned_in m requests b)) ≡ (count s + length (all_binned_in m requests b)) % 2 ^ 64

  -- without its idle calls the history ends with the same list, bins and predicates, and every other call answers alike
  pub record IdleCallsCanBeStruckOut (m : Moment T S P) (requests : List (Request T)) : Type 0 where
    pub list : list_of (after m (effective m requests)).lies ≡ list_of (after m requests).lies
    pub bins : (after m (effective m requests)).bins ≡ (after m requests).bins
    pub predicates : (after m (effective m requests)).predicates ≡ (after m requests).predicates
    pub answers : map plainly (answers m (effective m requests)) ≡ map plainly (struck (answers m requests) (answers m requests))

  pub record Holds (m : Moment T S P) (requests : List (Request T)) : Type 0 where
    pub follows : FollowsThePlainList m requests
    pub balance : NothingLostOrDoubled m requests
    pub bins : BinsByTheirOwnRules m requests
    pub idle : IdleCallsCanBeStruckOut m requests

  -- a moment is the making, or just after a request
  abbrev pub AtEveryMoment : List T → List S → List P → List (Request T) → Type 0
  AtEveryMoment slots bins predicates requests = (k : ℕ) → Holds (making slots bins predicates) (take k requests)
