-- What the code holds, as a moment of a history.
use Rattle.std.specs.Prelude.{ℕ, min, cond, List, [], map, Some, None, Ok, Err, Option, Result, nat_lt}
use Rattle.fault.specs.declared.Fault.{Fault}
use Rattle.bins.specs.declared.bin.Bin.{Ghosts as BinGhosts}
use Rattle.predicates.specs.declared.predicate.Predicate.{Ghosts as PredicateGhosts}
use Rattle.places.specs.declared.Places.{Places}
use Rattle.deque.specs.Ring.{contents}
use Rattle.deque.specs.Refusals as refusals
use Rattle.calls.specs.Calls.{Phase, ring, drain, closed}
use Rattle.calls.specs.RingAt.{Moment, lie}
use Rattle.history.specs.declared.stage.Stage.{Stage}
use Rattle.history.specs.declared.stage.Stage.TheVariants.{Ring, Drain, Closed}

abbrev pub phase_of : Stage → Phase
phase_of (Ring deque token) = ring
phase_of (Drain iter token) = drain
phase_of (Closed capacity) = closed

abbrev pub places_of : Stage → Places
places_of (Ring deque token) = deque.places
places_of (Drain iter token) = iter.ring.places
places_of (Closed capacity) = record { capacity = capacity; front = 0; len = 0 }

-- how many of the slots a call is lent that asks for so many
abbrev pub lent_end : (lent capacity all : ℕ) → ℕ
lent_end lent capacity all = cond (nat_lt lent capacity) (min lent all) all

module _ {T B R P : Type 0} (b : BinGhosts B T R) (p : PredicateGhosts P T) where
  abbrev pub moment_of : Stage → List T → List B → List P → Moment T b.State p.State
  moment_of stage slots bins predicates = record { phase = phase_of stage; lies = lie (places_of stage) slots; bins = map b.state bins; predicates = map p.state predicates }

-- what is still in the ring or the drain that the code holds
abbrev pub left_in : {T : Type 0} → Stage → List T → List T
left_in (Ring deque token) xs = contents deque.places xs
left_in (Drain iter token) xs = contents iter.ring.places xs
left_in (Closed capacity) xs = []

-- why it cannot be ended, if it cannot
abbrev pub end_refusal : Stage → (lent : ℕ) → Option Fault
end_refusal (Ring deque token) lent = refusals.slots deque.places.capacity lent deque.places.len
end_refusal (Drain iter token) lent = refusals.slots iter.ring.places.capacity lent iter.ring.places.len
end_refusal (Closed capacity) lent = None

-- what its end answers: the number of items binned, or all that was given back
abbrev pub ended_or_kept : Option Fault → Stage → ℕ → Result ℕ Stage
ended_or_kept (Some fault) stage number = Err stage
ended_or_kept None stage number = Ok number
