-- Calls that may be refused: the first refusal that applies, what it answers and what it leaves.
use Rattle.std.specs.Prelude.{Bool, cond, Some, None, Ok, Err, Option, Result}
use Rattle.fault.specs.declared.Fault.{Fault}
use Rattle.fault.specs.declared.Returned.{Returned}

-- a fault where a test holds
abbrev pub when : Bool → Fault → Option Fault
when test fault = cond test (Some fault) None

-- of two refusals the one that is tested first
abbrev pub first : Option Fault → Option Fault → Option Fault
first (Some fault) later = Some fault
first None later = later

-- what a call leaves: all as it was where it is refused, else what it makes
abbrev pub unless : {X : Type 0} → Option Fault → (before after : X) → X
unless (Some fault) before after = before
unless None before after = after

-- what a call answers: its fault, or its answer
abbrev pub answer : {A : Type 0} → Option Fault → A → Result A Fault
answer (Some fault) value = Err fault
answer None value = Ok value

-- the same of a call that takes what a refusal gives back: an item, or a ring with its token
abbrev pub answer_or_return : {A T : Type 0} → Option Fault → T → A → Result A (Returned T)
answer_or_return (Some fault) given value = Err (record { fault = fault; given = given })
answer_or_return None given value = Ok value
