-- What is answered to a request.
use Rattle.std.specs.Prelude.{ℕ, Bool, true, false, cond, List, [], ◌∷◌, ◌++◌, Some, None, Ok, Err, Option, Result}
use Rattle.fault.specs.declared.Fault.{Fault}
use Rattle.calls.specs.declared.answer.Value.{Value}
use Rattle.calls.specs.declared.answer.Value.TheVariants.{Done, Item, Verdict, Number, Flag, Contiguous}
use Rattle.calls.specs.declared.answer.NotDone.{NotDone}
use Rattle.calls.specs.declared.answer.NotDone.TheVariants.{Unmade, Refused}

-- the code's alias of this name
abbrev pub Answer : Type 0 → Type 0
Answer T = Result (Value T) (NotDone T)

-- a plain answer; two slices, with the slot where the first begins; or what a walk came to, step by step
pub data Heard (T : Type 0) : Type 0 where
  said : Answer T → Heard T
  slices : (front : ℕ) → (first second : List T) → Heard T
  walked : List (Option T) → Heard T

module _ {T : Type 0} where
  -- a refusal with the item that it gives back, or else this answer
  abbrev pub unless_refused : Option Fault → Option T → Heard T → Heard T
  unless_refused (Some fault) item answer = said (Err (Refused fault item))
  unless_refused None item answer = answer

  -- an answer as it is, but for where the list begins
  abbrev pub value_from : (front : ℕ) → Value T → Value T
  value_from front Done = Done
  value_from front (Item item) = Item item
  value_from front (Verdict verdict) = Verdict verdict
  value_from front (Number number) = Number number
  value_from front (Flag flag) = Flag flag
  value_from front (Contiguous begins len) = Contiguous front len

  abbrev pub answer_from : (front : ℕ) → Answer T → Answer T
  answer_from front (Ok value) = Ok (value_from front value)
  answer_from front (Err not_done) = Err not_done

  -- an answer but for a new front, and for the slots in which two slices lie and the place where they part
  abbrev pub plainly : Heard T → Heard T
  plainly (said answer) = said (answer_from 0 answer)
  plainly (slices front first second) = slices 0 (first ++ second) []
  plainly (walked items) = walked items

  abbrev pub value_idle : Value T → Bool
  value_idle Done = false
  value_idle (Item item) = false
  value_idle (Verdict verdict) = false
  value_idle (Number number) = false
  value_idle (Flag flag) = false
  value_idle (Contiguous front len) = true

  abbrev pub answer_idle : Answer T → Bool
  answer_idle (Ok value) = value_idle value
  answer_idle (Err Unmade) = false
  answer_idle (Err (Refused fault item)) = true

  -- the answers of the calls that a history can do without: the refused ones, and the makings-contiguous
  abbrev pub idle : Heard T → Bool
  idle (said answer) = answer_idle answer
  idle (slices front first second) = false
  idle (walked items) = false

  -- what stands beside the answers that are not idle
  abbrev pub struck : {X : Type 0} → List (Heard T) → List X → List X
  struck [] xs = []
  struck (answer ∷ answers) [] = []
  struck (answer ∷ answers) (x ∷ xs) = cond (idle answer) (struck answers xs) (x ∷ struck answers xs)
