-- What is printed of a call that was not done.
use Rattle.std.specs.Prelude.{ℕ, List, codes}
use Rattle.fault.specs.Faults as faults
use Rattle.calls.specs.declared.answer.NotDone.{NotDone}
use Rattle.calls.specs.declared.answer.NotDone.TheVariants.{Unmade, Refused}

abbrev pub line : {T : Type 0} → NotDone T → List ℕ
line Unmade = codes "not made"
line (Refused fault item) = faults.line fault
