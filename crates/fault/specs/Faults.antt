-- Each refusal by its number, its place and its layer, and the line that shows it.
use Rattle.std.specs.Prelude.{ℕ, List, ◌++◌, codes, decimal}
use Rattle.fault.specs.declared.Layer.{Layer}
use Rattle.fault.specs.declared.Layer.TheVariants.{Letters, Sheet, Ring, Grades, Costing}
use Rattle.fault.specs.declared.Fault.{Fault}
use Rattle.fault.specs.declared.Fault.TheVariants.{TooFewSlots, Full, OutOfRange, NotEmpty, TooMany}

abbrev pub number : Fault → ℕ
number (TooFewSlots lent) = 0
number (Full len) = 1
number (OutOfRange index) = 2
number (NotEmpty len) = 3
number (TooMany offered) = 4

abbrev pub place : Fault → ℕ
place (TooFewSlots lent) = lent
place (Full len) = len
place (OutOfRange index) = index
place (NotEmpty len) = len
place (TooMany offered) = offered

abbrev pub layer : Fault → Layer
layer (TooFewSlots lent) = Ring
layer (Full len) = Ring
layer (OutOfRange index) = Ring
layer (NotEmpty len) = Ring
layer (TooMany offered) = Ring

abbrev pub name : Layer → List ℕ
name Letters = codes "letters"
name Sheet = codes "sheet"
name Ring = codes "ring"
name Grades = codes "grades"
name Costing = codes "costing"

-- as "refused 1 at 6 by ring"
abbrev pub line : Fault → List ℕ
line f = codes "refused " ++ (decimal (number f) ++ (codes " at " ++ (decimal (place f) ++ (codes " by " ++ name (layer f)))))
