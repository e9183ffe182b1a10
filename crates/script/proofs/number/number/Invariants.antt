use Rattle.std.proofs.Common.{◌≡◌, ◌≤◌, drop}
use Rattle.script.specs.Commands.{max_index}
use Rattle.script.specs.Text.{at_most, number_after}
use Rattle.script.proofs.number.number.Given as goal

-- the number fits, and the other digits finish it
abbrev pub invariant-loop-c : goal.invariant-loop-c
invariant-loop-c l = (l.value ≤ max_index) × (at_most max_index (number_after l.value (drop l.c-index l.word)) ≡ at_most max_index (number_after 0 l.word))
