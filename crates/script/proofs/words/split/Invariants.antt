use Rattle.std.proofs.Common.{◌≡◌, ◌++◌, length, vec_items}
use Rattle.script.specs.Text.{words}
use Rattle.script.specs.Commands.{held}
use Rattle.script.proofs.words.split.Given as goal

-- the words so far and those of the rest are the line's
abbrev pub invariant-loop-word : goal.invariant-loop-word
invariant-loop-word l = held (vec_items l.words) ++ words l.rest ≡ words l.line

-- a turn takes a word from the rest
abbrev pub decreases-loop-word : goal.decreases-loop-word
decreases-loop-word l = length (words l.rest)
