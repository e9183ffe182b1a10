use Rattle.std.proofs.Common.{◌≡◌, ◌++◌, drop, vec_items}
use Rattle.std.specs.Option.{option_map}
use Rattle.script.specs.Text.{flags}
use Rattle.script.proofs.operands.Operand.mask.Given as goal

-- the flags so far and those of the other bytes are the word's
abbrev pub invariant-loop-c : goal.invariant-loop-c
invariant-loop-c l = option_map (λ ys. vec_items l.flags ++ ys) (flags (drop l.c-index l.self.word.now)) ≡ flags l.self.word.now
