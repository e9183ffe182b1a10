use Rattle.std.proofs.Common.{◌≡◌, ◌+◌, ◌++◌, drop, vec_items}
use Rattle.std.specs.Result.{result_map_both}
use Rattle.script.specs.Commands.{held, items}
use Rattle.script.proofs.operands.items.Given as goal

-- the items so far and those of the other words are what all words give
abbrev pub invariant-loop-i : goal.invariant-loop-i
invariant-loop-i l = result_map_both (λ ys. vec_items l.items ++ ys) (λ m. m) (items (l.i + 1) (held (drop l.i l.words))) ≡ items 1 (held l.words)
