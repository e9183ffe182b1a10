use Rattle.std.proofs.Common.{◌≡◌}
use Rattle.queue.proofs.run.steps.Given as goal

abbrev pub invariant-loop-line : goal.invariant-loop-line
invariant-loop-line l =
    (goal.iterator-loop-line).can_next l.line-iterator × (goal.iterator-loop-line).is_finite l.line-iterator
    × (l.bench.ring.places.capacity ≡ l.initial.bench.ring.places.capacity)
