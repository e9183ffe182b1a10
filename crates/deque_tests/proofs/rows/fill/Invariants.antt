use Rattle.std.proofs.Common.{◌≡◌}
use Rattle.deque_tests.proofs.rows.fill.Given as goal

abbrev pub invariant-loop-item : goal.invariant-loop-item
invariant-loop-item l = l.ring.places.capacity ≡ l.initial.ring.places.capacity

abbrev pub invariant-loop-added : goal.invariant-loop-added
invariant-loop-added l = l.ring.places.capacity ≡ l.initial.ring.places.capacity
