use Rattle.std.proofs.Common.{◌-◌, length, arith}
use Rattle.lists.proofs.Turns.{rotated_past, three_reversals}
use Rattle.deque.proofs.rotation.rotate_left.Goals as goal

pub returns-then-k-part : goal.returns-then-k-part
returns-then-k-part g c =
    let k = c.args.k in
    let xs = c.args.part.now in
    three_reversals k (k - 0) (length xs - k) xs _ _ _ (omega arith) (omega arith) c.reverse.ensures.after c.reverse-then-k-part.ensures.after c.reverse-then-k-part-2.ensures.after

pub returns-else-k-part : goal.returns-else-k-part
returns-else-k-part g c = rotated_past _ _ c.if-k-part.false
