use Rattle.std.proofs.Common.{rules}
use Rattle.deque.proofs.Contents.{length_contents}
use Rattle.deque.proofs.deque.Deque.swap_remove_front.Goals as goal

pub returns : goal.returns
returns g c = search (rules, length_contents)
