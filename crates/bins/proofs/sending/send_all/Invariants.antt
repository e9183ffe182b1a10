use Rattle.std.proofs.Common.{◌≡◌, take, fold}
use Rattle.bins.proofs.sending.send_all.Given as goal

abbrev pub invariant-loop-item : goal.invariant-loop-item
invariant-loop-item g l = g.B.Bin.state l.bin ≡ fold g.B.Bin.rule (g.B.Bin.state l.initial.bin) (take l.item-index l.items)
