use Rattle.bins.proofs.Folds.{trayed_all}
use Rattle.bins.proofs.tray.Tray.holding.Goals as goal

pub returns : goal.returns
returns g c = rw (c.send_all.ensures.bin, c.in_ok-tray.ensures) (trayed_all c.args.slots c.args.items.now)
