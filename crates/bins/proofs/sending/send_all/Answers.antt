use Rattle.std.proofs.Common.{◌≡◌, fold, refl, ap, ◌∙◌, arith, take_all, rules}
use Rattle.bins.proofs.Counts.{counted}
use Rattle.bins.proofs.sending.send_all.Goals as goal

pub returns : goal.returns
returns g c =
    let B = g.B.Bin in
    let s = B.state c.args.bin.now in
    let xs = c.args.items.now in
    let takes : B.state c.loop-item.bin ≡ fold B.rule s xs = search (rules, take_all) in
    let all = ap B.count takes ∙ counted B.rule B.count g.met.B.Bin.counts g.met.B.Bin.fits s xs in
    record { result = refl; bin = takes; count = all; from_fresh = λ f. omega (arith, all, g.met.B.Bin.starts s f) }
