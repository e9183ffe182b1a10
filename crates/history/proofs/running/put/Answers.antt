use Rattle.history.specs.Standing.{moment_of}
use Rattle.history.proofs.Lent.{lent_moment, lent_told}
use Rattle.history.proofs.running.put.Goals as goal

pub returns : goal.returns
returns g c =
    let takes = g.B.Bin.rule in
    let rule = g.P.Predicate.rule in
    let hears = g.L.Listener in
    let q = c.args.request.now in
    let m = moment_of g.B.Bin g.P.Predicate c.args.stage c.args.slots.now c.args.bins.now c.args.predicates.now in
    let after = moment_of g.B.Bin g.P.Predicate c.call.result c.call.new.slots c.call.new.bins c.call.new.predicates in
    let end = c.lent_part-end in
    record {
      moment = lent_moment takes rule m q end.result c.requires c.capacity.result end.ensures.value c.capacity.ensures after c.call.ensures.moment;
      told = lent_told takes rule m q end.result c.requires c.capacity.result end.ensures.value c.capacity.ensures hears.rule (hears.state c.args.listener.now) (hears.state c.call.new.listener) c.call.ensures.told;
    }
