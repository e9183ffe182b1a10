use Rattle.std.proofs.Common.{take, map}
use Rattle.calls.proofs.Histories.{holds}
use Rattle.history.specs.Standing.{moment_of}
use Rattle.history.proofs.Turns.{put_more}
use Rattle.history.proofs.running.run.Goals as goal

pub loop-request-preserved : goal.loop-request-preserved
loop-request-preserved g c =
    let now = c.loop-request in
    let next = c.put-stage.new in
    let m = moment_of g.B.Bin g.P.Predicate now.stage now.slots now.bins now.predicates in
    let m' = moment_of g.B.Bin g.P.Predicate c.put-stage.result next.slots next.bins next.predicates in
    put_more g.B.Bin.rule g.P.Predicate.rule g.L.Listener.rule c.args.requests.now now.request-index c.request-item.result m m' _ _ _ _
    c.loop-request-test.true c.request-item.is c.put-stage.ensures.moment c.put-stage.ensures.told now.invariant

pub returns-clause-law : goal.returns-clause-law
returns-clause-law g c =
    λ k. holds g.B.Bin.rule g.P.Predicate.rule g.B.Bin.count g.met.B.Bin.counts g.met.B.Bin.fits c.args.slots.now (map g.B.Bin.state c.args.bins.now) (map g.P.Predicate.state c.args.predicates.now) (take k c.args.requests.now)
