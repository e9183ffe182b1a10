use Rattle.std.proofs.Common.{drop, fold}
use Rattle.calls.specs.RingAt.{run, answers}
use Rattle.history.specs.Answering.{all_heard}
use Rattle.history.specs.Standing.{moment_of}
use Rattle.history.proofs.Turns.{Leads}
use Rattle.history.proofs.running.run.Given as goal

-- what is left to put leads from here to where all of it leads from the start
abbrev pub invariant-loop-request : goal.invariant-loop-request
invariant-loop-request g l =
    let b = g.B.Bin in
    let p = g.P.Predicate in
    let h = g.L.Listener in
    let now = moment_of b p l.stage l.slots l.bins l.predicates in
    let start = moment_of b p l.initial.stage l.initial.slots l.initial.bins l.initial.predicates in
    Leads b.rule p.rule h.rule now (h.state l.listener) (drop l.request-index l.requests)
    (run b.rule p.rule start l.requests) (fold h.rule (h.state l.initial.listener) (all_heard (answers b.rule p.rule start l.requests)))
