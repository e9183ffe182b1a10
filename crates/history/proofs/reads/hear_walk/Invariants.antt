use Rattle.std.proofs.Common.{◌≡◌, drop, fold}
use Rattle.walk.specs.Walks.{ahead}
use Rattle.calls.specs.Answers.{walked}
use Rattle.calls.specs.PlainList.{walk}
use Rattle.history.specs.Answering.{heard}
use Rattle.history.proofs.reads.hear_walk.Given as goal

-- what is left to tell leads from here to where all of it leads from the start
abbrev pub invariant-loop-end : goal.invariant-loop-end
invariant-loop-end g l =
    let h = g.L.Listener in
    fold h.rule (h.state l.listener) (heard (walked (walk (drop l.end-index l.ends) (ahead l.iter))))
    ≡ fold h.rule (h.state l.initial.listener) (heard (walked (walk l.ends (ahead l.initial.iter))))
