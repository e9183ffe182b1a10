use Rattle.std.proofs.Common.{◌≡◌, ◌≤◌}
use Rattle.deque.proofs.Sifting.{Sifting}
use Rattle.deque.proofs.deque.Deque.sift.Given as goal

-- every answer so far was yes
abbrev pub invariant-leading : goal.invariant-leading
invariant-leading g l =
    let p = g.P.Predicate in
    (l.idx ≡ l.cur) × Sifting l.self.places p.rule l.fn.slots (p.state l.fn.predicate) l.slots (p.state l.predicate) l.idx l.cur

abbrev pub invariant-others : goal.invariant-others
invariant-others g l =
    let p = g.P.Predicate in
    (l.idx ≤ l.cur) × Sifting l.self.places p.rule l.fn.slots (p.state l.fn.predicate) l.slots (p.state l.predicate) l.idx l.cur
