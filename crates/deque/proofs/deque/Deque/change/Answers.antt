use Rattle.std.proofs.Common.{◌≡◌, ◌≤◌, length, set, None, sym, ap, ◌∙◌, rules}
use Rattle.predicates.specs.Showing.{answered, left, moved, stored}
use Rattle.deque.specs.Ring.{contents, slot, at}
use Rattle.deque.specs.Refusals as refusal
use Rattle.deque.proofs.Contents.{nth_contents_at, nth_contents_past, contents_set}
use Rattle.deque.proofs.deque.Deque.change.Goals as goal

pub returns-then-i-self : goal.returns-then-i-self
returns-then-i-self g c = search (rules, nth_contents_past)

pub returns : goal.returns
returns g c =
    let rule = g.P.Predicate.rule in
    let s = g.P.Predicate.state c.args.predicate.now in
    let p = c.args.self.now.places in
    let ok = c.args.self.now.ok in
    let xs = c.args.slots.now in
    let l = contents p xs in
    let i = c.args.i in
    let within = c.if-i-self.false in
    let found = c.slot-at.ensures in
    let y = c.show.new.item in
    let enough : p.capacity ≤ length xs = search rules in
    let none : at p xs refusal.slots ≡ None = search rules in
    let there = sym (nth_contents_at p xs ok enough i c.slot-at.result c.index-slots-at.result within found) in
    let answers = ap (answered rule s) there in
    let moves = ap (moved rule s) there in
    let writes = ap (λ k. set xs k y) found ∙ ap (set xs (slot p i)) c.show.ensures.item in
    let stores = ap (λ o. stored (left rule s o) (slot p i) xs) there in
    let lists = ap (λ k. contents p (set xs k y)) found ∙ contents_set p xs ok enough i y within ∙ ap (set l i) c.show.ensures.item in
    let is = ap (λ o. stored (left rule s o) i l) there in
    record { result = rw none cc; slots = rw none cc; list = rw none cc; predicate = rw none cc }
