use Rattle.std.proofs.Common.{refl, sym, ap, ◌∙◌, arith}
use Rattle.deque.proofs.Sifting.{sifting_at, sifting_none, sifting_no, sifting_first, sifting_swap, sifted_number, sifted_list, sifted_state}
use Rattle.deque.proofs.deque.Deque.sift.Goals as goal
use Rattle.deque.proofs.deque.Deque.sift.Goals.{else-leading-test, then-leading-test+then-not-show, then-stays, else-stays}

pub leading-init : goal.leading-init
leading-init g c =
    let p = g.P.Predicate in
    (refl, sifting_none c.args.self.now.places p.rule c.args.slots.now (p.state c.args.predicate.now) c.args.self.now.ok c.requires)

pub leading-preserved : goal.leading-preserved
leading-preserved g c =
    let p = g.P.Predicate in (
      omega arith,
      sifting_first c.args.self.now.places p.rule c.args.slots.now (p.state c.args.predicate.now) c.args.self.now.ok c.requires
          _ _ _ _ c.leading.invariant.1 (omega arith) _ c.slot-at.ensures c.index-slots-at.result
          _ _ c.show.ensures.item c.show.ensures.state (sym c.show.ensures.answer ∙ c.if-not-show.false) (omega arith),
    )

pub others-init : goal.others-init
others-init g c =
    let p = g.P.Predicate in
    let d = c.args.self.now.places in
    let slots₀ = c.args.slots.now in
    let s₀ = p.state c.args.predicate.now in
    let sofar = c.leading.invariant.1 in
    elim c.leading-test.branch [
      | else-leading-test w ↦ (omega arith, sifting_at d p.rule slots₀ s₀ _ _ _ _ _ _ _ _ w.slots-is (ap p.state w.predicate-is) refl (omega arith) sofar)
      | then-leading-test+then-not-show w ↦ (
        omega arith,
        sifting_at d p.rule slots₀ s₀ _ _ _ _ _ _ _ _ w.slots-is (ap p.state w.predicate-is) refl (omega arith)
            (sifting_no d p.rule slots₀ s₀ c.args.self.now.ok c.requires
            _ _ _ _ sofar (omega arith) _ w.slot-at.ensures w.index-slots-at.result
            _ _ w.show.ensures.item w.show.ensures.state (sym w.show.ensures.answer ∙ w.if-not-show.true)),
      )
    ]

pub others-preserved : goal.others-preserved
others-preserved g c =
    let p = g.P.Predicate in
    let d = c.args.self.now.places in
    let slots₀ = c.args.slots.now in
    let s₀ = p.state c.args.predicate.now in
    let ok = c.args.self.now.ok in
    let sofar = c.others.invariant.1 in
    let x = c.index-slots-at-in-others.result in
    let item = c.show-stays.ensures.item in
    let state = c.show-stays.ensures.state in
    let said = sym c.show-stays.ensures.answer in
    elim c.if-stays.branch [
      | then-stays w ↦ (
        omega arith,
        sifting_at d p.rule slots₀ s₀ _ _ _ _ _ _ _ _ w.slots-is refl w.idx-is refl
            (sifting_swap d p.rule slots₀ s₀ ok c.requires _ _ _ _ sofar (omega arith) _ c.slot-at-in-others.ensures x _ _ item state (said ∙ w.if-stays.true)
            _ w.slot.ensures _ (w.swap.ensures.by_index.3 x)),
      )
      | else-stays w ↦ (
        omega arith,
        sifting_at d p.rule slots₀ s₀ _ _ _ _ _ _ _ _ w.slots-is refl w.idx-is refl
            (sifting_no d p.rule slots₀ s₀ ok c.requires _ _ _ _ sofar (omega arith) _ c.slot-at-in-others.ensures x _ _ item state (said ∙ w.if-stays.false)),
      )
    ]

pub returns : goal.returns
returns g c =
    let p = g.P.Predicate in
    let d = c.args.self.now.places in
    let ok = c.args.self.now.ok in
    let slots₀ = c.args.slots.now in
    let s₀ = p.state c.args.predicate.now in
    let end = c.others.invariant.1 in
    record {
      result = sifted_number d p.rule slots₀ s₀ ok c.requires _ _ _ _ end (omega arith);
      slots = sifted_list d p.rule slots₀ s₀ ok c.requires _ _ _ _ end (omega arith);
      predicate = sifted_state d p.rule slots₀ s₀ ok c.requires _ _ _ _ end (omega arith);
    }
