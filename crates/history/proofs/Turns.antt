-- One turn of the loop over the requests: what is left to do leads to where all of it leads.
use Rattle.std.proofs.Common.{◌≡◌, ℕ, ◌+◌, ◌<◌, List, ◌∷◌, length, get_or, drop, fold, sym, ap, ◌∙◌, subst, ap₂}
use Rattle.std.proofs.lemmas.List.{at_drop_more}
use Rattle.std.proofs.lemmas.List.Sums.{fold-append}
use Rattle.calls.specs.Answers.{Heard}
use Rattle.calls.specs.RingAt.{Moment, step, run, answers}
use Rattle.calls.specs.declared.call.Request.{Request}
use Rattle.calls.proofs.Histories.{Fit, step_fit}
use Rattle.predicates.specs.Showing.{Shown}
use Rattle.history.specs.Answering.{heard, all_heard}

module _ {T S P H : Type 0} (takes : S → T → S) (rule : P → T → Shown P T) (hears : H → Heard T → H) where
  -- from m, with its slots, and from h the requests lead to the moment `last` and to `all` that is heard
  abbrev pub Leads : Moment T S P → H → List (Request T) → Moment T S P → H → Type 0
  Leads m h qs last all = Fit m.lies × (run takes rule m qs ≡ last) × (fold hears h (all_heard (answers takes rule m qs)) ≡ all)

  pub put_more : (qs : List (Request T)) (i : ℕ) (q : Request T) (m m' last : Moment T S P) (h h' all : H) → i < length qs → q ≡ get_or qs i q
      → m' ≡ (step takes rule m q).after → h' ≡ fold hears h (heard (step takes rule m q).answer)
      → Leads m h (drop i qs) last all → Leads m' h' (drop (i + 1) qs) last all
  put_more qs i q m m' last h h' all lt is e f so_far =
      let later = drop (i + 1) qs in
      let told : Moment T S P → H → List (Request T) → H = λ z w l. fold hears w (all_heard (answers takes rule z l)) in (
        subst (λ (z : Moment T S P). Fit z.lies) {x = (step takes rule m q).after} (sym e) (step_fit takes rule m q so_far.0),
        ap (λ z. run takes rule z later) e ∙ ap (λ x. run takes rule m (x ∷ later)) is ∙ sym (at_drop_more (run takes rule m) qs i q lt) ∙ so_far.1,
        ap₂ (λ z w. told z w later) e f
            ∙ sym (fold-append hears h (heard (step takes rule m q).answer) (all_heard (answers takes rule (step takes rule m q).after later)))
            ∙ ap (λ x. told m h (x ∷ later)) is
            ∙ sym (at_drop_more (told m h) qs i q lt)
            ∙ so_far.2,
      )
