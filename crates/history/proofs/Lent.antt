-- A request that is lent a part of the slots: fewer than the capacity, which is refused, or all of them.
use Rattle.std.proofs.Common.{◌≡◌, ℕ, ◌<◌, ◌≤◌, min, true, false, cond, nat_lt, List, [], ◌++◌, length, take, drop, fold, Some, Err, Option, sym, ap, ◌∙◌, inl, inr, ⊎_elim, arith}
use Rattle.std.proofs.lemmas.List.{append-nil, take_all, drop_all, length-take-le, take-append-drop}
use Rattle.std.proofs.lemmas.Bool.{cases_lt, lt-ltb, le-ltb}
use Rattle.fault.specs.declared.Fault.{Fault}
use Rattle.fault.specs.declared.Fault.TheVariants.{TooFewSlots}
use Rattle.fault.specs.Refusing.{unless}
use Rattle.places.specs.declared.Places.{Places}
use Rattle.predicates.specs.Showing.{Shown}
use Rattle.calls.specs.Calls.{refusal, made}
use Rattle.calls.specs.Answers.{Heard, said, unless_refused}
use Rattle.calls.specs.declared.answer.NotDone.TheVariants.{Unmade}
use Rattle.calls.specs.RingAt.{Lies, Moment, Happened, lie, acts, step}
use Rattle.calls.specs.declared.call.Edit.TheVariants.{Load, Push, Pop, Swap, SwapRemove, MakeContiguous}
use Rattle.calls.specs.declared.call.Call.{Call}
use Rattle.calls.specs.declared.call.Call.TheVariants.{Edit as Edits, Test as Tests, Release as Releases, Retain, Read as Reads, IntoIter, Close}
use Rattle.calls.specs.declared.call.Request.{Request}
use Rattle.history.specs.Answering.{heard}
use Rattle.history.specs.Standing.{lent_end}

module _ {T : Type 0} (capacity len : ℕ) where
  -- with fewer slots than the capacity every call is refused for that
  refusal_short : (call : Call T) (k : ℕ) → nat_lt k capacity ≡ true → refusal call capacity k len ≡ Some (TooFewSlots k)
  refusal_short (Edits (Load items)) k h = simp h
  refusal_short (Edits (Push end item)) k h = simp h
  refusal_short (Edits (Pop end)) k h = simp h
  refusal_short (Edits (Swap i j)) k h = simp h
  refusal_short (Edits (SwapRemove end index)) k h = simp h
  refusal_short (Edits MakeContiguous) k h = simp h
  refusal_short (Tests test predicate) k h = simp h
  refusal_short (Releases release bin) k h = simp h
  refusal_short (Retain predicate bin) k h = simp h
  refusal_short (Reads read) k h = simp h
  refusal_short IntoIter k h = simp h
  refusal_short (Close bin) k h = simp h

  -- and otherwise their number is no matter
  refusal_enough : (call : Call T) (j k : ℕ) → nat_lt j capacity ≡ false → nat_lt k capacity ≡ false → refusal call capacity j len ≡ refusal call capacity k len
  refusal_enough (Edits (Load items)) j k h i = simp (h, i)
  refusal_enough (Edits (Push end item)) j k h i = simp (h, i)
  refusal_enough (Edits (Pop end)) j k h i = simp (h, i)
  refusal_enough (Edits (Swap a b)) j k h i = simp (h, i)
  refusal_enough (Edits (SwapRemove end index)) j k h i = simp (h, i)
  refusal_enough (Edits MakeContiguous) j k h i = simp (h, i)
  refusal_enough (Tests test predicate) j k h i = simp (h, i)
  refusal_enough (Releases release bin) j k h i = simp (h, i)
  refusal_enough (Retain predicate bin) j k h i = simp (h, i)
  refusal_enough (Reads read) j k h i = simp (h, i)
  refusal_enough IntoIter j k h i = simp (h, i)
  refusal_enough (Close bin) j k h i = simp (h, i)

-- a call that is lent the first `end` of the slots xs
module _ {T : Type 0} (call : Call T) (p : Places) (xs : List T) (asked end : ℕ) (room : p.capacity ≤ length xs) (is : end ≡ lent_end asked p.capacity (length xs)) where
  abbrev R : ℕ → Option Fault
  R k = refusal call p.capacity k p.len

  low : asked < p.capacity → end ≡ asked
  low h = is ∙ ap (λ b. cond b (min asked (length xs)) (length xs)) (lt-ltb asked p.capacity h) ∙ omega arith

  high : p.capacity ≤ asked → end ≡ length xs
  high h = is ∙ ap (λ b. cond b (min asked (length xs)) (length xs)) (le-ltb asked p.capacity h)

  few : asked < p.capacity → R asked ≡ Some (TooFewSlots asked)
  few h = refusal_short p.capacity p.len call asked (lt-ltb asked p.capacity h)

  part_short : asked < p.capacity → R (length (take end xs)) ≡ Some (TooFewSlots asked)
  part_short h = let e = low h in ap R (length-take-le end xs (omega arith) ∙ e) ∙ few h

  whole : p.capacity ≤ asked → take end xs ≡ xs
  whole h = let e = high h in take_all end xs (omega arith)

  nothing_left : p.capacity ≤ asked → drop end xs ≡ []
  nothing_left h = let e = high h in drop_all end xs (omega arith)

  whole_enough : p.capacity ≤ asked → R (length xs) ≡ R asked
  whole_enough h = refusal_enough p.capacity p.len call (length xs) asked (le-ltb (length xs) p.capacity room) (le-ltb asked p.capacity h)

  -- whatever a call leaves that is not slots
  pub lent_value : {X : Type 0} (x : X) (F : List T → X) → unless (R (length (take end xs))) x (F (take end xs)) ≡ unless (R asked) x (F xs)
  lent_value x F =
      ⊎_elim
      (λ h. ap (λ o. unless o x (F (take end xs))) (part_short h) ∙ sym (ap (λ o. unless o x (F xs)) (few h)))
      (λ h. ap (λ ys. unless (R (length ys)) x (F ys)) (whole h) ∙ ap (λ o. unless o x (F xs)) (whole_enough h))
      (cases_lt asked p.capacity)

  -- what it answers
  pub lent_answer : (item : Option T) (F : List T → Heard T) → unless_refused (R (length (take end xs))) item (F (take end xs)) ≡ unless_refused (R asked) item (F xs)
  lent_answer item F =
      ⊎_elim
      (λ h. ap (λ o. unless_refused o item (F (take end xs))) (part_short h) ∙ sym (ap (λ o. unless_refused o item (F xs)) (few h)))
      (λ h. ap (λ ys. unless_refused (R (length ys)) item (F ys)) (whole h) ∙ ap (λ o. unless_refused o item (F xs)) (whole_enough h))
      (cases_lt asked p.capacity)

  -- where it leaves the ring, with the part put back in its place
  pub lent_lies : (F : List T → Lies T) (q : Places) (ys : List T) → lie q ys ≡ unless (R (length (take end xs))) (lie p (take end xs)) (F (take end xs)) → lie q (ys ++ drop end xs) ≡ unless (R asked) (lie p xs) (F xs)
  lent_lies F q ys e =
      ⊎_elim
      (λ h. ap back (e ∙ ap (λ o. unless o (lie p (take end xs)) (F (take end xs))) (part_short h)) ∙ ap (lie p) (take-append-drop end xs) ∙ sym (ap (λ o. unless o (lie p xs) (F xs)) (few h)))
      (λ h. ap (λ zs. lie q (ys ++ zs)) (nothing_left h) ∙ ap (lie q) (append-nil ys) ∙ e ∙ ap (λ zs. unless (R (length zs)) (lie p zs) (F zs)) (whole h) ∙ ap (λ o. unless o (lie p xs) (F xs)) (whole_enough h))
      (cases_lt asked p.capacity)
    where
      back : Lies T → Lies T
      back r = lie r.places (r.slots ++ drop end xs)

module _ {T S P : Type 0} (takes : S → T → S) (rule : P → T → Shown P T) (m : Moment T S P) (q : Request T) (end : ℕ) where
  abbrev xs : List T
  xs = m.lies.slots

  -- m with these slots, and what a request left there with more slots behind them
  abbrev over : List T → Moment T S P
  over ys = record { phase = m.phase; lies = lie m.lies.places ys; bins = m.bins; predicates = m.predicates }

  abbrev pub before : List T → Moment T S P → Moment T S P
  before ys n = record { phase = n.phase; lies = lie n.lies.places (n.lies.slots ++ ys); bins = n.bins; predicates = n.predicates }

  abbrev extended : List T → Happened T S P → Happened T S P
  extended ys h = record { after = before ys h.after; answer = h.answer }

  -- what q comes to over the slots ys, where it is refused for this cause or for none
  abbrev comes : List T → Option Fault → Happened T S P
  comes ys o = cond (made m.phase (length m.bins) (length m.predicates) q.call) (acts takes rule (over ys) q.call o) (record { after = over ys; answer = said (Err Unmade) })

  abbrev refused : ℕ → Option Fault
  refused k = refusal q.call m.lies.places.capacity k m.lies.places.len

  -- what q comes to over the first slots alone
  abbrev pub part : Happened T S P
  part = step takes rule (over (take end xs)) (record { lent = length (take end xs); call = q.call })

  short : (fault : Fault) → extended (drop end xs) (comes (take end xs) (Some fault)) ≡ comes xs (Some fault)
  short fault =
      let whole : (a : Heard T) → extended (drop end xs) (record { after = over (take end xs); answer = a }) ≡ record { after = m; answer = a } = λ a. ap (λ ys. record { after = over ys; answer = a }) (take-append-drop end xs) in
      elim (made m.phase (length m.bins) (length m.predicates) q.call)
      as (λ b. extended (drop end xs) (cond b (acts takes rule (over (take end xs)) q.call (Some fault)) (record { after = over (take end xs); answer = said (Err Unmade) }))
      ≡ cond b (acts takes rule m q.call (Some fault)) (record { after = m; answer = said (Err Unmade) })) [ true ↦ whole _ | false ↦ whole _ ]

  extended_by_none : (h : Happened T S P) → extended [] h ≡ h
  extended_by_none h = ap (λ ys. record { after = record { phase = h.after.phase; lies = lie h.after.lies.places ys; bins = h.after.bins; predicates = h.after.predicates }; answer = h.answer }) (append-nil h.after.lies.slots)

  -- the capacity is counted by the code
  module _ (room : m.lies.places.capacity ≤ length xs) (counted : ℕ) (is_end : end ≡ lent_end q.lent counted (length xs)) (is_capacity : counted ≡ m.lies.places.capacity) where
    lent : extended (drop end xs) part ≡ step takes rule m q
    lent =
        let capacity = m.lies.places.capacity in
        let is : end ≡ lent_end q.lent capacity (length xs) = is_end ∙ ap (λ n. lent_end q.lent n (length xs)) is_capacity in
        elim (cases_lt q.lent capacity) [
          | inl lt ↦
              let less = lt-ltb q.lent capacity lt in
              let e : end ≡ q.lent = is ∙ ap (λ b. cond b (min q.lent (length xs)) (length xs)) less ∙ omega arith in
              let cause = refusal_short capacity m.lies.places.len q.call q.lent less in
              ap (λ o. extended (drop end xs) (comes (take end xs) o)) (ap refused (length-take-le end xs (omega arith) ∙ e) ∙ cause)
              ∙ short (TooFewSlots q.lent)
              ∙ sym (ap (comes xs) cause)
          | inr le ↦
              let more = le-ltb q.lent capacity le in
              let e : end ≡ length xs = is ∙ ap (λ b. cond b (min q.lent (length xs)) (length xs)) more in
              ap (λ ys. extended (drop end xs) (comes ys (refused (length ys)))) (take_all end xs (omega arith))
              ∙ ap (λ ys. extended ys (comes xs (refused (length xs)))) (drop_all end xs (omega arith))
              ∙ extended_by_none (comes xs (refused (length xs)))
              ∙ ap (comes xs) (refusal_enough capacity m.lies.places.len q.call (length xs) q.lent (le-ltb (length xs) capacity room) more)
        ]

    pub lent_moment : (n : Moment T S P) → n ≡ part.after → before (drop end xs) n ≡ (step takes rule m q).after
    lent_moment n e = ap (before (drop end xs)) e ∙ ap (λ h. h.after) lent

    pub lent_told : {H : Type 0} (hears : H → Heard T → H) (h h' : H) → h' ≡ fold hears h (heard part.answer) → h' ≡ fold hears h (heard (step takes rule m q).answer)
    lent_told hears h h' e = e ∙ ap (λ (z : Happened T S P). fold hears h (heard z.answer)) lent
