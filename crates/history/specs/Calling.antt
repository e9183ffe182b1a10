-- What a call comes to that is lent these slots and no more.
use Rattle.std.specs.Prelude.{false, List, map, length}
use Rattle.bins.specs.declared.bin.Bin.{Ghosts as BinGhosts}
use Rattle.predicates.specs.Showing.{Shown}
use Rattle.predicates.specs.declared.predicate.Predicate.{Ghosts as PredicateGhosts}
use Rattle.places.specs.declared.Places.{Places}
use Rattle.calls.specs.Calls.{Phase}
use Rattle.calls.specs.Answers.{Answer, said}
use Rattle.calls.specs.RingAt.{Happened, lie, step}
use Rattle.calls.specs.declared.call.Call.{Call}
use Rattle.history.specs.Standing.{phase_of, places_of}
use Rattle.history.specs.declared.stage.Stage.{Stage}

module _ {T S P : Type 0} where
  -- where a call left all, and what it answered
  abbrev pub left_with : Phase → Places → List T → List S → List P → Answer T → Happened T S P
  left_with phase places slots bins predicates answer =
      record { after = record { phase = phase; lies = lie places slots; bins = bins; predicates = predicates }; answer = said answer }

  abbrev pub called : (S → T → S) → (P → T → Shown P T) → Phase → Places → List T → List S → List P → Call T → Happened T S P
  called takes rule phase places slots bins predicates call =
      step takes rule (record { phase = phase; lies = lie places slots; bins = bins; predicates = predicates }) (record { lent = length slots; call = call })

-- the rules that stand for those of bins and of predicates where none is at hand
abbrev pub no_bin : {T : Type 0} → Unit {0} → T → Unit {0}
no_bin s x = s

abbrev pub no_predicate : {T : Type 0} → Unit {0} → T → Shown (Unit {0}) T
no_predicate s x = record { answer = false; item = x; state = s }

-- a call of a stage, with bins and predicates as the code holds them
abbrev pub called_at : {T B R P : Type 0} → (b : BinGhosts B T R) → (p : PredicateGhosts P T) → Stage → List T → List B → List P → Call T → Happened T b.State p.State
called_at b p stage slots bins predicates call = called b.rule p.rule (phase_of stage) (places_of stage) slots (map b.state bins) (map p.state predicates) call
