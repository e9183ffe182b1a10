-- What is told of an answer, and what is heard of it.
use Rattle.std.specs.Prelude.{List, [], ◌∷◌, map, Ok, Err, Result}
use Rattle.std.specs.List.{flat_map}
use Rattle.walk.specs.Walks.{ahead}
use Rattle.calls.specs.Answers.{Heard, said, slices, walked}
use Rattle.calls.specs.PlainList.{walk}
use Rattle.calls.specs.declared.answer.NotDone.{NotDone}
use Rattle.calls.specs.declared.answer.Value.TheVariants.{Item}
use Rattle.history.specs.declared.reads.Reading.{Reading}
use Rattle.history.specs.declared.reads.Reading.TheVariants as ReadingIs

module _ {T : Type 0} where
  -- what a listener hears of an answer: of a walk, each item that it came to
  abbrev pub heard : Heard T → List (Heard T)
  heard (said answer) = said answer ∷ []
  heard (slices front first second) = slices front first second ∷ []
  heard (walked items) = map (λ o. said (Ok (Item o))) items

  -- what a read came to, or its refusal, as it is told
  abbrev pub told_of : Result (Reading T) (NotDone T) → Heard T
  told_of (Ok (ReadingIs.Value value)) = said (Ok value)
  told_of (Ok (ReadingIs.Slices front first second)) = slices front first.now second.now
  told_of (Ok (ReadingIs.Walk iter ends)) = walked (walk ends.now (ahead iter))
  told_of (Err not_done) = said (Err not_done)

  abbrev pub all_heard : List (Heard T) → List (Heard T)
  all_heard answers = flat_map heard answers
