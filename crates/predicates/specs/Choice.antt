-- One of two predicates: its rule is that of the one that is there.
use Rattle.either.specs.declared.Either.{Either}
use Rattle.either.specs.declared.Either.TheVariants.{Left, Right}
use Rattle.predicates.specs.Showing.{Shown}

-- S and U are their states
abbrev pub shown_by : {S U T : Type 0} → (S → T → Shown S T) → (U → T → Shown U T) → Either S U → T → Shown (Either S U) T
shown_by f h (Left s) x = record { answer = (f s x).answer; item = (f s x).item; state = Left (f s x).state }
shown_by f h (Right u) x = record { answer = (h u x).answer; item = (h u x).item; state = Right (h u x).state }
