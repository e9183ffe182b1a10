-- One of two bins: its rule is that of the one that is there. S and U are their states.
use Rattle.either.specs.declared.Either.{Either}
use Rattle.either.specs.declared.Either.TheVariants.{Left, Right}

abbrev pub taken_by : {S U T : Type 0} → (S → T → S) → (U → T → U) → Either S U → T → Either S U
taken_by f h (Left s) x = Left (f s x)
taken_by f h (Right u) x = Right (h u x)

-- the one that is there has taken nothing
abbrev pub IsFresh : {S U : Type 0} → (S → Type 0) → (U → Type 0) → Either S U → Type 0
IsFresh f h (Left s) = f s
IsFresh f h (Right u) = h u
