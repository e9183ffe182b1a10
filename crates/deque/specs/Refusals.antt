-- When a call is refused: fed the capacity, the number of slots lent, the length, and what the call brings.
use Rattle.std.specs.Prelude.{ℕ, Option, ◌==◌, nat_le, nat_lt}
use Rattle.fault.specs.declared.Fault.{Fault}
use Rattle.fault.specs.declared.Fault.TheVariants.{TooFewSlots, Full, OutOfRange, NotEmpty, TooMany}
use Rattle.fault.specs.Refusing.{when, first}

-- fewer slots than the capacity: every call tests this first, and most test nothing else
abbrev pub slots : (capacity lent len : ℕ) → Option Fault
slots capacity lent len = when (nat_lt lent capacity) (TooFewSlots lent)

-- a push at the capacity
abbrev pub push : (capacity lent len : ℕ) → Option Fault
push capacity lent len = first (slots capacity lent len) (when (len == capacity) (Full len))

-- an index that is not below the length: i, and then j
abbrev pub swap : (i j capacity lent len : ℕ) → Option Fault
swap i j capacity lent len = first (slots capacity lent len) (first (when (nat_le len i) (OutOfRange i)) (when (nat_le len j) (OutOfRange j)))

-- a load into a ring that is not empty, and then one of more than the capacity
abbrev pub load : (offered capacity lent len : ℕ) → Option Fault
load offered capacity lent len = first (slots capacity lent len) (first (when (nat_lt 0 len) (NotEmpty len)) (when (nat_lt capacity offered) (TooMany offered)))
