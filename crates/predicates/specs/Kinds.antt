-- The kinds of predicates, by their rules.
use Rattle.std.specs.Prelude.{ℕ, ◌+◌, ◌%◌, Bool, false, List, [], ◌∷◌, nat_le}
use Rattle.predicates.specs.declared.mask.Mask.{Mask}
use Rattle.predicates.specs.Showing.{Shown}

-- yes for a byte of at least the floor, which it leaves as it is
abbrev pub at_least : (floor : ℕ) → ℕ → Shown ℕ ℕ
at_least floor x = record { answer = nat_le floor x; item = x; state = floor }

-- adds modulo 256, with yes where nothing carried
abbrev pub add_byte : (by : ℕ) → ℕ → Shown ℕ ℕ
add_byte by x = record { answer = nat_le (x + by) 255; item = (x + by) % 256; state = by }

-- the flags that are left: one is used at each showing, and no stands beyond the last
abbrev pub mask : {T : Type 0} → List Bool → T → Shown (List Bool) T
mask [] x = record { answer = false; item = x; state = [] }
mask (b ∷ bs) x = record { answer = b; item = x; state = bs }

abbrev pub flags_left : Mask → List Bool
flags_left m = m.flags.now
