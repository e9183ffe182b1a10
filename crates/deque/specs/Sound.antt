-- What every ring's places keep.
use Rattle.std.specs.Prelude.{ℕ, ◌-◌, ◌≤◌}
use Rattle.places.specs.declared.Places.{Places}

-- the slots that a ring uses at most
abbrev pub most : ℕ
most = 1048576

-- front is below the capacity, or 0 where there are no slots: `-` stops at 0
abbrev pub Sound : Places → Type 0
Sound p = (p.capacity ≤ most) × (p.len ≤ p.capacity) × (p.front ≤ p.capacity - 1)
