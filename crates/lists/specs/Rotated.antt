-- A list turned left.
use Rattle.std.specs.Prelude.{ℕ, List, ◌++◌, take, drop}

-- the elements from k on, and then the first k
abbrev pub rotated : {X : Type 0} → (k : ℕ) → List X → List X
rotated k xs = drop k xs ++ take k xs
