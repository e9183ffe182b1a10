-- Where the items of a ring lie in its slots, and the list that they are.
use Rattle.std.specs.Prelude.{ℕ, ◌+◌, ◌-◌, ◌%◌, min, cond, List, ◌++◌, length, take, drop, Option, nat_le, nat_lt}
use Rattle.std.specs.List.{between}
use Rattle.fault.specs.declared.Fault.{Fault}
use Rattle.places.specs.declared.Places.{Places}

-- the slot of item i
abbrev pub slot : Places → ℕ → ℕ
slot p i = (p.front + i) % p.capacity

-- the slot before the front
abbrev pub before : Places → ℕ
before p = (p.front + p.capacity - 1) % p.capacity

-- how many items lie from the front slot on; the others begin at slot 0
abbrev pub high : Places → ℕ
high p = min p.len (p.capacity - p.front)

abbrev pub low : Places → ℕ
low p = p.len - high p

-- where h items at the end of the slots and t items at their start, with e vacant slots between, come together
abbrev pub joined_front : (h t e : ℕ) → ℕ
joined_front h t e = cond (nat_le h e) 0 (cond (nat_le t e) t (cond (nat_lt t h) e 0))

-- where the items begin once they lie in one part: where they do already, that is the front
abbrev pub new_front : Places → ℕ
new_front p =
    let behind : ℕ = p.capacity - p.front in
    cond (nat_le p.front (p.capacity - p.len)) p.front (joined_front behind (p.len - behind) (p.capacity - p.len))

module _ {T : Type 0} where
  -- the list of a ring in two parts of its slots
  abbrev pub slices : Places → List T → List T × List T
  slices p xs = (take (high p) (drop p.front xs), take (low p) xs)

  -- the list of a ring, from the front to the back
  unfoldable pub contents : Places → List T → List T
  contents p xs = (slices p xs).0 ++ (slices p xs).1

  -- the slots with a list of the ring's length in the place of its items
  unfoldable pub lay : Places → List T → List T → List T
  lay p xs l = drop (high p) l ++ (between (low p) p.front xs ++ (take (high p) l ++ drop (p.front + high p) xs))

  -- a refusal at a ring: it is fed the capacity, the number of slots lent, and the length
  abbrev pub at : Places → List T → ((capacity lent len : ℕ) → Option Fault) → Option Fault
  at p xs refusal = refusal p.capacity (length xs) p.len
