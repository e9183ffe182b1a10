-- What each accepted call that writes leaves in the slots.
use Rattle.std.specs.Prelude.{ℕ, ◌+◌, ◌-◌, cond, List, ◌++◌, length, take, drop, Option, nat_lt, slice_set}
use Rattle.std.specs.List.{swap as exchanged}
use Rattle.predicates.specs.Showing.{stored}
use Rattle.places.specs.declared.Places.{Places}
use Rattle.deque.specs.Ring.{slot, before, new_front, contents, lay}

module _ {T : Type 0} where
  abbrev pub push_back : T → Places → List T → List T
  push_back x p xs = slice_set xs (slot p p.len) x

  abbrev pub push_front : T → Places → List T → List T
  push_front x p xs = slice_set xs (before p) x

  abbrev pub load : List T → List T → List T
  load items xs = items ++ drop (length items) xs

  abbrev pub swap : ℕ → ℕ → Places → List T → List T
  swap i j p xs = exchanged xs (slot p i) (slot p j)

  abbrev pub swap_remove_front : ℕ → Places → List T → List T
  swap_remove_front i p xs = cond (nat_lt i p.len) (swap i 0 p xs) xs

  abbrev pub swap_remove_back : ℕ → Places → List T → List T
  swap_remove_back i p xs = cond (nat_lt i p.len) (swap i (p.len - 1) p xs) xs

  -- an item, or none, stored as item i
  abbrev pub store : Option T → ℕ → Places → List T → List T
  store o i p xs = stored o (slot p i) xs

  -- the items kept, and then the rest
  abbrev pub retain : (kept rest : List T) → Places → List T → List T
  retain kept rest p xs = lay p xs (kept ++ rest)

  -- the list fills the slots from the new front on, and every other slot is as it was
  abbrev pub make_contiguous : Places → List T → List T
  make_contiguous p xs = take (new_front p) xs ++ contents p xs ++ drop (new_front p + p.len) xs
