-- Where each accepted call leaves the front and the length.
use Rattle.std.specs.Prelude.{ℕ, ◌+◌, ◌-◌, min, Bool, cond, ◌==◌, nat_lt}
use Rattle.places.specs.declared.Places.{Places}
use Rattle.deque.specs.Sound.{most}
use Rattle.deque.specs.Ring.{slot, before, new_front}

-- the same slots, with another front and length
abbrev pub placed : Places → (front len : ℕ) → Places
placed p front len = record { capacity = p.capacity; front = front; len = len }

-- a ring that is made over so many slots
abbrev pub fresh : (given : ℕ) → Places
fresh given = record { capacity = min given most; front = 0; len = 0 }

abbrev pub push_back : Places → Places
push_back p = placed p p.front (p.len + 1)

abbrev pub push_front : Places → Places
push_front p = placed p (before p) (p.len + 1)

-- an empty ring stays as it is
abbrev pub pop_front : Places → Places
pop_front p = cond (p.len == 0) p (placed p (slot p 1) (p.len - 1))

abbrev pub pop_back : Places → Places
pop_back p = placed p p.front (p.len - 1)

abbrev pub load : (offered : ℕ) → Places → Places
load offered p = placed p 0 offered

abbrev pub swap_remove_front : ℕ → Places → Places
swap_remove_front i p = cond (nat_lt i p.len) (pop_front p) p

abbrev pub swap_remove_back : ℕ → Places → Places
swap_remove_back i p = cond (nat_lt i p.len) (pop_back p) p

abbrev pub truncate : ℕ → Places → Places
truncate n p = placed p p.front (min n p.len)

abbrev pub clear : Places → Places
clear p = placed p 0 0

-- a pop that a predicate said yes or no to
abbrev pub pop_front_if : Bool → Places → Places
pop_front_if yes_said p = cond yes_said (pop_front p) p

abbrev pub pop_back_if : Bool → Places → Places
pop_back_if yes_said p = cond yes_said (pop_back p) p

-- so many items are kept
abbrev pub retain : (kept : ℕ) → Places → Places
retain kept p = placed p p.front kept

abbrev pub make_contiguous : Places → Places
make_contiguous p = placed p (new_front p) p.len
