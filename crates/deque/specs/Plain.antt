-- What each accepted call is on the plain list, front to back, and what each read answers of it.
use Rattle.std.specs.Prelude.{ℕ, ◌-◌, Bool, cond, List, [], ◌∷◌, ◌++◌, length, take, drop, None, Option, nat_lt}
use Rattle.std.specs.List.{slice_get, swap as exchanged}
use Rattle.predicates.specs.Showing.{Shown, answered, yes_to, left, stored, showings}
use Rattle.deque.specs.Sifting.{kept, rest}

-- an edit's answer, the list after it, and the items that it bins, in their order
pub record Edit (A T : Type 0) : Type 0 where
  pub answer : A
  pub list : List T
  pub binned : List T

module _ {T : Type 0} where
  -- an edit that bins nothing
  abbrev pub edited : {A : Type 0} → A → List T → Edit A T
  edited a l = record { answer = a; list = l; binned = [] }

  -- an edit that keeps some items, bins the others, and answers how many it binned
  abbrev pub parted : (kept gone : List T) → Edit ℕ T
  parted kept gone = record { answer = length gone; list = kept; binned = gone }

  abbrev pub push_back : T → List T → Edit (Unit {0}) T
  push_back x l = edited tt (l ++ x ∷ [])

  abbrev pub push_front : T → List T → Edit (Unit {0}) T
  push_front x l = edited tt (x ∷ l)

  abbrev pub pop_front : List T → Edit (Option T) T
  pop_front l = edited (slice_get l 0) (drop 1 l)

  abbrev pub pop_back : List T → Edit (Option T) T
  pop_back l = edited (slice_get l (length l - 1)) (take (length l - 1) l)

  -- a load is of an empty list
  abbrev pub load : List T → List T → Edit (Unit {0}) T
  load items l = edited tt (l ++ items)

  abbrev pub swap : ℕ → ℕ → List T → Edit (Unit {0}) T
  swap i j l = edited tt (exchanged l i j)

  -- item i is exchanged with the one at an end, which is then popped
  abbrev pub swap_remove_front : ℕ → List T → Edit (Option T) T
  swap_remove_front i l = cond (nat_lt i (length l)) (pop_front (exchanged l i 0)) (edited None l)

  abbrev pub swap_remove_back : ℕ → List T → Edit (Option T) T
  swap_remove_back i l = cond (nat_lt i (length l)) (pop_back (exchanged l i (length l - 1))) (edited None l)

  abbrev pub truncate : ℕ → List T → Edit ℕ T
  truncate n l = parted (take n l) (drop n l)

  abbrev pub clear : List T → Edit ℕ T
  clear l = parted [] l

  -- the item at i, or none
  abbrev pub get : ℕ → List T → Option T
  get i l = slice_get l i

  abbrev pub front : List T → Option T
  front l = get 0 l

  abbrev pub back : List T → Option T
  back l = get (length l - 1) l

-- An item, or each, is shown to a predicate with this rule, in the state s.
module _ {S T : Type 0} (rule : S → T → Shown S T) (s : S) where
  -- item i is stored as the predicate leaves it
  abbrev pub change : ℕ → List T → Edit (Option Bool) T
  change i l = edited (answered rule s (get i l)) (stored (left rule s (get i l)) i l)

  -- the item at an end is stored so, and a yes pops it; after a no the change remains
  abbrev pub pop_front_if : List T → Edit (Option T) T
  pop_front_if l =
      let after : List T = stored (left rule s (front l)) 0 l in
      cond (yes_to rule s (front l)) (pop_front after) (edited None after)

  abbrev pub pop_back_if : List T → Edit (Option T) T
  pop_back_if l =
      let after : List T = stored (left rule s (back l)) (length l - 1) l in
      cond (yes_to rule s (back l)) (pop_back after) (edited None after)

  -- each is shown, in order
  abbrev pub retain : List T → Edit ℕ T
  retain l = parted (kept (showings rule s l)) (rest (showings rule s l))
