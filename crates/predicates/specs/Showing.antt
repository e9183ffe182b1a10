-- What showing an item to a predicate gives, and what showing a whole list gives.
use Rattle.std.specs.Prelude.{ℕ, Bool, false, List, [], ◌∷◌, Some, None, fold, Option, slice_set}

pub record Shown (S T : Type 0) : Type 0 where
  pub answer : Bool
  pub item : T
  pub state : S

-- One item, or none, is shown to a predicate with this rule, in the state s.
module _ {S T : Type 0} (rule : S → T → Shown S T) (s : S) where
  -- what it answers
  abbrev pub answered : Option T → Option Bool
  answered None = None
  answered (Some x) = Some (rule s x).answer

  -- whether it answers yes
  abbrev pub yes_to : Option T → Bool
  yes_to None = false
  yes_to (Some x) = (rule s x).answer

  -- the item as it leaves it
  abbrev pub left : Option T → Option T
  left None = None
  left (Some x) = Some (rule s x).item

  -- its state after
  abbrev pub moved : Option T → S
  moved None = s
  moved (Some x) = (rule s x).state

-- a list with an item, or none, stored at i
abbrev pub stored : {T : Type 0} → Option T → ℕ → List T → List T
stored None i l = l
stored (Some x) i l = slice_set l i x

-- Each item of a list is shown, in order.
module _ {S T : Type 0} (rule : S → T → Shown S T) where
  abbrev pub showings : S → List T → List (Shown S T)
  showings s [] = []
  showings s (x ∷ l) = rule s x ∷ showings (rule s x).state l

  -- the state after the last showing
  abbrev pub after : S → List T → S
  after s l = fold (λ t x. (rule t x).state) s l
