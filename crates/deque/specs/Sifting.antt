-- What retaining keeps, and what it leaves behind.
use Rattle.std.specs.Prelude.{cond, List, [], ◌∷◌, ◌++◌, fold}
use Rattle.predicates.specs.Showing.{Shown}

-- the items that got yes, in their order, and the others, in the order in which the exchanges leave them
pub record Sifted (T : Type 0) : Type 0 where
  pub kept : List T
  pub rest : List T

abbrev pub first_to_end : {T : Type 0} → List T → List T
first_to_end [] = []
first_to_end (x ∷ l) = l ++ x ∷ []

module _ {S T : Type 0} where
  -- An item that got yes joins the kept ones: it changes places with the first of the rest, which so comes to the rest's end.
  -- An item that got no joins the rest.
  abbrev pub sift : Sifted T → Shown S T → Sifted T
  sift s w = cond w.answer (record { kept = s.kept ++ w.item ∷ []; rest = first_to_end s.rest }) (record { kept = s.kept; rest = s.rest ++ w.item ∷ [] })

  abbrev pub sifted : List (Shown S T) → Sifted T
  sifted ws = fold sift (record { kept = []; rest = [] }) ws

  abbrev pub kept : List (Shown S T) → List T
  kept ws = (sifted ws).kept

  abbrev pub rest : List (Shown S T) → List T
  rest ws = (sifted ws).rest
