-- The names of the calls.
use Rattle.std.specs.Prelude.{ℕ, cond, List, [], ◌∷◌, Some, None, codes, Option}
use Rattle.std.specs.Str.{bytes_eq}
use Rattle.places.specs.declared.End.TheVariants as end
use Rattle.script.specs.declared.command.Plain.TheVariants as plain
use Rattle.script.specs.declared.command.Indexed.TheVariants as indexed
use Rattle.script.specs.declared.command.Kind.{Kind}
use Rattle.script.specs.declared.command.Kind.TheVariants as kind
use Rattle.script.specs.declared.command.Name.{Name}
use Rattle.script.specs.declared.command.Name.TheVariants.{Plain, Indexed, Push, Swap, Load, Capacity, Retain, PopIf, Change}

-- the value beside a word in a table
abbrev pub lookup : {A : Type 0} → List (List ℕ × A) → List ℕ → Option A
lookup [] w = None
lookup (row ∷ rows) w = cond (bytes_eq w row.0) (Some row.1) (lookup rows w)

abbrev pub names : List (List ℕ × Name)
names =
    (codes "capacity", Capacity)
    ∷ (codes "load", Load)
    ∷ (codes "push_back", Push end.Back)
    ∷ (codes "push_front", Push end.Front)
    ∷ (codes "pop_front", Plain plain.PopFront)
    ∷ (codes "pop_back", Plain plain.PopBack)
    ∷ (codes "get", Indexed indexed.Get)
    ∷ (codes "front", Plain plain.Front)
    ∷ (codes "back", Plain plain.Back)
    ∷ (codes "len", Plain plain.Len)
    ∷ (codes "is_empty", Plain plain.IsEmpty)
    ∷ (codes "is_full", Plain plain.IsFull)
    ∷ (codes "slices", Plain plain.Slices)
    ∷ (codes "iter", Plain plain.Iter)
    ∷ (codes "swap", Swap)
    ∷ (codes "swap_remove_front", Indexed indexed.SwapRemoveFront)
    ∷ (codes "swap_remove_back", Indexed indexed.SwapRemoveBack)
    ∷ (codes "truncate", Indexed indexed.Truncate)
    ∷ (codes "make_contiguous", Plain plain.MakeContiguous)
    ∷ (codes "change", Change)
    ∷ (codes "pop_front_if_at_least", PopIf end.Front kind.AtLeast)
    ∷ (codes "pop_front_if_adding", PopIf end.Front kind.Adding)
    ∷ (codes "pop_front_if_mask", PopIf end.Front kind.Mask)
    ∷ (codes "pop_back_if_at_least", PopIf end.Back kind.AtLeast)
    ∷ (codes "pop_back_if_adding", PopIf end.Back kind.Adding)
    ∷ (codes "pop_back_if_mask", PopIf end.Back kind.Mask)
    ∷ (codes "retain_at_least", Retain kind.AtLeast)
    ∷ (codes "retain_adding", Retain kind.Adding)
    ∷ (codes "retain_mask", Retain kind.Mask)
    ∷ (codes "clear", Plain plain.Clear)
    ∷ (codes "close", Plain plain.Close)
    ∷ (codes "draw", Plain plain.Draw)
    ∷ []

-- the predicates that a change names
abbrev pub kinds : List (List ℕ × Kind)
kinds = (codes "at_least", kind.AtLeast) ∷ (codes "adding", kind.Adding) ∷ (codes "mask", kind.Mask) ∷ []
