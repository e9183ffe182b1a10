-- An item of a list that is shown.
use Rattle.std.proofs.Common.{◌≡◌, ℕ, false, List, length, unwrap_or, Some, None, Option, refl, length-set}
use Rattle.predicates.specs.Showing.{Shown, answered, yes_to, stored}

-- where there is no item, there is no yes
pub yes_answered : {S T : Type 0} (rule : S → T → Shown S T) (s : S) (o : Option T) → unwrap_or (answered rule s o) false ≡ yes_to rule s o
yes_answered rule s None = refl
yes_answered rule s (Some x) = refl

pub length_stored : {T : Type 0} (o : Option T) (i : ℕ) (l : List T) → length (stored o i l) ≡ length l
length_stored None i l = refl
length_stored (Some x) i l = length-set l i x
