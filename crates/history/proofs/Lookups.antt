-- One element of a list that the code looks up by its index and changes, as the states see it.
use Rattle.std.proofs.Common.{◌≡◌, ℕ, zero, suc, ◌<◌, ◌≤◌, true, false, List, [], ◌∷◌, map, length, get_or, set, Some, nat_lt, sym, ap, ◌∙◌, arith}
use Rattle.std.proofs.Math.Seq.{map-set_same}
use Rattle.std.proofs.lemmas.List.{length-map}
use Rattle.std.proofs.lemmas.Option.{slice_get-map, slice_get-get_or}
use Rattle.std.proofs.lemmas.Bool.{lt-ltb, le-ltb}
use Rattle.calls.specs.PlainList.{modified}

module _ {X S : Type 0} (state : X → S) where
  pub state_changed : (f : S → S) (xs : List X) (k : ℕ) (x y : X) → k < length xs → x ≡ get_or xs k x → state y ≡ f (state x) → map state (set xs k y) ≡ modified k f (map state xs)
  state_changed f [] k x y lt is h = absurd (omega arith)
  state_changed f (z ∷ xs) zero x y lt is h = ap (λ s. s ∷ map state xs) (h ∙ ap (λ z. f (state z)) is)
  state_changed f (z ∷ xs) (suc k) x y lt is h = ap (λ l. state z ∷ l) (state_changed f xs k x y (omega arith) is h)

pub ruleset lookups = (slice_get-map, slice_get-get_or, state_changed, map-set_same, length-map, lt-ltb, le-ltb)
