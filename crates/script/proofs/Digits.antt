-- A number that grows too large.
use Rattle.std.proofs.Common.{◌≡◌, ℕ, ◌+◌, ◌-◌, ◌*◌, ◌<◌, List, [], ◌∷◌, length, get_or, drop, None, ap, ◌∙◌, arith}
use Rattle.std.proofs.lemmas.List.{drop_more}
use Rattle.std.proofs.lemmas.Bool.Decides.{nat_tests}
use Rattle.script.specs.Text.{number_after, at_most}

-- more digits never make it smaller
pub too_large : (max n : ℕ) (cs : List ℕ) → max < n → at_most max (number_after n cs) ≡ None
unfolding number_after
too_large max n [] h = grind (arith, nat_tests)
too_large max n (c ∷ cs) h = let more = too_large max (n * 10 + (c - 48)) cs (omega arith) in grind (arith, nat_tests)

pub number_over : (max n i : ℕ) (w : List ℕ) → i < length w → max < n * 10 + (get_or w i 0 - 48) → at_most max (number_after n (drop i w)) ≡ None
unfolding number_after
number_over max n i w h over = let more = too_large max (n * 10 + (get_or w i 0 - 48)) (drop (i + 1) w) over in ap (λ cs. at_most max (number_after n cs)) (drop_more w i 0 h) ∙ grind (arith, nat_tests)
