-- What holds where a refusal is not given.
use Rattle.std.proofs.Common.{◌≡◌, ℕ, ◌<◌, ◌≤◌, Bool, true, false, Some, None, Option, sym, refl, arith}
use Rattle.std.proofs.lemmas.Bool.Decides.{nat_tests}
use Rattle.std.proofs.lemmas.Option.{none-some}
use Rattle.fault.specs.declared.Fault.{Fault}
use Rattle.fault.specs.Refusing.{when, first}
use Rattle.deque.specs.Refusals as refusals

-- a refusal that is not given has no cause
pub when_none : (test : Bool) (fault : Fault) → when test fault ≡ None → test ≡ false
when_none true fault e = absurd (none-some fault (sym e))
when_none false fault e = refl

pub first_none : (a b : Option Fault) → first a b ≡ None → (a ≡ None) × (b ≡ None)
first_none (Some fault) b e = absurd (none-some fault (sym e))
first_none None b e = (refl, e)

pub load_fits : (offered capacity lent len : ℕ) → refusals.load offered capacity lent len ≡ None → (len ≡ 0) × (offered ≤ capacity)
load_fits offered capacity lent len h = (grind (arith, nat_tests), grind (arith, nat_tests))

pub not_full : (capacity lent len : ℕ) → refusals.push capacity lent len ≡ None → len ≡ capacity → ⊥
not_full capacity lent len h e = grind (arith, nat_tests)

pub both_inside : (i j capacity lent len : ℕ) → refusals.swap i j capacity lent len ≡ None → (i < len) × (j < len)
both_inside i j capacity lent len h = (grind (arith, nat_tests), grind (arith, nat_tests))
