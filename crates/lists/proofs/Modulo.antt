-- A sum of two numbers, modulo a number that is no less than either.
use Rattle.std.proofs.Common.{◌≡◌, ℕ, ◌+◌, ◌-◌, ◌%◌, ◌<◌, ◌≤◌, ◌∙◌, mod-eq_of_lt, arith}
use native.Mathlib.Nat.{mod-eq-sub-mod}

pub mod_low : (f i n : ℕ) → f + i < n → (f + i) % n ≡ f + i
mod_low f i n h = mod-eq_of_lt h

pub mod_high : (f i n : ℕ) → n ≤ f + i → f < n → i ≤ n → (f + i) % n ≡ f + i - n
mod_high f i n h l m = let k : f + i - n < n = omega arith in mod-eq-sub-mod h ∙ mod-eq_of_lt k
