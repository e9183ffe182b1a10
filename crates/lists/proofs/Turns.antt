-- A list turned left.
use Rattle.std.proofs.Common.{◌≡◌, ℕ, ◌+◌, ◌≤◌, List, ◌++◌, reverse, length, take, drop, refl, ap, ◌∙◌, append-nil, arith, length-drop}
use mathlib.Core.List.{reverse-append, reverse-reverse}
use borrow.Rule.Slice.PartMut.{put_mid, post_of}
use Rattle.std.proofs.lemmas.List.{take_at, drop_at, take_all, drop_all, length-take-le, length-reverse}
use Rattle.lists.specs.Rotated.{rotated}

-- turning past the end changes nothing
pub rotated_past : {X : Type 0} (k : ℕ) (xs : List X) → length xs ≤ k → xs ≡ rotated k xs
rotated_past k xs h = rw (drop_all k xs h, take_all k xs h) refl

-- turning by the length of the first of two lists that stand side by side
pub rotated_append : {X : Type 0} (k : ℕ) (ys zs : List X) → length ys ≡ k → rotated k (ys ++ zs) ≡ zs ++ ys
rotated_append k ys zs e = rw (drop_at ys zs k e, take_at ys zs k e) refl

-- the two parts reversed, and then the whole
pub rotated_by_reversals : {X : Type 0} (k : ℕ) (xs : List X) → reverse (reverse (take k xs) ++ reverse (drop k xs)) ≡ rotated k xs
rotated_by_reversals k xs = simp (reverse-append, reverse-reverse)

-- the same as the code does it: the part s[0..k], of k slots, then s[k..], of r slots, and then all of s
pub three_reversals : {X : Type 0} (k j r : ℕ) (xs ys zs ws : List X) → j ≡ k → k + r ≡ length xs
    → ys ≡ reverse (take j xs)
    → zs ≡ reverse (take r (drop k (ys ++ post_of 0 j xs)))
    → ws ≡ reverse (put_mid k r (ys ++ post_of 0 j xs) zs) → ws ≡ rotated k xs
three_reversals k j r xs ys zs ws e s p q t =
    let l : length ys ≡ k = ap length p ∙ length-reverse (take j xs) ∙ length-take-le j xs (omega arith) ∙ e in
    let back = drop_at ys (drop k xs) k l in
    let fore = take_at ys (drop k xs) k l in
    let n : length (drop k xs) ≤ r = simp length-drop (omega arith) in
    let all = take_all r (drop k xs) n in
    let none = drop_all r (drop k xs) n in
    let nil = append-nil zs in
    let by = rotated_by_reversals k xs in
    cc
