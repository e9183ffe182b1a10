-- Parts of a list that are copied over others.
use Rattle.std.proofs.Common.{◌≡◌, ℕ, ◌+◌, ◌-◌, ◌≤◌, List, ◌++◌, length, take, drop, sym, ◌∙◌, append_assoc, arith, length-append, length-drop, length-take}
use lib.Seq.{paste}
use borrow.Rule.Slice.PartMut.{put_mid}
use Rattle.std.proofs.lemmas.List.{take_at, drop_at, take_all, take-take, drop-drop, take-append-drop, take-append-le, length-take-le}
use Rattle.std.proofs.lemmas.List.Edits.{drop-paste, paste-paste}
use Rattle.lists.specs.Rotated.{rotated}
use Rattle.lists.proofs.Turns.{rotated_append}

module _ {X : Type 0} where
  -- only the first n elements of the source count
  pub paste_take : (d : List X) (at : ℕ) (s : List X) (n : ℕ) → paste d at s n ≡ paste d at (take n s) n
  paste_take d at s n = let e = take_all n (take n s) (simp length-take (omega arith)) in cc

  -- what lies below a copied part
  pub take_paste_below : (d : List X) (at : ℕ) (s : List X) (n m : ℕ) → m ≤ at → at ≤ length d → take m (paste d at s n) ≡ take m d
  take_paste_below d at s n m le hd =
      let l : length (take at d) ≡ at = length-take-le at d hd in
      rw append_assoc (take-append-le m (take at d) (take n s ++ drop (at + n) d) (omega arith) ∙ take-take m at d le)

  -- from a copied part on
  pub drop_paste_at : (d : List X) (at : ℕ) (s : List X) (n : ℕ) → at ≤ length d → drop at (paste d at s n) ≡ take n s ++ drop (at + n) d
  drop_paste_at d at s n hd = rw append_assoc (drop_at (take at d) (take n s ++ drop (at + n) d) at (length-take-le at d hd))

  -- what lies above a copied part
  pub drop_paste_above : (d : List X) (at : ℕ) (s : List X) (n m : ℕ) → at + n ≤ m → at ≤ length d → n ≤ length s → drop m (paste d at s n) ≡ drop m d
  drop_paste_above d at s n m le hd hs =
      let k : (at + n) + (m - (at + n)) ≡ m = omega arith in
      let a = drop-drop (m - (at + n)) (at + n) (paste d at s n) in
      let b = drop-drop (m - (at + n)) (at + n) d in
      let e = drop-paste d at s n hd hs in
      cc

  -- a part copied over itself
  pub paste_self : (d : List X) (from at n : ℕ) → from ≡ at → d ≡ paste d at (drop from d) n
  paste_self d from at n e =
      let i = take-append-drop at d in
      let j = take-append-drop n (drop at d) in
      let k = drop-drop n at d in
      let a = append_assoc (take at d) (take n (drop at d)) (drop (at + n) d) in
      cc

  -- a second part copied right before the first
  pub paste_before : (d : List X) (at : ℕ) (s t : List X) (n k : ℕ) → length s ≡ n → length t ≡ k → at + k + n ≤ length d
      → paste (paste d (at + k) s n) at t k ≡ paste d at (t ++ s) (k + n)
  paste_before d at s t n k es et hd =
      let below = take_paste_below d (at + k) s n at (omega arith) (omega arith) in
      let from = drop_paste_at d (at + k) s n (omega arith) in
      let ts = take_all n s (omega arith) in
      let tt' = take_all k t (omega arith) in
      let both : take (k + n) (t ++ s) ≡ t ++ s = take_all (k + n) (t ++ s) (simp length-append (omega arith)) in
      let sum : at + k + n ≡ at + (k + n) = omega arith in
      let one = append_assoc (take at d ++ t) s (drop (at + (k + n)) d) in
      let two = append_assoc (take at d) t s in
      cc

  -- Of a list, h elements from f on and t elements from 0 on. Four ways to put the t after the h:

  -- the t up by h, and then the h down to 0, with room for the h between
  pub joined_down : (xs : List X) (f h t : ℕ) → h + t ≤ f → f + h ≤ length xs
      → paste (paste xs h xs t) 0 (drop f (paste xs h xs t)) h ≡ paste xs 0 (take h (drop f xs) ++ take t xs) (h + t)
  joined_down xs f h t room fits =
      let above = drop_paste_above xs h xs t f room (omega arith) (omega arith) in
      let a = paste_take xs h xs t in
      let b = paste_take (paste xs h (take t xs) t) 0 (drop f xs) h in
      let l : length (take h (drop f xs)) ≡ h = length-take-le h (drop f xs) (simp length-drop (omega arith)) in
      let z : 0 + h ≡ h = omega arith in
      let j = paste_before xs 0 (take t xs) (take h (drop f xs)) t h (length-take-le t xs (omega arith)) l (omega arith) in
      cc

  -- the h down to t, and then the t after them, with room for the t between
  pub joined_up : (xs : List X) (f h t : ℕ) → t ≤ f → f + h ≤ length xs
      → paste (paste xs t (drop f xs) h) (t + h) (paste xs t (drop f xs) h) t ≡ paste xs t (take h (drop f xs) ++ take t xs) (h + t)
  joined_up xs f h t room fits =
      let below = take_paste_below xs t (drop f xs) h t (omega arith) (omega arith) in
      let a = paste_take xs t (drop f xs) h in
      let b = paste_take (paste xs t (drop f xs) h) (t + h) (paste xs t (drop f xs) h) t in
      let l : h ≡ length (take h (drop f xs)) = sym (length-take-le h (drop f xs) (simp length-drop (omega arith))) in
      let m : t ≡ length (take t xs) = sym (length-take-le t xs (omega arith)) in
      let j = paste-paste xs t (take h (drop f xs)) (take t xs) h t l m (omega arith) in
      cc

  -- two parts that stand side by side from a on, the first of t and the second of h elements, rotated
  pub rotated_beside : (ys : List X) (a t h : ℕ) (ps qs : List X) → length ps ≡ t → length qs ≡ h → drop a ys ≡ ps ++ (qs ++ drop (a + (t + h)) ys)
      → put_mid a (t + h) ys (rotated t (take (t + h) (drop a ys))) ≡ take a ys ++ ((qs ++ ps) ++ drop (a + (t + h)) ys)
  rotated_beside ys a t h ps qs ep eq e =
      let l : length (ps ++ qs) ≡ t + h = simp length-append (omega arith) in
      let one = append_assoc ps qs (drop (a + (t + h)) ys) in
      let whole = take_at (ps ++ qs) (drop (a + (t + h)) ys) (t + h) l in
      let turn = rotated_append t ps qs ep in
      let rest = drop-drop (t + h) a ys in
      cc

  -- the t up to where the h begin, and then both rotated
  pub joined_by_turn_up : (xs : List X) (e h t : ℕ) → e + (t + h) ≤ length xs
      → put_mid e (t + h) (paste xs e xs t) (rotated t (take (t + h) (drop e (paste xs e xs t)))) ≡ paste xs e (take h (drop (e + t) xs) ++ take t xs) (h + t)
  joined_by_turn_up xs e h t fits =
      let from = drop_paste_at xs e xs t (omega arith) in
      let cut = take-append-drop h (drop (e + t) xs) in
      let past = drop-drop h (e + t) xs in
      let sum : e + t + h ≡ e + (t + h) = omega arith in
      let swap : h + t ≡ t + h = omega arith in
      let above = drop_paste_above xs e xs t (e + (t + h)) (omega arith) (omega arith) (omega arith) in
      let below = take_paste_below xs e xs t e (omega arith) (omega arith) in
      let lt = length-take-le t xs (omega arith) in
      let lh : length (take h (drop (e + t) xs)) ≡ h = length-take-le h (drop (e + t) xs) (simp length-drop (omega arith)) in
      let turn = rotated_beside (paste xs e xs t) e t h (take t xs) (take h (drop (e + t) xs)) lt lh (cc) in
      let all : take (h + t) (take h (drop (e + t) xs) ++ take t xs) ≡ take h (drop (e + t) xs) ++ take t xs = take_all (h + t) _ (simp length-append (omega arith)) in
      let one = append_assoc (take e xs) (take h (drop (e + t) xs) ++ take t xs) (drop (e + (t + h)) xs) in
      cc

  -- the h down to where the t end, and then both rotated
  pub joined_by_turn_down : (xs : List X) (f h t : ℕ) → t ≤ f → f + h ≤ length xs
      → put_mid 0 (t + h) (paste xs t (drop f xs) h) (rotated t (take (t + h) (paste xs t (drop f xs) h))) ≡ paste xs 0 (take h (drop f xs) ++ take t xs) (h + t)
  joined_by_turn_down xs f h t room fits =
      let z : 0 + (t + h) ≡ t + h = omega arith in
      let swap : h + t ≡ t + h = omega arith in
      let lh : length (take h (drop f xs)) ≡ h = length-take-le h (drop f xs) (simp length-drop (omega arith)) in
      let lt = length-take-le t xs (omega arith) in
      let above = drop_paste_above xs t (drop f xs) h (t + h) (omega arith) (omega arith) (simp length-drop (omega arith)) in
      let one = append_assoc (take t xs) (take h (drop f xs)) (drop (t + h) xs) in
      let turn = rotated_beside (paste xs t (drop f xs) h) 0 t h (take t xs) (take h (drop f xs)) lt lh (cc) in
      let all : take (h + t) (take h (drop f xs) ++ take t xs) ≡ take h (drop f xs) ++ take t xs = take_all (h + t) _ (simp length-append (omega arith)) in
      cc
