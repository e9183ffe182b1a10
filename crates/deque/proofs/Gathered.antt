-- The items of a ring in one part of its slots.
use Rattle.std.proofs.Common.{◌≡◌, ℕ, ◌+◌, ◌-◌, ◌<◌, ◌≤◌, List, ◌++◌, length, take, drop, append_assoc, append-nil, arith, length-append, length-drop, length-take}
use lib.Seq.{paste}
use Rattle.std.proofs.lemmas.List.{take_at, drop_at, take_all, drop-drop, take-append-drop, length-take-le}
use Rattle.std.proofs.lemmas.Bool.Decides.{nat_tests}
use Rattle.places.specs.declared.Places.{Places}
use Rattle.deque.specs.Sound.{Sound}
use Rattle.deque.specs.Ring.{high, low, contents, new_front}
use Rattle.deque.specs.Moves.{placed}
use Rattle.deque.specs.Moves as moves
use Rattle.deque.specs.Writes as writes
use Rattle.deque.proofs.Contents.{length_contents}

module _ (p : Places) (ok : Sound p) where
  -- the items fit behind the new front
  pub new_front_fits : new_front p + p.len ≤ p.capacity
  new_front_fits =
      let len : p.len ≤ p.capacity = ok.1 in
      let front : p.front ≤ p.capacity - 1 = ok.2 in
      grind (arith, nat_tests)

  -- items that lie in one part stay there
  pub front_stays : p.front ≤ p.capacity - p.len → new_front p ≡ p.front
  front_stays h = grind (arith, nat_tests)

module _ {T : Type 0} (p : Places) (xs : List T) (ok : Sound p) (enough : p.capacity ≤ length xs) where
  -- the list of a ring that goes round the end of its slots, and of one that does not
  contents_wrapped : p.capacity - p.front ≤ p.len → contents p xs ≡ take (p.capacity - p.front) (drop p.front xs) ++ take (p.len - (p.capacity - p.front)) xs
  unfolding contents
  contents_wrapped w =
      let m : high p ≡ p.capacity - p.front = omega arith in
      let n : low p ≡ p.len - (p.capacity - p.front) = omega arith in
      cc

  contents_straight : p.front + p.len ≤ p.capacity → contents p xs ≡ take p.len (drop p.front xs)
  unfolding contents
  contents_straight w =
      let m : high p ≡ p.len = omega arith in
      let n : low p ≡ 0 = omega arith in
      let a = append-nil (take p.len (drop p.front xs)) in
      cc

  -- its two parts, pasted at the new front
  pub gathered_is : (a : ℕ) → a ≡ new_front p → p.capacity - p.front ≤ p.len
      → paste xs a (take (p.capacity - p.front) (drop p.front xs) ++ take (p.len - (p.capacity - p.front)) xs) (p.capacity - p.front + (p.len - (p.capacity - p.front))) ≡ writes.make_contiguous p xs
  gathered_is a e w =
      let c = contents_wrapped w in
      let s : p.capacity - p.front + (p.len - (p.capacity - p.front)) ≡ p.len = omega arith in
      let l : length (contents p xs) ≤ p.len = omega (arith, length_contents p xs ok enough) in
      let all = take_all p.len (contents p xs) l in
      cc

  pub slots_stay : p.front ≤ p.capacity - p.len → writes.make_contiguous p xs ≡ xs
  slots_stay h =
      let e = front_stays p ok h in
      let c = contents_straight (omega arith) in
      let i = take-append-drop p.front xs in
      let j = take-append-drop p.len (drop p.front xs) in
      let d = drop-drop p.len p.front xs in
      let a = append_assoc (take p.front xs) (take p.len (drop p.front xs)) (drop (p.front + p.len) xs) in
      cc

module _ {T : Type 0} (p : Places) (xs : List T) (ok : Sound p) (enough : p.capacity ≤ length xs) where
  -- a list that fills the slots from f on
  contents_filled : (f : ℕ) (l : List T) → length l ≡ p.len → f + p.len ≤ p.capacity → 0 < p.len → contents (placed p f p.len) (take f xs ++ l ++ drop (f + p.len) xs) ≡ l
  contents_filled f l size fits some =
      let q : Places = placed p f p.len in
      let ys : List T = take f xs ++ l ++ drop (f + p.len) xs in
      let sound : Sound q = (omega arith, omega arith, omega arith) in
      let long : p.capacity ≤ length ys = simp (length-append, length-take, length-drop) (omega arith) in
      let s = contents_straight q ys sound long fits in
      let a = append_assoc (take f xs) l (drop (f + p.len) xs) in
      let d = drop_at (take f xs) (l ++ drop (f + p.len) xs) f (length-take-le f xs (omega arith)) in
      let t = take_at l (drop (f + p.len) xs) p.len size in
      cc

  -- the list is kept
  pub contents_gathered : 0 < p.len → contents (moves.make_contiguous p) (writes.make_contiguous p xs) ≡ contents p xs
  contents_gathered some = contents_filled (new_front p) (contents p xs) (length_contents p xs ok enough) (new_front_fits p ok) some
