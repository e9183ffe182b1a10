-- The list of a ring, by the slots of its items.
use Rattle.std.proofs.Common.{◌≡◌, ℕ, zero, suc, ◌+◌, ◌-◌, ◌%◌, ◌<◌, ◌≤◌, ◌≢◌, List, [], ◌∷◌, ◌++◌, length, get_or, take, drop, set, Some, None, sym, ap, ◌∙◌, inl, inr, mod-lt, arith, length-append, length-drop, length-set, length-take}
use native.Mathlib.Nat.{mod-add-mod, add-mod_right}
use Rattle.std.proofs.lemmas.List.{same_lists, get_or_append_left, get_or-append_right, get_or-take, get_or-drop, get_or-set_same, get_or-set_other, get_or_push, length_push, drop_all, take_all}
use Rattle.std.proofs.lemmas.Option.{slice_get_read, slice_get-get_or, slice_get_past}
use Rattle.std.proofs.lemmas.Bool.{cases_lt, cases_eq}
use Rattle.std.specs.List.{slice_get}
use Rattle.places.specs.declared.Places.{Places}
use Rattle.deque.specs.Sound.{Sound}
use Rattle.deque.specs.Ring.{slot, before, high, low, contents}
use Rattle.deque.specs.Moves.{placed}
use Rattle.lists.proofs.Modulo.{mod_low, mod_high}

module _ (p : Places) (ok : Sound p) where
  pub slot_below : (i : ℕ) → i < p.capacity → slot p i < p.capacity
  slot_below i h = let k : zero < p.capacity = omega arith in mod-lt (p.front + i) k

  -- two indices below the capacity have two slots
  pub slot_apart : (i j : ℕ) → i < p.capacity → j < p.capacity → i ≢ j → slot p i ≢ slot p j
  slot_apart i j hi hj ne e =
      let f = p.front in
      let n = p.capacity in
      elim (cases_lt (f + i) n) [
        | inl a ↦ elim (cases_lt (f + j) n) [
          | inl b ↦ omega (arith, mod_low f i n a, mod_low f j n b)
          | inr b ↦ omega (arith, mod_low f i n a, mod_high f j n b (omega arith) (omega arith))
        ]
        | inr a ↦ elim (cases_lt (f + j) n) [
          | inl b ↦ omega (arith, mod_high f i n a (omega arith) (omega arith), mod_low f j n b)
          | inr b ↦ omega (arith, mod_high f i n a (omega arith) (omega arith), mod_high f j n b (omega arith) (omega arith))
        ]
      ]

  pub before_below : 0 < p.capacity → before p < p.capacity
  before_below h = mod-lt (p.front + p.capacity - 1) h

  pub before_slot : 0 < p.capacity → before p ≡ slot p (p.capacity - 1)
  before_slot h = let e : p.front + p.capacity - 1 ≡ p.front + (p.capacity - 1) = omega arith in ap (λ k. k % p.capacity) e

  -- the slot of item i + 1, seen from the slot before the front, is that of item i
  pub slot_before : (i : ℕ) → i < p.capacity → (before p + (i + 1)) % p.capacity ≡ slot p i
  slot_before i h =
      let e : p.front + p.capacity - 1 + (i + 1) ≡ p.front + i + p.capacity = omega arith in
      mod-add-mod (p.front + p.capacity - 1) p.capacity (i + 1) ∙ ap (λ k. k % p.capacity) e ∙ add-mod_right (p.front + i) p.capacity

  -- the slot of item i, seen from the slot after the front, is that of item i + 1
  pub slot_after : (i : ℕ) → (slot p 1 + i) % p.capacity ≡ slot p (i + 1)
  slot_after i =
      let e : p.front + 1 + i ≡ p.front + (i + 1) = omega arith in
      mod-add-mod (p.front + 1) p.capacity i ∙ ap (λ k. k % p.capacity) e

module _ {T : Type 0} (p : Places) (xs : List T) (ok : Sound p) (enough : p.capacity ≤ length xs) where
  pub length_contents : length (contents p xs) ≡ p.len
  unfolding contents
  length_contents = simp (length-append, length-take, length-drop) (omega arith)

  -- item i lies in slot (front + i) mod capacity
  pub contents_at : (i : ℕ) (d : T) → i < p.len → get_or (contents p xs) i d ≡ get_or xs (slot p i) d
  unfolding contents
  contents_at i d h =
      let f = p.front in
      let n = p.capacity in
      let first : List T = take (high p) (drop f xs) in
      let second : List T = take (low p) xs in
      let size : length first ≡ high p = simp (length-take, length-drop) (omega arith) in
      elim (cases_lt (f + i) n) [
        | inl a ↦
            let b : i < length first = omega arith in
            let e : i < high p = omega arith in
            get_or_append_left first second d i b ∙ get_or-take (high p) (drop f xs) i d e ∙ get_or-drop f xs i d ∙ ap (λ k. get_or xs k d) (sym (mod_low f i n a))
        | inr a ↦
            let b : high p ≤ i = omega arith in
            let e : i - high p < low p = omega arith in
            let w : i - high p ≡ slot p i = omega (arith, mod_high f i n a (omega arith) (omega arith)) in
            get_or-append_right first second (high p) i d size b ∙ get_or-take (low p) xs (i - high p) d e ∙ ap (λ k. get_or xs k d) w
      ]

  -- a list with those items is the ring's
  pub contents_is : (l : List T) → length l ≡ p.len → ((i : ℕ) (d : T) → i < p.len → get_or xs (slot p i) d ≡ get_or l i d) → contents p xs ≡ l
  contents_is l size each =
      same_lists (contents p xs) l (length_contents ∙ sym size)
      (λ i d h. let k : i < p.len = omega (arith, length_contents) in contents_at i d k ∙ each i d k)

module _ {T : Type 0} (p : Places) (xs : List T) (ok : Sound p) (enough : p.capacity ≤ length xs) where
  -- a write to the slot of an index leaves the item at any other
  pub kept_at : (i k : ℕ) (x d : T) → i < p.capacity → k < p.len → k ≢ i → get_or (set xs (slot p i) x) (slot p k) d ≡ get_or (contents p xs) k d
  kept_at i k x d hi hk ne =
      let apart : slot p k ≢ slot p i = slot_apart p ok k i (omega arith) hi ne in
      get_or-set_other xs (slot p i) (slot p k) x d apart ∙ sym (contents_at p xs ok enough k d hk)

  -- and it is found there
  pub written_at : (i k : ℕ) (x d : T) → i < p.capacity → k ≡ i → get_or (set xs (slot p i) x) (slot p k) d ≡ x
  written_at i k x d hi e =
      let b : slot p i < length xs = omega (arith, slot_below p ok i hi) in
      ap (λ j. get_or (set xs (slot p i) x) (slot p j) d) e ∙ get_or-set_same xs (slot p i) x d b

  -- a write to the slot of item i
  pub contents_set : (i : ℕ) (x : T) → i < p.len → contents p (set xs (slot p i) x) ≡ set (contents p xs) i x
  contents_set i x h =
      let size = length_contents p xs ok enough in
      contents_is p (set xs (slot p i) x) ok (simp length-set (omega arith)) (set (contents p xs) i x) (simp length-set size)
      (λ k d l. elim (cases_eq k i) [
        | inl e ↦
            let b : k < length (contents p xs) = omega arith in
            written_at i k x d (omega arith) e ∙ sym (ap (λ j. get_or (set (contents p xs) j x) k d) (sym e) ∙ get_or-set_same (contents p xs) k x d b)
        | inr ne ↦ kept_at i k x d (omega arith) l ne ∙ sym (get_or-set_other (contents p xs) i k x d ne)
      ])

  -- a item more at the back
  pub contents_push_back : (x : T) → p.len < p.capacity → contents (placed p p.front (p.len + 1)) (set xs (slot p p.len) x) ≡ contents p xs ++ x ∷ []
  contents_push_back x h =
      let q : Places = placed p p.front (p.len + 1) in
      let sound : Sound q = (omega arith, omega arith, omega arith) in
      let size = length_contents p xs ok enough in
      contents_is q (set xs (slot p p.len) x) sound (simp length-set (omega arith)) (contents p xs ++ x ∷ [])
      (length_push (contents p xs) x ∙ ap (λ k. k + 1) size)
      (λ k d l. elim (cases_eq k p.len) [
        | inl e ↦ written_at p.len k x d h e ∙ sym (get_or_push (contents p xs) x d k (size ∙ sym e))
        | inr ne ↦
            let m : k < p.len = omega arith in
            let b : k < length (contents p xs) = omega arith in
            kept_at p.len k x d h m ne ∙ sym (get_or_append_left (contents p xs) (x ∷ []) d k b)
      ])

  -- the slots after a front push, seen from the new front
  front_at : (x : T) → p.len < p.capacity → (k : ℕ) (d : T) → k < p.len + 1 → get_or (set xs (before p) x) ((before p + k) % p.capacity) d ≡ get_or (x ∷ contents p xs) k d
  front_at x h zero d l =
      let low : before p < length xs = omega (arith, before_below p ok (omega arith)) in
      let here : (before p + 0) % p.capacity ≡ before p = mod_low (before p) 0 p.capacity (omega (arith, before_below p ok (omega arith))) ∙ omega arith in
      ap (λ j. get_or (set xs (before p) x) j d) here ∙ get_or-set_same xs (before p) x d low
  front_at x h (suc k) d l =
      let e : before p + suc k ≡ before p + (k + 1) = omega arith in
      let there : (before p + suc k) % p.capacity ≡ slot p k = ap (λ j. j % p.capacity) e ∙ slot_before p ok k (omega arith) in
      ap (λ j. get_or (set xs (before p) x) j d) there ∙ ap (λ j. get_or (set xs j x) (slot p k) d) (before_slot p ok (omega arith))
      ∙ kept_at (p.capacity - 1) k x d (omega arith) (omega arith) (omega arith)

  -- a item more at the front
  pub contents_push_front : (x : T) → p.len < p.capacity → contents (placed p (before p) (p.len + 1)) (set xs (before p) x) ≡ x ∷ contents p xs
  contents_push_front x h =
      let q : Places = placed p (before p) (p.len + 1) in
      let below = before_below p ok (omega arith) in
      let sound : Sound q = (omega arith, omega arith, omega arith) in
      let size = length_contents p xs ok enough in
      contents_is q (set xs (before p) x) sound (simp length-set (omega arith)) (x ∷ contents p xs) (omega (arith, size)) (front_at x h)

  -- a item fewer at the front
  pub contents_pop_front : 0 < p.len → contents (placed p (slot p 1) (p.len - 1)) xs ≡ drop 1 (contents p xs)
  contents_pop_front h =
      let q : Places = placed p (slot p 1) (p.len - 1) in
      let some : zero < p.capacity = omega arith in
      let below : slot p 1 < p.capacity = mod-lt (p.front + 1) some in
      let sound : Sound q = (omega arith, omega arith, omega arith) in
      let size = length_contents p xs ok enough in
      contents_is q xs sound enough (drop 1 (contents p xs)) (length-drop 1 (contents p xs) ∙ ap (λ k. k - 1) size)
      (λ k d l.
      let e : k + 1 ≡ 1 + k = omega arith in
      ap (λ j. get_or xs j d) (slot_after p ok k) ∙ sym (contents_at p xs ok enough (k + 1) d (omega arith))
      ∙ ap (λ j. get_or (contents p xs) j d) e ∙ sym (get_or-drop 1 (contents p xs) k d))

  -- fewer items at the back
  pub contents_truncate : (n : ℕ) → n ≤ p.len → contents (placed p p.front n) xs ≡ take n (contents p xs)
  contents_truncate n h =
      let q : Places = placed p p.front n in
      let sound : Sound q = (omega arith, omega arith, omega arith) in
      let size = length_contents p xs ok enough in
      contents_is q xs sound enough (take n (contents p xs)) (simp length-take (omega arith))
      (λ k d l. sym (contents_at p xs ok enough k d (omega arith)) ∙ sym (get_or-take n (contents p xs) k d l))

  -- an empty ring's list
  pub contents_none : p.len ≡ 0 → contents p xs ≡ []
  contents_none e = contents_is p xs ok enough [] (sym e) (λ i d h. absurd (omega arith))

  -- what is read from the slot of item i
  pub nth_contents : (i : ℕ) (x : T) → i < p.len → x ≡ get_or xs (slot p i) x → slice_get (contents p xs) i ≡ Some x
  nth_contents i x h e =
      let size = length_contents p xs ok enough in
      slice_get_read (contents p xs) p.len i x (sym size) h (e ∙ sym (contents_at p xs ok enough i x h))

  -- item i, whatever would be read past the end
  pub nth_contents_at : (i k : ℕ) (d : T) → i < p.len → k ≡ slot p i → slice_get (contents p xs) i ≡ Some (get_or xs k d)
  nth_contents_at i k d h e =
      let b : i < length (contents p xs) = omega (arith, length_contents p xs ok enough) in
      slice_get-get_or (contents p xs) i d b ∙ ap (λ x. Some x) (contents_at p xs ok enough i d h ∙ ap (λ j. get_or xs j d) (sym e))

  pub nth_contents_past : (i : ℕ) → p.len ≤ i → slice_get (contents p xs) i ≡ None
  nth_contents_past i h = slice_get_past (contents p xs) i (omega (arith, length_contents p xs ok enough))

  pub nth_contents_front : (x : T) → 0 < p.len → x ≡ get_or xs p.front x → slice_get (contents p xs) 0 ≡ Some x
  nth_contents_front x h e =
      let here : p.front ≡ slot p 0 = omega (arith, mod_low p.front 0 p.capacity (omega arith)) in
      nth_contents 0 x h (e ∙ ap (λ k. get_or xs k x) here)

  pub nth_contents_back : (x : T) → 0 < p.len → x ≡ get_or xs (slot p (p.len - 1)) x → slice_get (contents p xs) (length (contents p xs) - 1) ≡ Some x
  nth_contents_back x h e = rw (length_contents p xs ok enough) (nth_contents (p.len - 1) x (omega arith) e)

  -- a item fewer at the back
  pub contents_pop_back : contents (placed p p.front (p.len - 1)) xs ≡ take (length (contents p xs) - 1) (contents p xs)
  contents_pop_back = contents_truncate (p.len - 1) (omega arith) ∙ ap (λ k. take (k - 1) (contents p xs)) (sym (length_contents p xs ok enough))

  pub drop_contents_all : (i : ℕ) → p.len ≤ i → drop i (contents p xs) ≡ []
  drop_contents_all i h = drop_all i (contents p xs) (omega (arith, length_contents p xs ok enough))

  pub take_contents_all : (i : ℕ) → p.len ≤ i → take i (contents p xs) ≡ contents p xs
  take_contents_all i h = take_all i (contents p xs) (omega (arith, length_contents p xs ok enough))
