-- A list laid into a ring's slots.
use Rattle.std.proofs.Common.{◌≡◌, ℕ, ◌+◌, ◌-◌, ◌<◌, ◌≤◌, ◌⊎◌, List, ◌++◌, length, get_or, take, drop, set, sym, refl, ap, ◌∙◌, inl, inr, arith, length-append, length-drop, length-set, length-take}
use Rattle.std.proofs.lemmas.List.Edits.{length-between, get_or-between}
use Rattle.std.proofs.lemmas.List.{same_lists, get_or_append_left, get_or-append_right, get_or-take, get_or-drop, get_or-set_same, get_or-set_other}
use Rattle.std.proofs.lemmas.Bool.{cases_lt, cases_eq}
use Rattle.std.specs.List.{between}
use Rattle.places.specs.declared.Places.{Places}
use Rattle.deque.specs.Sound.{Sound}
use Rattle.deque.specs.Ring.{slot, high, low, contents, lay}
use Rattle.lists.proofs.Modulo.{mod_low, mod_high}
use Rattle.deque.proofs.Contents.{slot_below, slot_apart, length_contents, contents_at, contents_is}

-- a slot that holds no item
abbrev pub Vacant : Places → ℕ → Type 0
Vacant p k = (i : ℕ) → i < p.len → slot p i ≡ k → ⊥

module _ (p : Places) (ok : Sound p) where
  -- where a slot lies that holds no item
  abbrev Outside : ℕ → Type 0
  Outside k = ((low p ≤ k) × (k < p.front)) ⊎ (p.front + high p ≤ k)

  pub held_or_vacant : (k : ℕ) → ((i : ℕ) × (i < p.len) × (slot p i ≡ k)) ⊎ Outside k
  held_or_vacant k =
      elim (cases_lt k (low p)) [
        | inl a ↦ inl (high p + k, omega arith, mod_high p.front (high p + k) p.capacity (omega arith) (omega arith) (omega arith) ∙ omega arith)
        | inr a ↦ elim (cases_lt k p.front) [
          | inl b ↦ inr (inl (a, b))
          | inr b ↦ elim (cases_lt k (p.front + high p)) [
            | inl c ↦ inl (k - p.front, omega arith, mod_low p.front (k - p.front) p.capacity (omega arith) ∙ omega arith)
            | inr c ↦ inr (inr c)
          ]
        ]
      ]

  pub vacant_there : (k : ℕ) → Outside k → Vacant p k
  vacant_there k o i h e =
      elim (cases_lt (p.front + i) p.capacity) [
        | inl a ↦ let w = mod_low p.front i p.capacity a in elim o [ inl g ↦ omega (arith, w, g.0, g.1) | inr g ↦ omega (arith, w) ]
        | inr a ↦ let w = mod_high p.front i p.capacity a (omega arith) (omega arith) in elim o [ inl g ↦ omega (arith, w, g.0, g.1) | inr g ↦ omega (arith, w) ]
      ]

module _ {T : Type 0} (p : Places) (xs l : List T) (ok : Sound p) (enough : p.capacity ≤ length xs) (size : length l ≡ p.len) where
  sizes : (length (drop (high p) l) ≡ low p) × (length (between (low p) p.front xs) ≡ p.front - low p) × (length (take (high p) l) ≡ high p) × (length (drop (p.front + high p) xs) ≡ length xs - (p.front + high p))
  sizes = (simp length-drop (omega arith), length-between xs (low p) p.front (omega arith), simp length-take (omega arith), length-drop (p.front + high p) xs)

  pub length_lay : length (lay p xs l) ≡ length xs
  unfolding lay
  length_lay = let s = sizes in simp length-append (omega arith)

  -- what each slot holds, in the order of the slots
  pub lay_below : (k : ℕ) (d : T) → k < low p → get_or (lay p xs l) k d ≡ get_or l (high p + k) d
  unfolding lay
  lay_below k d h =
      let s = sizes in
      get_or_append_left (drop (high p) l) (between (low p) p.front xs ++ (take (high p) l ++ drop (p.front + high p) xs)) d k (omega arith)
      ∙ get_or-drop (high p) l k d

  pub lay_gap : (k : ℕ) (d : T) → low p ≤ k → k < p.front → get_or (lay p xs l) k d ≡ get_or xs k d
  unfolding lay
  lay_gap k d h m =
      let s = sizes in
      let e : low p + (k - low p) ≡ k = omega arith in
      get_or-append_right (drop (high p) l) (between (low p) p.front xs ++ (take (high p) l ++ drop (p.front + high p) xs)) (low p) k d s.0 h
      ∙ get_or_append_left (between (low p) p.front xs) (take (high p) l ++ drop (p.front + high p) xs) d (k - low p) (omega arith)
      ∙ get_or-between xs (low p) p.front (k - low p) d (omega arith)
      ∙ ap (λ j. get_or xs j d) e

  beyond : (k : ℕ) (d : T) → p.front ≤ k → get_or (lay p xs l) k d ≡ get_or (take (high p) l ++ drop (p.front + high p) xs) (k - p.front) d
  unfolding lay
  beyond k d h =
      let s = sizes in
      let e : k - low p - (p.front - low p) ≡ k - p.front = omega arith in
      get_or-append_right (drop (high p) l) (between (low p) p.front xs ++ (take (high p) l ++ drop (p.front + high p) xs)) (low p) k d s.0 (omega arith)
      ∙ get_or-append_right (between (low p) p.front xs) (take (high p) l ++ drop (p.front + high p) xs) (p.front - low p) (k - low p) d s.1 (omega arith)
      ∙ ap (λ j. get_or (take (high p) l ++ drop (p.front + high p) xs) j d) e

  pub lay_above : (k : ℕ) (d : T) → p.front ≤ k → k < p.front + high p → get_or (lay p xs l) k d ≡ get_or l (k - p.front) d
  lay_above k d h m =
      let s = sizes in
      beyond k d h
      ∙ get_or_append_left (take (high p) l) (drop (p.front + high p) xs) d (k - p.front) (omega arith)
      ∙ get_or-take (high p) l (k - p.front) d (omega arith)

  pub lay_rest : (k : ℕ) (d : T) → p.front + high p ≤ k → get_or (lay p xs l) k d ≡ get_or xs k d
  lay_rest k d h =
      let s = sizes in
      let e : p.front + high p + (k - p.front - high p) ≡ k = omega arith in
      beyond k d (omega arith)
      ∙ get_or-append_right (take (high p) l) (drop (p.front + high p) xs) (high p) (k - p.front) d s.2 (omega arith)
      ∙ get_or-drop (p.front + high p) xs (k - p.front - high p) d
      ∙ ap (λ j. get_or xs j d) e

  -- item i of the list lies in the slot of item i
  pub lay_at : (i : ℕ) (d : T) → i < p.len → get_or (lay p xs l) (slot p i) d ≡ get_or l i d
  lay_at i d h =
      elim (cases_lt (p.front + i) p.capacity) [
        | inl a ↦
            let w : slot p i ≡ p.front + i = mod_low p.front i p.capacity a in
            let e : p.front + i - p.front ≡ i = omega arith in
            ap (λ k. get_or (lay p xs l) k d) w ∙ lay_above (p.front + i) d (omega arith) (omega arith) ∙ ap (λ k. get_or l k d) e
        | inr a ↦
            let w : slot p i ≡ p.front + i - p.capacity = mod_high p.front i p.capacity a (omega arith) (omega arith) in
            let e : high p + (p.front + i - p.capacity) ≡ i = omega arith in
            ap (λ k. get_or (lay p xs l) k d) w ∙ lay_below (p.front + i - p.capacity) d (omega arith) ∙ ap (λ k. get_or l k d) e
      ]

  -- the list of the ring is then the list that was laid
  pub contents_lay : contents p (lay p xs l) ≡ l
  contents_lay = contents_is p (lay p xs l) ok (omega (arith, length_lay)) l size lay_at

  -- a slot that holds no item keeps what it held
  pub lay_vacant : (k : ℕ) (d : T) → Vacant p k → get_or (lay p xs l) k d ≡ get_or xs k d
  lay_vacant k d v =
      elim (held_or_vacant p ok k) [
        | inl h ↦ absurd (v h.0 h.1 h.2)
        | inr o ↦ elim o [ inl g ↦ lay_gap k d g.0 g.1 | inr g ↦ lay_rest k d g ]
      ]

  -- and so the slots after are known, slot by slot
  pub lay_is : (ys : List T) → length ys ≡ length xs → ((i : ℕ) (d : T) → i < p.len → get_or ys (slot p i) d ≡ get_or l i d) → ((k : ℕ) (d : T) → Vacant p k → get_or ys k d ≡ get_or xs k d) → ys ≡ lay p xs l
  lay_is ys same each others =
      same_lists ys (lay p xs l) (same ∙ sym length_lay)
      (λ k d _. elim (held_or_vacant p ok k) [
        | inl h ↦ ap (λ j. get_or ys j d) (sym h.2) ∙ each h.0 d h.1 ∙ sym (lay_at h.0 d h.1) ∙ ap (λ j. get_or (lay p xs l) j d) h.2
        | inr o ↦ let v = vacant_there p ok k o in others k d v ∙ sym (lay_vacant k d v)
      ])

module _ {T : Type 0} (p : Places) (xs : List T) (ok : Sound p) (enough : p.capacity ≤ length xs) where
  -- a ring's own list, laid into its slots, changes nothing
  pub lay_contents : lay p xs (contents p xs) ≡ xs
  lay_contents =
      sym (lay_is p xs (contents p xs) ok enough (length_contents p xs ok enough) xs refl (λ i d h. sym (contents_at p xs ok enough i d h)) (λ k d v. refl))

  -- a write to the slot of item i
  pub lay_set : (l : List T) (i : ℕ) (x : T) → length l ≡ p.len → i < p.len → set (lay p xs l) (slot p i) x ≡ lay p xs (set l i x)
  lay_set l i x size h =
      let long = length_lay p xs l ok enough size in
      let b : slot p i < length (lay p xs l) = omega (arith, slot_below p ok i (omega arith)) in
      lay_is p xs (set l i x) ok enough (length-set l i x ∙ size) (set (lay p xs l) (slot p i) x) (length-set (lay p xs l) (slot p i) x ∙ long)
      (λ k d m. elim (cases_eq k i) [
        | inl e ↦
            ap (λ j. get_or (set (lay p xs l) (slot p i) x) (slot p j) d) e ∙ get_or-set_same (lay p xs l) (slot p i) x d b
            ∙ sym (ap (λ j. get_or (set l i x) j d) e ∙ get_or-set_same l i x d (omega arith))
        | inr ne ↦
            get_or-set_other (lay p xs l) (slot p i) (slot p k) x d (slot_apart p ok k i (omega arith) (omega arith) ne)
            ∙ lay_at p xs l ok enough size k d m ∙ sym (get_or-set_other l i k x d ne)
      ])
      (λ k d v. get_or-set_other (lay p xs l) (slot p i) k x d (λ e. v i h (sym e)) ∙ lay_vacant p xs l ok enough size k d v)

  -- two items change places
  pub lay_exchange : (l : List T) (i j : ℕ) (d : T) → length l ≡ p.len → i < p.len → j < p.len →
      let ys = lay p xs l in set (set ys (slot p i) (get_or ys (slot p j) d)) (slot p j) (get_or ys (slot p i) d) ≡ lay p xs (set (set l i (get_or l j d)) j (get_or l i d))
  lay_exchange l i j d size hi hj =
      let ys : List T = lay p xs l in
      let once : List T = set l i (get_or l j d) in
      ap (λ y. set (set ys (slot p i) y) (slot p j) (get_or ys (slot p i) d)) (lay_at p xs l ok enough size j d hj)
      ∙ ap (λ y. set (set ys (slot p i) (get_or l j d)) (slot p j) y) (lay_at p xs l ok enough size i d hi)
      ∙ ap (λ r. set r (slot p j) (get_or l i d)) (lay_set l i (get_or l j d) size hi)
      ∙ lay_set once j (get_or l i d) (length-set l i (get_or l j d) ∙ size) hj
