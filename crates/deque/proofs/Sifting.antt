-- The loop that shows a ring's items in order and gathers those that got yes at its front.
use Rattle.std.proofs.Common.{◌≡◌, ℕ, ◌+◌, ◌<◌, ◌≤◌, true, false, List, [], ◌∷◌, ◌++◌, length, get_or, take, drop, set, sym, refl, ap, ◌∙◌, append_assoc, append-nil, arith, length-append, length-drop, length-take}
use lib.Seq.{set_at, get_or_at}
use Rattle.std.proofs.lemmas.List.{nil_from_length, take_more, drop_more, length_push, take_all, drop_all}
use Rattle.predicates.specs.Showing.{Shown, showings, after}
use Rattle.places.specs.declared.Places.{Places}
use Rattle.deque.specs.Sound.{Sound}
use Rattle.deque.specs.Ring.{slot, contents, lay}
use Rattle.deque.specs.Sifting.{first_to_end, kept, rest}
use Rattle.deque.proofs.Contents.{length_contents}
use Rattle.deque.proofs.Laid.{lay_contents, lay_at, lay_set, lay_exchange}
use Rattle.deque.proofs.Sifts.{length_showings, showings_push, after_push, kept_yes, kept_no, rest_yes, rest_no, length_sifted, exchange_first}

module _ {S T : Type 0} (p : Places) (rule : S → T → Shown S T) (slots₀ : List T) (s₀ : S) where
  -- the showings of the first `cur` items
  abbrev pub shown : ℕ → List (Shown S T)
  shown cur = showings rule s₀ (take cur (contents p slots₀))

  -- `cur` items were shown, of which `idx` got yes: these come first, then the rest, then the others
  pub record Sifting (slots : List T) (s : S) (idx cur : ℕ) : Type 0 where
    pub within : cur ≤ p.len
    pub number : idx ≡ length (kept (shown cur))
    pub list : slots ≡ lay p slots₀ (kept (shown cur) ++ (rest (shown cur) ++ drop cur (contents p slots₀)))
    pub state : s ≡ after rule s₀ (take cur (contents p slots₀))

  pub sifting_at : (slots slots' : List T) (s s' : S) (idx idx' cur cur' : ℕ) → slots' ≡ slots → s' ≡ s → idx' ≡ idx → cur' ≡ cur → Sifting slots s idx cur → Sifting slots' s' idx' cur'
  sifting_at slots slots' s s' idx idx' cur cur' p q r t h = rw (p, q, r, t) h

module _ {S T : Type 0} (p : Places) (rule : S → T → Shown S T) (slots₀ : List T) (s₀ : S) (ok : Sound p) (room : p.capacity ≤ length slots₀) where
  n : length (contents p slots₀) ≡ p.len
  n = length_contents p slots₀ ok room

  pub sifting_none : Sifting p rule slots₀ s₀ slots₀ s₀ 0 0
  sifting_none = record {
    within = omega arith;
    number = refl;
    list = sym (lay_contents p slots₀ ok room);
    state = refl;
  }

  size : (cur : ℕ) → cur ≤ p.len → length (kept (shown p rule slots₀ s₀ cur)) + length (rest (shown p rule slots₀ s₀ cur)) ≡ cur
  size cur h =
      length_sifted (shown p rule slots₀ s₀ cur)
      ∙ length_showings rule s₀ (take cur (contents p slots₀))
      ∙ length-take cur (contents p slots₀)
      ∙ omega (arith, n)

  -- Item `cur` is shown, and stored as left.
  module _ (slots : List T) (s : S) (idx cur : ℕ) (h : Sifting p rule slots₀ s₀ slots s idx cur) (l : cur < p.len) (at : ℕ) (found : at ≡ slot p cur) (x₀ : T) where
    abbrev xs : List T
    xs = contents p slots₀

    abbrev ws : List (Shown S T)
    ws = shown p rule slots₀ s₀ cur

    -- the list, with y at `cur`
    abbrev with : T → List T
    with y = kept ws ++ (rest ws ++ y ∷ drop (cur + 1) xs)

    -- the showing
    abbrev w : Shown S T
    w = rule s (get_or slots at x₀)

    in_xs : cur < length xs
    in_xs = omega (arith, n)

    length_with : (y : T) → length (with y) ≡ p.len
    length_with y = simp (length-append, length-drop) (omega (arith, n, size cur h.within))

    shape : slots ≡ lay p slots₀ (with (get_or xs cur x₀))
    shape = h.list ∙ ap (λ r. lay p slots₀ (kept ws ++ (rest ws ++ r))) (drop_more xs cur x₀ in_xs)

    read : get_or slots at x₀ ≡ get_or xs cur x₀
    read =
        let y = get_or xs cur x₀ in
        ap (λ r. get_or r at x₀) shape
        ∙ ap (λ k. get_or (lay p slots₀ (with y)) k x₀) found
        ∙ lay_at p slots₀ (with y) ok room (length_with y) cur x₀ l
        ∙ ap (λ r. get_or r cur x₀) (sym (append_assoc (kept ws) (rest ws) (y ∷ drop (cur + 1) xs)))
        ∙ get_or_at (kept ws ++ rest ws) y (drop (cur + 1) xs) x₀ cur (length-append (kept ws) (rest ws) ∙ size cur h.within)

    write : (y : T) → set slots at y ≡ lay p slots₀ (with y)
    write y =
        let x = get_or xs cur x₀ in
        ap (λ r. set r at y) shape
        ∙ ap (λ k. set (lay p slots₀ (with x)) k y) found
        ∙ lay_set p slots₀ ok room (with x) cur y (length_with x) l
        ∙ ap (λ r. lay p slots₀ (set r cur y)) (sym (append_assoc (kept ws) (rest ws) (x ∷ drop (cur + 1) xs)))
        ∙ ap (lay p slots₀) (set_at (kept ws ++ rest ws) x (drop (cur + 1) xs) y cur (length-append (kept ws) (rest ws) ∙ size cur h.within))
        ∙ ap (lay p slots₀) (append_assoc (kept ws) (rest ws) (y ∷ drop (cur + 1) xs))

    same : rule (after rule s₀ (take cur xs)) (get_or xs cur x₀) ≡ w
    same = ap (λ t. rule t (get_or xs cur x₀)) (sym h.state) ∙ ap (rule s) (sym read)

    next : shown p rule slots₀ s₀ (cur + 1) ≡ ws ++ w ∷ []
    next =
        ap (showings rule s₀) (take_more xs cur x₀ in_xs)
        ∙ showings_push rule s₀ (take cur xs) (get_or xs cur x₀)
        ∙ ap (λ v. ws ++ v ∷ []) same

    next_state : w.state ≡ after rule s₀ (take (cur + 1) xs)
    next_state =
        sym (ap (after rule s₀) (take_more xs cur x₀ in_xs) ∙ after_push rule s₀ (take cur xs) (get_or xs cur x₀) ∙ ap (λ v. v.state) same)

    module _ (y : T) (t : S) (left : y ≡ w.item) (moved : t ≡ w.state) where
      pub sifting_no : w.answer ≡ false → Sifting p rule slots₀ s₀ (set slots at y) t idx (cur + 1)
      sifting_no no_answer = record {
        within = omega arith;
        number = h.number ∙ sym (ap length (ap kept next ∙ kept_no ws w no_answer));
        list =
            write y
            ∙ ap (lay p slots₀) (sym (
            ap (λ p. kept p ++ (rest p ++ drop (cur + 1) xs)) next
            ∙ ap (λ k. k ++ (rest (ws ++ w ∷ []) ++ drop (cur + 1) xs)) (kept_no ws w no_answer)
            ∙ ap (λ r. kept ws ++ (r ++ drop (cur + 1) xs)) (rest_no ws w no_answer ∙ ap (λ z. rest ws ++ z ∷ []) (sym left))
            ∙ ap (λ r. kept ws ++ r) (append_assoc (rest ws) (y ∷ []) (drop (cur + 1) xs))));
        state = moved ∙ next_state;
      }

      -- the list after a yes
      yes_list : w.answer ≡ true → (kept ws ++ y ∷ []) ++ (first_to_end (rest ws) ++ drop (cur + 1) xs) ≡ kept (shown p rule slots₀ s₀ (cur + 1)) ++ (rest (shown p rule slots₀ s₀ (cur + 1)) ++ drop (cur + 1) xs)
      yes_list yes_answer = sym (
          ap (λ p. kept p ++ (rest p ++ drop (cur + 1) xs)) next
          ∙ ap (λ k. k ++ (rest (ws ++ w ∷ []) ++ drop (cur + 1) xs)) (kept_yes ws w yes_answer ∙ ap (λ z. kept ws ++ z ∷ []) (sym left))
          ∙ ap (λ r. (kept ws ++ y ∷ []) ++ (r ++ drop (cur + 1) xs)) (rest_yes ws w yes_answer))

      yes_number : w.answer ≡ true → idx + 1 ≡ length (kept (shown p rule slots₀ s₀ (cur + 1)))
      yes_number yes_answer = sym (ap length (ap kept next ∙ kept_yes ws w yes_answer) ∙ length_push (kept ws) w.item ∙ ap (λ k. k + 1) (sym h.number))

      -- as long as every answer was yes, nothing changes places
      pub sifting_first : w.answer ≡ true → cur ≤ idx → Sifting p rule slots₀ s₀ (set slots at y) t (idx + 1) (cur + 1)
      sifting_first yes_answer all =
          let none : rest ws ≡ [] = nil_from_length (rest ws) (omega (arith, size cur h.within, h.number)) in
          record {
            within = omega arith;
            number = yes_number yes_answer;
            list =
                write y
                ∙ ap (lay p slots₀) (
                ap (λ r. kept ws ++ (r ++ y ∷ drop (cur + 1) xs)) none
                ∙ sym (append_assoc (kept ws) (y ∷ []) (drop (cur + 1) xs))
                ∙ ap (λ r. (kept ws ++ y ∷ []) ++ (first_to_end r ++ drop (cur + 1) xs)) (sym none)
                ∙ yes_list yes_answer);
            state = moved ∙ next_state;
          }

      -- a yes changes places with the first that got no
      pub sifting_swap : w.answer ≡ true → (a : ℕ) → a ≡ slot p idx → (slots' : List T) → let st = set slots at y in
          slots' ≡ set (set st a (get_or st at x₀)) at (get_or st a x₀) → Sifting p rule slots₀ s₀ slots' t (idx + 1) (cur + 1)
      sifting_swap yes_answer a first slots' swapped =
          let st : List T = set slots at y in
          let sized = size cur h.within in
          let e : a ≡ slot p (length (kept ws)) = first ∙ ap (slot p) h.number in
          let b : at ≡ slot p (length (kept ws) + length (rest ws)) = found ∙ ap (slot p) (sym sized) in
          record {
            within = omega arith;
            number = yes_number yes_answer;
            list =
                swapped
                ∙ ap (λ r. set (set r a (get_or r at x₀)) at (get_or r a x₀)) (write y)
                ∙ ap (λ k. set (set (lay p slots₀ (with y)) k (get_or (lay p slots₀ (with y)) at x₀)) at (get_or (lay p slots₀ (with y)) k x₀)) e
                ∙ ap (λ k. set (set (lay p slots₀ (with y)) (slot p (length (kept ws))) (get_or (lay p slots₀ (with y)) k x₀)) k (get_or (lay p slots₀ (with y)) (slot p (length (kept ws))) x₀)) b
                ∙ lay_exchange p slots₀ ok room (with y) (length (kept ws)) (length (kept ws) + length (rest ws)) x₀ (length_with y) (omega arith) (omega arith)
                ∙ ap (lay p slots₀) (exchange_first (kept ws) (rest ws) y (drop (cur + 1) xs) x₀ ∙ yes_list yes_answer);
            state = moved ∙ next_state;
          }

  -- every item was shown
  module _ (slots : List T) (s : S) (idx cur : ℕ) (h : Sifting p rule slots₀ s₀ slots s idx cur) (all : p.len ≤ cur) where
    whole : take cur (contents p slots₀) ≡ contents p slots₀
    whole = take_all cur (contents p slots₀) (omega (arith, n))

    pub sifted_number : idx ≡ length (kept (showings rule s₀ (contents p slots₀)))
    sifted_number = h.number ∙ ap (λ r. length (kept (showings rule s₀ r))) whole

    pub sifted_list : slots ≡ lay p slots₀ (kept (showings rule s₀ (contents p slots₀)) ++ rest (showings rule s₀ (contents p slots₀)))
    sifted_list =
        h.list
        ∙ ap (λ r. lay p slots₀ (kept (shown p rule slots₀ s₀ cur) ++ (rest (shown p rule slots₀ s₀ cur) ++ r))) (drop_all cur (contents p slots₀) (omega (arith, n)))
        ∙ ap (λ r. lay p slots₀ (kept (showings rule s₀ r) ++ (rest (showings rule s₀ r) ++ []))) whole
        ∙ ap (λ r. lay p slots₀ (kept (showings rule s₀ (contents p slots₀)) ++ r)) (append-nil (rest (showings rule s₀ (contents p slots₀))))

    pub sifted_state : s ≡ after rule s₀ (contents p slots₀)
    sifted_state = h.state ∙ ap (after rule s₀) whole
