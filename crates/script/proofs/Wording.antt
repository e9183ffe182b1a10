-- The words of a line, by its runs of blank bytes and of others, and by the parts between its blank bytes.
use Rattle.std.proofs.Common.{◌≡◌, ℕ, ◌<◌, Bool, true, false, not, ◌==◌, List, [], ◌∷◌, ◌++◌, length, filter, take, drop, Some, None, sym, refl, ap, ◌∙◌, inl, inr, append_assoc, append-nil, one-add, arith}
use Rattle.std.proofs.lemmas.Bool.{cases_Bool}
use Rattle.std.proofs.lemmas.Bool.Decides.{nat_tests}
use Rattle.std.proofs.lemmas.List.{drop_all}
use Rattle.std.proofs.lemmas.List.Sums.{prefix_len-le-length, prefix_len-drop_yes}
use Rattle.std.proofs.lemmas.List.Folds.{length-prefix_len}
use Rattle.std.proofs.lemmas.List.Quantifiers.{position-Some}
use Rattle.std.specs.List.{prefix_len, position, position_or_len, slice_split, onto_first}
use Rattle.std.specs.Option.{unwrap_or}
use Rattle.script.specs.Text.{blank, before, words, words_after}

abbrev pub dark : ℕ → Bool
dark c = not (blank c)

-- blank bytes before a word are none of it
pub words_skip : (cs : List ℕ) → words_after [] (drop (prefix_len blank cs) cs) ≡ words_after [] cs
unfolding words_after
words_skip [] = refl
words_skip (c ∷ cs) = elim (cases_Bool (blank c)) [
  | inl e ↦ rw (e, one-add) (words_skip cs)
  | inr e ↦ rw (e, e)
]

-- a word ends at the first blank byte
pub words_first : (w cs : List ℕ) → words_after w cs ≡ before (w ++ take (prefix_len dark cs) cs) (words_after [] (drop (prefix_len dark cs) cs))
unfolding words_after
words_first w [] = ap (λ v. before v []) (sym (append-nil w))
words_first w (c ∷ cs) = elim (cases_Bool (blank c)) [
  | inl e ↦ rw (e, append-nil, e)
  | inr e ↦ rw (e, one-add) (words_first (w ++ c ∷ []) cs ∙ ap (λ v. before v (words_after [] (drop (prefix_len dark cs) cs))) (append_assoc w (c ∷ []) (take (prefix_len dark cs) cs)))
]

pub words_none : words_after [] [] ≡ []
unfolding words_after
words_none = refl

pub before_some : (w : List ℕ) (ws : List (List ℕ)) → 0 < length w → before w ws ≡ w ∷ ws
before_some [] ws h = absurd (omega arith)
before_some (c ∷ w) ws h = refl

not-not : (b : Bool) → not (not b) ≡ b
not-not true = refl
not-not false = refl

first_dark : (cs : List ℕ) → position_or_len dark cs ≡ prefix_len blank cs
first_dark cs = λ i. prefix_len (λ c. not-not (blank c) i) cs

-- where there is a byte that is not blank, a word begins at the first
module _ (cs : List ℕ) where
  pub words_at_end : position dark cs ≡ None → words cs ≡ []
  words_at_end e =
      let le = prefix_len-le-length blank cs in
      let all : prefix_len blank cs ≡ length cs = grind (arith, nat_tests, first_dark cs) in
      let skipped = words_skip cs in
      let rest = drop_all (prefix_len blank cs) cs (omega arith) in
      cc words_none

  pub words_next : (start end : ℕ) (from : List ℕ) → position dark cs ≡ Some start → from ≡ drop start cs → end ≡ unwrap_or (position blank from) (length from) → words cs ≡ take end from ∷ words (drop end from)
  words_next start end from found begins at =
      let first = position-Some dark cs start 0 found in
      let skips : start ≡ prefix_len blank cs = grind (arith, nat_tests, first_dark cs) in
      let le = prefix_len-le-length dark from in
      let ends : end ≡ prefix_len dark from = grind (arith, nat_tests) in
      let more : 0 < length (take end from) = omega (arith, ap (λ n. length (take n from)) ends, length-prefix_len dark from, ap (prefix_len dark) begins, prefix_len-drop_yes dark cs start 0 first.0 first.1) in
      let skipped = words_skip cs in
      let word = words_first [] from in
      let some = before_some (take end from) (words_after [] (drop end from)) more in
      cc

-- the words are also the parts between blank bytes, without the empty ones
abbrev pub has_bytes : List ℕ → Bool
has_bytes w = not (length w == 0)

-- the beginning of a word, before the first part
abbrev begun : List ℕ → List (List ℕ) → List (List ℕ)
begun w [] = w ∷ []
begun w (part ∷ parts) = (w ++ part) ∷ parts

begun_more : (w : List ℕ) (c : ℕ) (parts : List (List ℕ)) → begun (w ++ c ∷ []) parts ≡ begun w (onto_first c parts)
begun_more w c [] = refl
begun_more w c (part ∷ parts) = ap (λ v. v ∷ parts) (append_assoc w (c ∷ []) part)

filter-begun_nil : (parts : List (List ℕ)) → filter has_bytes (begun [] parts) ≡ filter has_bytes parts
filter-begun_nil [] = refl
filter-begun_nil (part ∷ parts) = refl

filter_before : (w : List ℕ) (parts : List (List ℕ)) → filter has_bytes ((w ++ []) ∷ parts) ≡ before w (filter has_bytes parts)
filter_before [] parts = refl
filter_before (c ∷ w) parts = grind (arith, nat_tests, append-nil)

words_after_is : (w cs : List ℕ) → words_after w cs ≡ filter has_bytes (begun w (slice_split blank cs))
unfolding words_after
words_after_is w [] = sym (filter_before w [])
words_after_is w (c ∷ cs) =
    let none = words_after_is [] cs in
    let more = words_after_is (w ++ c ∷ []) cs in
    grind (arith, begun_more w c (slice_split blank cs), filter-begun_nil (slice_split blank cs), filter_before w (slice_split blank cs))

pub words_is : (line : List ℕ) → words line ≡ filter has_bytes (slice_split blank line)
words_is line = words_after_is [] line ∙ filter-begun_nil (slice_split blank line)
