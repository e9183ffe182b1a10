-- What a table of ASCII words has for a word that is no text.
use Rattle.std.proofs.Common.{◌≡◌, ℕ, Bool, true, List, [], ◌∷◌, Some, None, Ok, Err, Result, Bor, MatchResult, IsUtf8, IsAscii, sym, refl, ◌∙◌, subst}
use Rattle.std.proofs.lemmas.Slice.Eq.{bytes_eq-Decides}
use Rattle.std.proofs.lemmas.Bool.{cond-false, and_parts, ltb-true, false_from_ne_true}
use Rattle.std.proofs.lemmas.Str.{IsUtf8-from_ascii}
use Rattle.std.proofs.lemmas.Str.Ascii.{IsAscii-nil, IsAscii-cons}
use Rattle.std.specs.Char.{is_ascii}
use Rattle.std.specs.List.{list_all}
use Rattle.std.specs.Result.{result_ok}
use Rattle.std.specs.Str.{bytes_eq}
use Rattle.script.specs.Names.{lookup}

abbrev ascii : List ℕ → Bool
ascii w = list_all is_ascii w

IsAscii-from_test : (w : List ℕ) → ascii w ≡ true → IsAscii w
IsAscii-from_test [] e = IsAscii-nil
IsAscii-from_test (c ∷ w) e = let both = and_parts (is_ascii c) (ascii w) e in IsAscii-cons c w (ltb-true c 128 both.0) (IsAscii-from_test w both.1)

module _ {A : Type 0} where
  abbrev pub ascii_words : List (List ℕ × A) → Bool
  ascii_words rows = list_all (λ row. ascii row.0) rows

  -- a word that no row has
  abbrev pub Absent : List (List ℕ × A) → List ℕ → Type 0
  Absent [] w = Unit {0}
  Absent (row ∷ rows) w = (w ≡ row.0 → ⊥) × Absent rows w

  pub lookup_absent : (rows : List (List ℕ × A)) (w : List ℕ) → Absent rows w → None ≡ lookup rows w
  lookup_absent [] w a = refl
  lookup_absent (row ∷ rows) w a =
      let other = false_from_ne_true (bytes_eq w row.0) (λ same. a.0 ((bytes_eq-Decides w row.0).0 same)) in
      lookup_absent rows w a.1 ∙ sym (cond-false (bytes_eq w row.0) (Some row.1) (lookup rows w) other)

  absent_there : (rows : List (List ℕ × A)) (w : List ℕ) → ascii_words rows ≡ true → ¬ (IsUtf8 w) → Absent rows w
  absent_there [] w e h = tt
  absent_there (row ∷ rows) w e h =
      let both = and_parts (ascii row.0) (ascii_words rows) e in
      (λ same. h (subst IsUtf8 (sym same) (IsUtf8-from_ascii row.0 (IsAscii-from_test row.0 both.0))), absent_there rows w both.1 h)

  -- the two last facts are what `from_utf8` and `ok` ensure
  pub lookup_no_text : {E : Type 0} (V : E → Type 0) (rows : List (List ℕ × A)) (w : List ℕ) (t : Result (Bor (List ℕ)) E) → ascii_words rows ≡ true → MatchResult t (λ x. (x.now ≡ w) × IsUtf8 w) (λ e. ¬ (IsUtf8 w) × V e) → None ≡ result_ok t → None ≡ lookup rows w
  lookup_no_text V rows w (Ok x) e text none = cc
  lookup_no_text V rows w (Err x) e text none = lookup_absent rows w (absent_there rows w e text.0)
