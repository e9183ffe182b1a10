-- The words and the numbers of a line, which is a list of bytes.
use Rattle.std.specs.Prelude.{ℕ, ◌+◌, ◌-◌, ◌*◌, Bool, true, false, cond, ◌&&◌, ◌||◌, List, [], ◌∷◌, ◌++◌, Some, None, Option, ◌==◌, nat_le}

-- a space, a tab or a carriage return
abbrev pub blank : ℕ → Bool
blank c = c == 32 || (c == 9 || c == 13)

-- a word before other words; an empty one is none
abbrev pub before : List ℕ → List (List ℕ) → List (List ℕ)
before [] ws = ws
before (c ∷ w) ws = (c ∷ w) ∷ ws

-- the words of a line of which `w`, the beginning of a word, was read already
unfoldable pub words_after : (w line : List ℕ) → List (List ℕ)
words_after w [] = before w []
words_after w (c ∷ cs) = cond (blank c) (before w (words_after [] cs)) (words_after (w ++ c ∷ []) cs)

-- the longest runs of bytes that are not blank
abbrev pub words : List ℕ → List (List ℕ)
words line = words_after [] line

abbrev pub digit : ℕ → Bool
digit c = nat_le 48 c && nat_le c 57

-- the number that digits write after the number n
unfoldable pub number_after : (n : ℕ) → List ℕ → Option ℕ
number_after n [] = Some n
number_after n (c ∷ cs) = cond (digit c) (number_after (n * 10 + (c - 48)) cs) None

abbrev pub at_most : (max : ℕ) → Option ℕ → Option ℕ
at_most max None = None
at_most max (Some n) = cond (nat_le n max) (Some n) None

-- the number of a word of one digit or more, or none where it is above the limit
abbrev pub number : (max : ℕ) → List ℕ → Option ℕ
number max [] = None
number max (c ∷ cs) = at_most max (number_after 0 (c ∷ cs))

abbrev pub flag_before : Bool → Option (List Bool) → Option (List Bool)
flag_before b None = None
flag_before b (Some bs) = Some (b ∷ bs)

-- the flags that a word of 0 and 1 writes
unfoldable pub flags : List ℕ → Option (List Bool)
flags [] = Some []
flags (c ∷ cs) = cond (c == 48) (flag_before false (flags cs)) (cond (c == 49) (flag_before true (flags cs)) None)
