-- What the words of a line ask for.
use Rattle.std.specs.Prelude.{ℕ, ◌+◌, ◌-◌, ◌^◌, Bool, false, cond, nat_lt, List, [], ◌∷◌, map, Some, None, Ok, Err, vec_items, Option, Result, Vec, ◌==◌}
use Rattle.std.specs.Borrow.{Bor}
use Rattle.std.specs.Result.{result_map_both}
use Rattle.std.specs.declared.alloc.Global.{Global}
use Rattle.script.specs.declared.command.Plain.TheVariants as plain
use Rattle.script.specs.declared.command.Kind.{Kind}
use Rattle.script.specs.declared.command.Kind.TheVariants as kind
use Rattle.script.specs.declared.command.Test.{Test}
use Rattle.script.specs.declared.command.Test.TheVariants.{AtLeast, Adding, Mask}
use Rattle.script.specs.declared.command.Name.{Name}
use Rattle.script.specs.declared.command.Name.TheVariants as name
use Rattle.script.specs.declared.error.Mistake.{Mistake}
use Rattle.script.specs.declared.error.Mistake.TheVariants.{UnknownCall, TooFewNumbers, TooManyNumbers, NoNumber, NoMask, UnknownPredicate}
use Rattle.script.specs.declared.command.Command.{Command}
use Rattle.script.specs.declared.command.Command.TheVariants.{Nothing, Make, Plain, Indexed, Push, Swap, Load, Retain, PopIf, Change}
use Rattle.script.specs.Text.{number, flags}
use Rattle.script.specs.Names.{lookup, names, kinds}

-- a command as a definition has it
abbrev pub Read : Type 0
Read = Command (List ℕ) (List Bool)

-- what slices hold
abbrev pub held : List (Bor (List ℕ)) → List (List ℕ)
held ws = map (λ x. x.now) ws

-- the largest index and the largest item
abbrev pub max_index : ℕ
max_index = 2 ^ 64 - 1

abbrev pub max_item : ℕ
max_item = 255

-- the rest of a reading, where there is no mistake yet
abbrev pub then : {A B : Type 0} → Result A Mistake → (A → Result B Mistake) → Result B Mistake
then (Ok x) f = f x
then (Err m) f = Err m

abbrev pub found : (place : ℕ) → Option ℕ → Result ℕ Mistake
found place (Some n) = Ok n
found place None = Err (NoNumber place)

-- the word at a place as a number
abbrev pub numbered : (max place : ℕ) → List ℕ → Result ℕ Mistake
numbered max place w = found place (number max w)

-- no number, one and two
abbrev pub none : List (List ℕ) → Result (Unit {0}) Mistake
none [] = Ok tt
none (w ∷ ws) = Err TooManyNumbers

abbrev pub one : (max : ℕ) → List (List ℕ) → Result ℕ Mistake
one max [] = Err TooFewNumbers
one max (w ∷ []) = numbered max 1 w
one max (w ∷ v ∷ ws) = Err TooManyNumbers

abbrev pub two : (max : ℕ) → List (List ℕ) → Result (ℕ × ℕ) Mistake
two max [] = Err TooFewNumbers
two max (w ∷ []) = Err TooFewNumbers
two max (w ∷ v ∷ []) = then (numbered max 1 w) (λ i. then (numbered max 2 v) (λ j. Ok (i, j)))
two max (w ∷ v ∷ u ∷ ws) = Err TooManyNumbers

-- any number of items, the first of them at a place
abbrev pub items : (place : ℕ) → List (List ℕ) → Result (List ℕ) Mistake
items place [] = Ok []
items place (w ∷ ws) = then (numbered max_item place w) (λ x. then (items (place + 1) ws) (λ xs. Ok (x ∷ xs)))

-- what is wrong with a count that is not the wanted one
abbrev pub miscounted : (count wanted : ℕ) → Mistake
miscounted count wanted = cond (nat_lt count wanted) TooFewNumbers TooManyNumbers

-- exactly one word
abbrev pub lone : List (List ℕ) → Result (List ℕ) Mistake
lone [] = Err TooFewNumbers
lone (w ∷ []) = Ok w
lone (w ∷ v ∷ ws) = Err TooManyNumbers

abbrev pub masked : (place : ℕ) → Option (List Bool) → Result (Test (List Bool)) Mistake
masked place (Some bs) = Ok (Mask bs)
masked place None = Err (NoMask place)

-- a predicate of a kind, with what the word at a place gives it
abbrev pub tested : Kind → (place : ℕ) → List ℕ → Result (Test (List Bool)) Mistake
tested kind.AtLeast place w = then (numbered max_item place w) (λ x. Ok (AtLeast x))
tested kind.Adding place w = then (numbered max_item place w) (λ x. Ok (Adding x))
tested kind.Mask place w = masked place (flags w)

abbrev pub kind_at : (place : ℕ) → Option Kind → Result Kind Mistake
kind_at place (Some k) = Ok k
kind_at place None = Err (UnknownPredicate place)

-- `change 2 adding 7`
abbrev pub changing : List (List ℕ) → Result Read Mistake
changing [] = Err TooFewNumbers
changing (i ∷ []) = Err TooFewNumbers
changing (i ∷ k ∷ []) = Err TooFewNumbers
changing (i ∷ k ∷ w ∷ []) = then (numbered max_index 1 i) (λ n. then (kind_at 2 (lookup kinds k)) (λ t. then (tested t 3 w) (λ p. Ok (Change n p))))
changing (i ∷ k ∷ w ∷ v ∷ ws) = Err TooManyNumbers

-- `capacity 6` makes a ring, and `capacity` asks for its capacity
abbrev pub making : List (List ℕ) → Result Read Mistake
making [] = Ok (Plain plain.Capacity)
making (w ∷ ws) = then (one max_index (w ∷ ws)) (λ n. Ok (Make n))

abbrev pub named : Option Name → List (List ℕ) → Result Read Mistake
named None ws = Err UnknownCall
named (Some (name.Plain p)) ws = then (none ws) (λ _. Ok (Plain p))
named (Some (name.Indexed c)) ws = then (one max_index ws) (λ i. Ok (Indexed c i))
named (Some (name.Push e)) ws = then (one max_item ws) (λ x. Ok (Push e x))
named (Some name.Swap) ws = then (two max_index ws) (λ p. Ok (Swap p.0 p.1))
named (Some name.Load) ws = then (items 1 ws) (λ xs. Ok (Load xs))
named (Some name.Capacity) ws = making ws
named (Some (name.Retain k)) ws = then (then (lone ws) (λ w. tested k 1 w)) (λ p. Ok (Retain p))
named (Some (name.PopIf e k)) ws = then (then (lone ws) (λ w. tested k 1 w)) (λ p. Ok (PopIf e p))
named (Some name.Change) ws = changing ws

-- a word that begins with `#`
abbrev pub comment : List ℕ → Bool
comment [] = false
comment (c ∷ w) = c == 35

abbrev pub asked : (first : List ℕ) → (others : List (List ℕ)) → Result Read Mistake
asked w ws = cond (comment w) (Ok Nothing) (named (lookup names w) ws)

-- a line without words, or that begins with a comment, asks for nothing
abbrev pub command : List (List ℕ) → Result Read Mistake
command [] = Ok Nothing
command (w ∷ ws) = asked w ws

abbrev pub with_flags : {F G : Type 0} → (F → G) → Test F → Test G
with_flags f (AtLeast x) = AtLeast x
with_flags f (Adding x) = Adding x
with_flags f (Mask bs) = Mask (f bs)

abbrev pub with_lists : {I J F G : Type 0} → (I → J) → (F → G) → Command I F → Command J G
with_lists f h Nothing = Nothing
with_lists f h (Make n) = Make n
with_lists f h (Plain p) = Plain p
with_lists f h (Indexed c i) = Indexed c i
with_lists f h (Push e x) = Push e x
with_lists f h (Swap i j) = Swap i j
with_lists f h (Load xs) = Load (f xs)
with_lists f h (Retain t) = Retain (with_flags h t)
with_lists f h (PopIf e t) = PopIf e (with_flags h t)
with_lists f h (Change i t) = Change i (with_flags h t)

-- a test and a command of the code, with what is in their `Vec`s
abbrev pub test_meaning : Result (Test (Vec Bool Global)) Mistake → Result (Test (List Bool)) Mistake
test_meaning r = result_map_both (with_flags vec_items) (λ m. m) r

abbrev pub meaning : Result (Command (Vec ℕ Global) (Vec Bool Global)) Mistake → Result Read Mistake
meaning r = result_map_both (with_lists vec_items vec_items) (λ m. m) r
