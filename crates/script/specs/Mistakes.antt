-- What is wrong with a line that cannot be read, and what is said of it.
use Rattle.std.specs.Prelude.{ℕ, List, ◌++◌, Ok, Err, Result, codes, decimal}
use Rattle.std.specs.declared.alloc.AllocError.{AllocError}
use Rattle.script.specs.declared.error.Mistake.{Mistake}
use Rattle.script.specs.declared.error.Mistake.TheVariants.{UnknownCall, TooFewNumbers, TooManyNumbers, NoNumber, NoMask, UnknownPredicate}
use Rattle.script.specs.declared.error.ParseError.{ParseError}
use Rattle.script.specs.declared.error.ParseError.TheVariants as error

abbrev pub reason : Mistake → List ℕ
reason UnknownCall = codes "no call has this name"
reason TooFewNumbers = codes "a number is missing"
reason TooManyNumbers = codes "there are too many words"
reason (NoNumber place) = codes "word " ++ (decimal place ++ codes " after the name is no number, or too large")
reason (NoMask place) = codes "word " ++ (decimal place ++ codes " after the name is no mask of 0 and 1")
reason (UnknownPredicate place) = codes "word " ++ (decimal place ++ codes " after the name is no predicate")

-- why a line was not read
abbrev pub message : ParseError → List ℕ
message (error.Mistake m) = reason m
message (error.NoMemory _) = codes "memory allocation failed"

-- the mistake, or the error where there was no memory
abbrev pub mistake : ParseError → Result Mistake AllocError
mistake (error.Mistake m) = Ok m
mistake (error.NoMemory e) = Err e

-- what was read or the mistake in it, unless there was no memory
abbrev pub reading : {A : Type 0} → Result A ParseError → Result (Result A Mistake) AllocError
reading (Ok x) = Ok (Ok x)
reading (Err (error.Mistake m)) = Ok (Err m)
reading (Err (error.NoMemory e)) = Err e
