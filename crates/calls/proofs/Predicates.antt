-- A call that uses a predicate, which may not be there.
use Rattle.std.proofs.Common.{Some, None, Option}
use Rattle.std.specs.Option.{option_map_or}

pub either_way : {P R : Type 0} (Q : R → Type 0) (o : Option P) (does : P → R) (none : R) → Q none → ((s : P) → Q (does s)) → Q (option_map_or does o none)
either_way Q None does none h there = h
either_way Q (Some s) does none h there = there s
