-- What a walk has ahead of it.
use Rattle.std.specs.Prelude.{List, ◌++◌}
use Rattle.walk.specs.declared.Iter.{Iter}

abbrev pub ahead : {T : Type 0} → Iter T → List T
ahead w = w.first.now ++ w.second.now
