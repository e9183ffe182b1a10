use Rattle.std.proofs.Common.{refl, ◌∙◌}
use Rattle.script.specs.Names.{kinds}
use Rattle.script.proofs.Lookup.{lookup_no_text}
use Rattle.script.proofs.predicate.named.Goals as goal

pub returns-in_err-ok : goal.returns-in_err-ok
returns-in_err-ok c = c.from_residual.ensures ∙ lookup_no_text _ kinds c.args.word.now _ refl c.from_utf8.ensures.cases c.in_err-ok.ensures.value
