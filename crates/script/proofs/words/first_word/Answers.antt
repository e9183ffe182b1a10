use Rattle.std.proofs.Common.{◌≡◌, ◌-◌, length, take, drop, sym, ap, ◌∙◌, rules, tests}
use Rattle.std.proofs.lemmas.Iterator.{YieldsList-from_slice}
use Rattle.std.proofs.lemmas.Iterator.Search.{position_from_yields_List}
use Rattle.std.proofs.lemmas.List.{take_rest}
use Rattle.std.specs.List.{position}
use Rattle.std.specs.Option.{unwrap_or}
use Rattle.script.specs.Text.{blank}
use Rattle.script.proofs.Wording.{dark, words_at_end, words_next}
use Rattle.script.proofs.words.first_word.Goals as goal

pub returns-in_err-start : goal.returns-in_err-start
returns-in_err-start c =
    let cs = c.args.bytes.now in
    let at : c.position.result ≡ position dark cs = position_from_yields_List dark _ _ c.position.result c.position.ensures.ran (YieldsList-from_slice cs c.iter.ensures.rest) (λ x b q k. search (rules, tests)) in
    rw c.from_residual.ensures (words_at_end cs (sym at ∙ c.in_err-start.was))

pub returns : goal.returns
returns c =
    let cs = c.args.bytes.now in
    let start = c.in_ok-start.start in
    let end = c.unwrap_or-end.result in
    let begun = take (length cs - start) (drop start cs) in
    let from : c.position.result ≡ position dark cs = position_from_yields_List dark _ _ c.position.result c.position.ensures.ran (YieldsList-from_slice cs c.iter.ensures.rest) (λ x b q k. search (rules, tests)) in
    let to : c.position-2.result ≡ position blank begun = position_from_yields_List blank _ _ c.position-2.result c.position-2.ensures.ran (YieldsList-from_slice begun c.iter-2.ensures.rest) (λ x b q k. search (rules, tests)) in
    let next = words_next cs start end begun (sym from ∙ c.in_ok-start.was) (take_rest cs start) (c.unwrap_or-end.ensures ∙ ap (λ o. unwrap_or o (length begun)) to) in
    cc
