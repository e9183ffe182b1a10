use Rattle.std.proofs.Common.{◌≡◌, ℕ, ◌+◌, ◌≤◌, min, List, ◌++◌, length, take, drop, None, fold, Option, sym, ap, ◌∙◌, arith, length-append, take_at, drop_at, rules}
use Rattle.std.proofs.lemmas.Bool.{cond-false, le-ltb}
use Rattle.fault.specs.declared.Fault.{Fault}
use Rattle.fault.specs.Refusing.{unless}
use Rattle.predicates.specs.Showing.{showings, after}
use Rattle.deque.specs.Ring.{contents, lay}
use Rattle.deque.specs.Refusals as refusal
use Rattle.deque.specs.Sifting.{kept, rest}
use Rattle.deque.specs.Moves.{placed}
use Rattle.deque.specs.Moves as moves
use Rattle.deque.proofs.Contents.{length_contents}
use Rattle.deque.proofs.Laid.{length_lay, contents_lay}
use Rattle.deque.proofs.Sifts.{length_showings, length_sifted}
use Rattle.deque.proofs.deque.Deque.retain_mut.Goals as goal

-- the kept items and then the rest lie in the slots, and the rest is cut off
pub returns : goal.returns
returns g c =
    let T = g.row.T.Denot in
    let rule = g.P.Predicate.rule in
    let takes = g.B.Bin.rule in
    let p = c.args.self.now.places in
    let ok = c.args.self.now.ok in
    let xs = c.args.slots.now in
    let s = g.P.Predicate.state c.args.predicate.now in
    let b = g.B.Bin.state c.args.bin.now in
    let ws = showings rule s (contents p xs) in
    let all = kept ws ++ rest ws in
    let k = c.sift-keeps.result in
    let ys = c.sift-keeps.new.slots in
    let enough : p.capacity ≤ length xs = search rules in
    let Refused : ℕ → Option Fault = λ lent. refusal.slots p.capacity lent p.len in
    let none : Refused (length xs) ≡ None = cond-false _ _ _ (le-ltb (length xs) p.capacity enough) in
    let sum : length (kept ws) + length (rest ws) ≡ p.len = length_sifted ws ∙ length_showings rule s (contents p xs) ∙ length_contents p xs ok enough in
    let size : length all ≡ p.len = length-append (kept ws) (rest ws) ∙ sum in
    let number : k ≡ length (kept ws) = c.sift-keeps.ensures.result in
    let is : ys ≡ lay p xs all = c.sift-keeps.ensures.slots in
    let long : length ys ≡ length xs = ap length is ∙ length_lay p xs all ok enough size in
    let list : contents p ys ≡ all = ap (contents p) is ∙ contents_lay p xs all ok enough size in
    let stays : take k (contents p ys) ≡ kept ws = ap (take k) list ∙ take_at (kept ws) (rest ws) k (sym number) in
    let goes : drop k (contents p ys) ≡ rest ws = ap (drop k) list ∙ drop_at (kept ws) (rest ws) k (sym number) in
    let len : min k p.len ≡ length (kept ws) = omega arith in
    record {
      result = search (rules, c.truncate.ensures.result, long, goes);
      places = c.truncate.ensures.places ∙ ap (λ n. unless (Refused n) p (moves.truncate k p)) long ∙ ap (λ m. unless (Refused (length xs)) p (placed p p.front m)) len;
      slots = is ∙ ap (λ o. unless o xs (lay p xs all)) (sym none);
      list =
          c.truncate.ensures.list ∙ ap (λ n. unless (Refused n) (contents p ys) (take k (contents p ys))) long
          ∙ ap (λ o. unless o (contents p ys) (take k (contents p ys))) none ∙ stays ∙ ap (λ o. unless o (contents p xs) (kept ws)) (sym none);
      predicate = c.sift-keeps.ensures.predicate ∙ ap (λ o. unless o s (after rule s (contents p xs))) (sym none);
      bin = c.truncate.ensures.bin ∙ ap (λ n. unless (Refused n) b (fold takes b (drop k (contents p ys)))) long ∙ ap (λ (l : List T). unless (Refused (length xs)) b (fold takes b l)) goes;
    }
