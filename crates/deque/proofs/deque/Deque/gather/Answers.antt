-- Each way brings the two parts of the ring together at the new front.
use Rattle.std.proofs.Common.{◌≡◌, ◌+◌, ◌-◌, arith}
use Rattle.std.proofs.lemmas.Bool.Decides.{nat_tests}
use Rattle.lists.proofs.Pastes.{joined_down, joined_up, joined_by_turn_up, joined_by_turn_down}
use Rattle.deque.specs.Ring.{new_front}
use Rattle.deque.proofs.Gathered.{gathered_is}
use Rattle.deque.proofs.deque.Deque.gather.Goals as goal

pub returns-then-front_len-free : goal.returns-then-front_len-free
returns-then-front_len-free g c =
    let xs = c.args.slots.now in
    let p = c.args.self.now.places in
    let ok = c.args.self.now.ok in
    let f = p.front in
    let N = p.capacity in
    let n = p.len in
    let t = n - (N - f) in
    let e : 0 ≡ new_front p = grind (arith, nat_tests) in
    let z : t - 0 ≡ t = omega arith in
    let j = joined_down xs f (N - f) t (omega arith) (omega arith) in
    let is = gathered_is p xs ok c.requires.enough (0) e (omega arith) in
    record { front = e; slots = cc }

pub returns-then-back_len-free : goal.returns-then-back_len-free
returns-then-back_len-free g c =
    let xs = c.args.slots.now in
    let p = c.args.self.now.places in
    let ok = c.args.self.now.ok in
    let f = p.front in
    let N = p.capacity in
    let n = p.len in
    let t = n - (N - f) in
    let e : t ≡ new_front p = grind (arith, nat_tests) in
    let z : t - 0 ≡ t = omega arith in
    let s : t + (N - f) ≡ n = omega arith in
    let j = joined_up xs f (N - f) t (omega arith) (omega arith) in
    let is = gathered_is p xs ok c.requires.enough (t) e (omega arith) in
    record { front = e; slots = cc }

pub returns-then-back_len-front_len : goal.returns-then-back_len-front_len
returns-then-back_len-front_len g c =
    let xs = c.args.slots.now in
    let p = c.args.self.now.places in
    let ok = c.args.self.now.ok in
    let f = p.front in
    let N = p.capacity in
    let n = p.len in
    let t = n - (N - f) in
    let e : N - n ≡ new_front p = grind (arith, nat_tests) in
    let z : t - 0 ≡ t = omega arith in
    let s : t + (N - f) ≡ n = omega arith in
    let r : N - (N - n) ≡ n = omega arith in
    let at : N - n + t ≡ f = omega arith in
    let j = joined_by_turn_up xs (N - n) (N - f) t (omega arith) in
    let is = gathered_is p xs ok c.requires.enough (N - n) e (omega arith) in
    record { front = e; slots = cc }

pub returns-else-back_len-front_len : goal.returns-else-back_len-front_len
returns-else-back_len-front_len g c =
    let xs = c.args.slots.now in
    let p = c.args.self.now.places in
    let ok = c.args.self.now.ok in
    let f = p.front in
    let N = p.capacity in
    let n = p.len in
    let t = n - (N - f) in
    let e : 0 ≡ new_front p = grind (arith, nat_tests) in
    let z : n - 0 ≡ n = omega arith in
    let s : t + (N - f) ≡ n = omega arith in
    let j = joined_by_turn_down xs f (N - f) t (omega arith) (omega arith) in
    let is = gathered_is p xs ok c.requires.enough (0) e (omega arith) in
    record { front = e; slots = cc }
