use Rattle.std.proofs.Common.{refl}
use Rattle.deque.specs.Ring.{contents}
use Rattle.deque.proofs.rows.rows_hold.Goals as goal

-- they compute
pub returns : goal.returns
unfolding contents
returns c =
    record {
      wrapped_list = refl;
      wrapped_places = refl;
      wrapped_slots = refl;
      wrapped_push = refl;
      full_list = refl;
      full_front = refl;
      full_push = refl;
      front_of_three = refl;
      front_of_five = refl;
      evens = refl;
      swap_removal = refl;
      truncated = refl;
      cleared = refl;
      no_push = refl;
      no_push_number = refl;
      no_front = refl;
      no_back = refl;
    }
