-- What a tray holds, and what it does with an item.
use Rattle.std.specs.Prelude.{ℕ, ◌+◌, ◌%◌, ◌^◌, List, [], ◌∷◌, ◌++◌, length, take, vec_items}
use Rattle.bins.specs.declared.tray.Tray.{Tray}

-- its slots, the first items taken, as many as it has slots for, in their order, and the count
pub record TrayState (T : Type 0) : Type 0 where
  pub slots : ℕ
  pub kept : List T
  pub count : ℕ

module _ {T : Type 0} where
  abbrev pub tray_state : Tray T → TrayState T
  tray_state t = record { slots = t.slots; kept = vec_items t.kept; count = t.count }

  abbrev pub empty_tray : ℕ → TrayState T
  empty_tray n = record { slots = n; kept = []; count = 0 }

  -- an item is kept while there is a slot for it, and always counted
  abbrev pub trayed : TrayState T → T → TrayState T
  trayed s x = record { slots = s.slots; kept = take s.slots (s.kept ++ x ∷ []); count = (s.count + 1) % 2 ^ 64 }

  -- a tray of n slots that took the items xs, and no other
  abbrev pub tray_of : ℕ → List T → TrayState T
  tray_of n xs = record { slots = n; kept = take n xs; count = length xs % 2 ^ 64 }
