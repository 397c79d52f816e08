-- What clearing leans on, so that every index is in range. Every ledger has it.
use Rattle.std.specs.Prelude.{ℕ, ◌≤◌, ◌<◌, ◌≡◌, List, length}
use Rattle.rules.specs.Layout.{size, most_bookings, slots, slot_of}

-- the bookings below n have slots
pub record Clearing (w : List ℕ) (n : ℕ) : Type 0 where
  pub whole : length w ≡ size
  pub few : n ≤ most_bookings
  pub slot_fits : (i : ℕ) → i < n → slot_of w i < slots
