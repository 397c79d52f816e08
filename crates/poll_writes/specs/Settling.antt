-- What settling leans on, so that every index is in range and no sum wraps. Every ledger has it.
use Rattle.std.specs.Prelude.{ℕ, ◌≤◌, ◌<◌, ◌≡◌, List, length}
use Rattle.rules.specs.Layout.{size, most_bookings, slots, none, slot_of, preferred_in, counter_in}

-- slot s can be settled once: its preferred number is a booking's, and its counter can rise
pub record Settleable (w : List ℕ) (s : ℕ) : Type 0 where
  pub whole : length w ≡ size
  pub slot_fits : s < slots
  pub preferred_fits : preferred_in w s < most_bookings
  pub counter_fits : counter_in w s < none

-- so can the slots of the bookings below n
pub record Settling (w : List ℕ) (n : ℕ) : Type 0 where
  pub whole : length w ≡ size
  pub few : n ≤ most_bookings
  pub slot_fits : (i : ℕ) → i < n → slot_of w i < slots
  pub preferred_fits : (i : ℕ) → i < n → preferred_in w (slot_of w i) < most_bookings
  pub counter_fits : (i : ℕ) → i < n → counter_in w (slot_of w i) ≤ most_bookings
