-- What raising leans on, so that every index is in range and no sum wraps. Every ledger has it.
use Rattle.std.specs.Prelude.{ℕ, ◌≤◌, ◌<◌, ◌≡◌, List, length}
use Rattle.rules.specs.Layout.{size, most_bookings, confidence_of}

-- the confidences below n can rise
pub record Raising (w : List ℕ) (n : ℕ) : Type 0 where
  pub whole : length w ≡ size
  pub few : n ≤ most_bookings
  pub confidence_fits : (i : ℕ) → i < n → confidence_of w i ≤ most_bookings
