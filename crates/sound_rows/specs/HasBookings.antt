-- What a caller knows once the header is good.
use Rattle.std.specs.Prelude.{ℕ, ◌≤◌, ◌≡◌, List, length}
use Rattle.rules.specs.Layout.{size, most_bookings, bookings}

-- w is a whole workspace, and n is how many bookings it has: no more than there are records
pub record HasBookings (w : List ℕ) (n : ℕ) : Type 0 where
  pub whole : length w ≡ size
  pub counts : n ≡ bookings w
  pub fits : n ≤ most_bookings
