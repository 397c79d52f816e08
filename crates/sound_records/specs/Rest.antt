-- What a pass over the rows from n on asks of each.
use Rattle.std.specs.Prelude.{ℕ, Bool, ◌||◌, List, ltb, leb}
use Rattle.rules.specs.Layout.{most_bookings, bookings}
use Rattle.rules.specs.IsSound.{record_zero}

-- row i is below n, has no record, or its record is all zero
abbrev pub is_clear : List ℕ → ℕ → Bool
is_clear w i = ltb i (bookings w) || (leb most_bookings i || record_zero w i)
