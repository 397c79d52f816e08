-- A section of marks that was judged: its bytes are those of the marks that it is read as, and each is a number that a booking can have.
use Rattle.std.specs.Prelude.{ℕ, ◌<◌, ◌≡◌, List, length, get_or}
use Rattle.rules.specs.Layout.{most_bookings}
use Rattle.day_file.specs.Bytes.{marks_section}
use Rattle.day_file.specs.Decode.{marks_in}

pub record MarksLaid (section : List ℕ) : Type 0 where
  pub laid : section ≡ marks_section (marks_in section)
  pub below : (a : ℕ) → a < length (marks_in section) → get_or (marks_in section) a 0 < most_bookings
