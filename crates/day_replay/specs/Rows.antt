-- CR 4: a row of a file, booked or polled on a ledger: what it asks of the words, and what it leaves. These are no rules of their own: promises/proofs/Stages.antt
-- shows that the calls of the law leave the same.
use Rattle.std.specs.Prelude.{ℕ, ◌<◌, ◌≤◌, ◌≡◌, List, ◌++◌, length, drop}
use Rattle.rules.specs.Layout.{most_bookings, most_parents, slots, bookings, state_of}
use Rattle.rules.specs.Sound.{Ledger}
use Rattle.rules.specs.Book.{booked_with}
use Rattle.rules.specs.Poll.{polled_by}
use Rattle.day_file.specs.Day.{DayBooking, DayPoll, Day}
use Rattle.day_file.specs.Bytes.{bookings_section, polls_section}
use Rattle.day_file.specs.Decode.{Read}
use Rattle.day_file.specs.InTurn.{places}

-- ---- the file behind its setting

abbrev pub behind_setting : Day → List ℕ
behind_setting d = bookings_section d.bookings ++ polls_section d.polls

-- ---- a booking

-- a ledger with room for it, a slot that there is, and no more parents than places
pub record Rebookable (w : List ℕ) (b : DayBooking) : Type 0 where
  pub ledger : Ledger w
  pub room : bookings w < most_bookings
  pub slot : b.slot < slots
  pub few : length b.parents ≤ most_parents

-- the booking becomes number n, with its parents by their numbers
abbrev pub rebooked_once : List ℕ → DayBooking → List ℕ
rebooked_once w b = booked_with w b.name b.slot (places b.parents)

-- ---- a poll

-- a ledger that has the booking, which waits
pub record Repollable (w : List ℕ) (q : DayPoll) : Type 0 where
  pub ledger : Ledger w
  pub booked : q.booking < bookings w
  pub waiting : state_of w q.booking ≡ 0

-- what its outcome leaves
abbrev pub repolled_once : List ℕ → DayPoll → List ℕ
repolled_once w q = polled_by q.success w q.booking

-- ---- a row at an offset

-- the words after it, and the bytes behind it from the offset given on
pub record Replayed {A : Type 0} (once : List ℕ → A → List ℕ) (row : Read A) (w file : List ℕ) (r : ℕ) (w' : List ℕ) : Type 0 where
  pub words : w' ≡ once w row.value
  pub behind : drop r file ≡ row.rest
