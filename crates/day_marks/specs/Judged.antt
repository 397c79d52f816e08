-- What the judge's functions promise: of the marks' numbers and of the bookings' slots, and an offset where the marks of a good second-form file start, none where it isn't good.
use Rattle.std.specs.Prelude.{ℕ, ◌<◌, ◌≤◌, ◌≡◌, true, false, ◌&&◌, List, Option, MatchOption, length, take, drop}
use Rattle.rules.specs.Layout.{slots}
use Rattle.day_file.specs.Day.{DayBooking, booking_in}
use Rattle.day_file.specs.Bytes.{marks_section}
use Rattle.day_file.specs.Decode.{decode, marks_in, decode_marked}
use Rattle.day_file.specs.Marks.{is_rising, starts_with_genesis, are_below}
use Rattle.day_file.specs.Replay.{good_file, good_second}

-- its bytes are theirs, with nothing behind them, and they rise from the genesis and stay below n
pub record NumbersGood (n : ℕ) (section : List ℕ) : Type 0 where
  pub laid : section ≡ marks_section (marks_in section)
  pub rules : (is_rising (marks_in section) && starts_with_genesis (marks_in section) && are_below n (marks_in section)) ≡ true

-- each booking's slot is one that there is
abbrev pub SlotsGood : List DayBooking → Type 0
SlotsGood bs = (j : ℕ) → j < length bs → (booking_in bs j).slot < slots

-- the file is good, up to the offset it is a good first-form file of the same day, and from there on it has the marks
pub record SecondEnds (file : List ℕ) (end : ℕ) : Type 0 where
  pub within : end ≤ length file
  pub whole : good_second file ≡ true
  pub front : good_file (take end file) ≡ true
  pub day : decode (take end file) ≡ decode file
  pub back : drop end file ≡ marks_section (decode_marked file).marks

abbrev pub SecondJudged : List ℕ → Option ℕ → Type 0
SecondJudged file r = MatchOption r (good_second file ≡ false) (SecondEnds file)
