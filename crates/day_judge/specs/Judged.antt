-- What the judge's functions promise: a test that tells whether a claim holds, and an offset behind what was judged, none where it isn't good.
use Rattle.std.specs.Prelude.{ℕ, ◌+◌, ◌<◌, ◌≤◌, ◌≡◌, Bool, true, false, List, ◌++◌, Option, MatchOption, length, drop}
use Rattle.day_file.specs.Day.{DayBooking}
use Rattle.day_file.specs.Bytes.{number_bytes, counted, booking_bytes}
use Rattle.day_file.specs.Decode.{read_booking}
use Rattle.day_judge.specs.Parts.{setting_end, SettingGood, HoldsMany, behind, row_good, BookingsGood}

-- where the test passes the claim holds, and where it fails the claim doesn't
pub record Decides (test : Bool) (claim : Type 0) : Type 0 where
  pub yes : test ≡ true → claim
  pub no : test ≡ false → claim → ⊥

-- it is good, and its section ends at the offset
pub record SettingEnds (file : List ℕ) (next : ℕ) : Type 0 where
  pub good : SettingGood file
  pub end : next ≡ setting_end file
  pub most : next ≤ 12

abbrev pub SettingJudged : List ℕ → Option ℕ → Type 0
SettingJudged file r = MatchOption r (SettingGood file → ⊥) (SettingEnds file)

-- ---- the sections behind the setting: how many bookings, the bookings, how many polls, the polls

-- a place in them behind the first j bookings, whose bytes they hold
pub record Walked (sections : List ℕ) (j at : ℕ) : Type 0 where
  pub laid : HoldsMany booking_bytes read_booking j (drop 2 sections)
  pub there : behind (drop 2 sections) j ≡ drop at sections
  pub past : 2 ≤ at
  pub within : at ≤ length sections

-- the booking that is read from an offset on
abbrev pub booking_from : List ℕ → ℕ → DayBooking
booking_from sections at = (read_booking (drop at sections)).value

-- it is by the rules, but that of its name, and its bytes behind the name stand up to the next offset
pub record RowEnds (sections : List ℕ) (at j next : ℕ) : Type 0 where
  pub rules : row_good j (booking_from sections at) ≡ true
  pub laid : drop (at + 8) sections ≡ number_bytes (booking_from sections at).slot ++ (counted number_bytes (booking_from sections at).parents ++ drop next sections)
  pub past : at + 12 ≤ next
  pub within : next ≤ length sections

-- none where a rule is broken or bytes are missing
abbrev pub RowJudged : List ℕ → ℕ → ℕ → Option ℕ → Type 0
RowJudged sections at j r =
    MatchOption r (row_good j (booking_from sections at) ≡ true → length sections < at + length (booking_bytes (booking_from sections at))) (RowEnds sections at j)

-- all bookings are by the rules, and their bytes end at the offset
pub record BookingsEnd (sections : List ℕ) (n next : ℕ) : Type 0 where
  pub good : BookingsGood (drop 2 sections) n
  pub walked : Walked sections n next

abbrev pub BookingsJudged : List ℕ → ℕ → Option ℕ → Type 0
BookingsJudged sections n r = MatchOption r (BookingsGood (drop 2 sections) n → ⊥) (BookingsEnd sections n)
