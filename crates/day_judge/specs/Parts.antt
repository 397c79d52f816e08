-- The parts of a file as a loop walks them: the bytes behind so many bookings, the booking that is read there, the names so far; and when a part is good.
use Rattle.std.specs.Prelude.{ℕ, zero, suc, ◌+◌, ◌≡◌, Bool, true, ◌&&◌, not, List, ◌++◌, length, get_or, drop, eqb, ltb, leb}
use Rattle.loops.specs.Search.{all, any}
use Rattle.terms.specs.Setting.{is_good}
use Rattle.rules.specs.Layout.{most_bookings}
use Rattle.rules.specs.Calls.{is_bad_slot, is_bad_count}
use Rattle.bits.specs.Bits.{bit_at}
use Rattle.day_file.specs.Day.{DayBooking, DayPoll}
use Rattle.day_file.specs.Bytes.{joined, setting_section, booking_bytes, poll_bytes, polls_section}
use Rattle.day_file.specs.Decode.{Read, read_many, read_counted, read_setting, read_booking, read_poll}
use Rattle.day_file.specs.DayRules.{booking_passes, poll_passes}

-- bytes that start with those of what is read off them
abbrev pub Holds : {A : Type 0} → (A → List ℕ) → (List ℕ → Read A) → List ℕ → Type 0
Holds bytes read l = l ≡ bytes (read l).value ++ (read l).rest

-- the same of so many, one after the other
abbrev pub HoldsMany : {A : Type 0} → (A → List ℕ) → (List ℕ → Read A) → ℕ → List ℕ → Type 0
HoldsMany bytes read n = Holds (joined bytes) (read_many read n)

-- ---- the setting

-- where its section ends, if its bytes are the file's
abbrev pub setting_end : List ℕ → ℕ
setting_end file = length (setting_section (read_setting file).value)

pub record SettingGood (file : List ℕ) : Type 0 where
  pub laid : file ≡ setting_section (read_setting file).value ++ drop (setting_end file) file
  pub rules : is_good (read_setting file).value ≡ true

-- ---- the bookings, read off the bytes behind their count

-- the bytes behind the first j
abbrev pub behind : List ℕ → ℕ → List ℕ
behind l j = (read_many read_booking j l).rest

-- the booking after j others
abbrev pub row_at : List ℕ → ℕ → DayBooking
row_at l j = (read_booking (behind l j)).value

-- the name of number i: the genesis has 0
abbrev pub name_read : List ℕ → ℕ → ℕ
name_read l zero = 0
name_read l (suc j) = (row_at l j).name

-- a number below i has the name
abbrev pub is_named : List ℕ → ℕ → ℕ → Bool
is_named l i name = any (λ k. eqb (name_read l k) name) i

-- the rules of a booking's slot, of how many parents it has and of its own number
abbrev pub fields_good : (j slot count : ℕ) → Bool
fields_good j slot count = not (is_bad_slot slot) && not (is_bad_count count) && ltb (j + 1) most_bookings

-- each of so many parents is a lower number, and no earlier one is the same
abbrev pub parents_good : ℕ → List ℕ → ℕ → Bool
parents_good j parents = all (λ a. ltb (get_or parents a 0) (j + 1) && not (any (λ b. eqb (get_or parents b 0) (get_or parents a 0)) a))

-- the rules of the booking after j others, but that of its name
abbrev pub row_good : ℕ → DayBooking → Bool
row_good j b = fields_good j b.slot (length b.parents) && parents_good j b.parents (length b.parents)

-- so many bookings
pub record BookingsGood (l : List ℕ) (n : ℕ) : Type 0 where
  pub laid : HoldsMany booking_bytes read_booking n l
  pub rules : all (booking_passes (read_many read_booking n l).value) n ≡ true

-- ---- the polls

-- the rules of a poll, where the bits set are the numbers polled before
abbrev pub poll_test : ℕ → List ℕ → DayPoll → Bool
poll_test most seen q = not (eqb q.booking 0) && leb q.booking most && not (bit_at seen q.booking)

pub record PollGood (most : ℕ) (seen l : List ℕ) : Type 0 where
  pub laid : Holds poll_bytes read_poll l
  pub rules : poll_test most seen (read_poll l).value ≡ true

-- the section, with nothing behind it
pub record PollsGood (most : ℕ) (l : List ℕ) : Type 0 where
  pub laid : l ≡ polls_section (read_counted read_poll l).value
  pub rules : all (poll_passes most (read_counted read_poll l).value) (length (read_counted read_poll l).value) ≡ true
