-- CR 4, CR 7 and CR 9: the day that bytes are read as. A reader takes what it needs off the front and leaves the bytes that follow; where bytes are missing it reads
-- zeros. So every list of bytes is read as some day. Whether it is the file of that day is asked by writing the day again (Replay.antt).
use Rattle.std.specs.Prelude.{ℕ, zero, suc, ◌+◌, ◌*◌, ◌^◌, List, [], ◌∷◌, get_or, drop, eqb}
use Rattle.terms.specs.declared.setting.Setting.{Setting}
use Rattle.terms.specs.Setting.{setting_of}
use Rattle.day_file.specs.Day.{DayBooking, DayPoll, Day, MarkedDay}

-- what was read, and the bytes behind it
pub record Read (A : Type 0) : Type 0 where
  pub value : A
  pub rest : List ℕ

-- the number that so many bytes are, high byte first
unfoldable pub value_of : ℕ → List ℕ → ℕ
value_of zero bytes = 0
value_of (suc b) bytes = get_or bytes 0 0 * 256 ^ b + value_of b (drop 1 bytes)

-- a number of so many bytes, off the front
abbrev pub read_bytes : ℕ → List ℕ → Read ℕ
read_bytes b bytes = record { value = value_of b bytes; rest = drop b bytes }

abbrev pub read_number : List ℕ → Read ℕ
read_number = read_bytes 2

abbrev pub read_name : List ℕ → Read ℕ
read_name = read_bytes 8

-- so many, one after the other
unfoldable pub read_many : {A : Type 0} → (List ℕ → Read A) → ℕ → List ℕ → Read (List A)
read_many read zero bytes = record { value = []; rest = bytes }
read_many read (suc n) bytes =
    let one = read bytes in
    let others = read_many read n one.rest in
    record { value = one.value ∷ others.value; rest = others.rest }

-- as many as the count before them says
abbrev pub read_counted : {A : Type 0} → (List ℕ → Read A) → List ℕ → Read (List A)
read_counted read bytes = let count = read_number bytes in read_many read count.value count.rest

-- ---- the sections

-- as many numbers as the count says: k, a, β1, β2 and the edition, which is 0 where no fifth stands. The day is written with these bytes only if the count
-- is 4, or 5 before an edition that isn't 0
abbrev pub read_setting : List ℕ → Read Setting
read_setting bytes =
    let numbers = read_counted read_number bytes in
    let number : ℕ → ℕ = λ j. get_or numbers.value j 0 in
    record { value = setting_of (number 0) (number 1) (number 2) (number 3) (number 4); rest = numbers.rest }

-- name, slot, parents' numbers
abbrev pub read_booking : List ℕ → Read DayBooking
read_booking bytes =
    let name = read_name bytes in
    let slot = read_number name.rest in
    let parents = read_counted read_number slot.rest in
    record { value = record { name = name.value; slot = slot.value; parents = parents.value }; rest = parents.rest }

-- the booking's number, and 1 for success. Anything else is read as a failure, and written again as 0
abbrev pub read_poll : List ℕ → Read DayPoll
read_poll bytes =
    let booking = read_number bytes in
    let outcome = read_number booking.rest in
    record { value = record { booking = booking.value; success = eqb outcome.value 1 }; rest = outcome.rest }

-- the three in their order
abbrev pub read_day : List ℕ → Read Day
read_day file =
    let setting = read_setting file in
    let bookings = read_counted read_booking setting.rest in
    let polls = read_counted read_poll bookings.rest in
    record { value = record { setting = setting.value; bookings = bookings.value; polls = polls.value }; rest = polls.rest }

unfoldable pub decode : List ℕ → Day
decode file = (read_day file).value

-- what stands behind the three
unfoldable pub behind_day : List ℕ → List ℕ
behind_day file = (read_day file).rest

-- the marks that the fourth section is read as
abbrev pub marks_in : (section : List ℕ) → List ℕ
marks_in section = (read_counted read_number section).value

-- in the second form
abbrev pub decode_marked : List ℕ → MarkedDay
decode_marked file = record { day = decode file; marks = marks_in (behind_day file) }
