-- CR 2, CR 7 and CR 9: the bytes of a day. Three sections, in the second form four, each after its count; numbers in two bytes, names in eight, high byte first.
use Rattle.std.specs.Prelude.{ℕ, zero, suc, ◌/◌, ◌%◌, ◌^◌, List, [], ◌∷◌, ◌++◌, length}
use Rattle.loops.specs.Total.{bit}
use Rattle.terms.specs.declared.setting.Setting.{Setting}
use Rattle.terms.specs.Setting.{setting_numbers}
use Rattle.terms.specs.declared.form.Form.{Form}
use Rattle.terms.specs.declared.form.Form.TheVariants.{First, Second}
use Rattle.day_file.specs.Day.{DayBooking, DayPoll, Day, MarkedDay, day_of, marked_day_of}

-- the lowest bytes of a number, so many of them, high byte first
unfoldable pub high_first : ℕ → ℕ → List ℕ
high_first zero n = []
high_first (suc b) n = n / 256 ^ b % 256 ∷ high_first b n

abbrev pub number_bytes : ℕ → List ℕ
number_bytes n = high_first 2 n

abbrev pub name_bytes : ℕ → List ℕ
name_bytes name = high_first 8 name

-- the bytes of each, one after the other
unfoldable pub joined : {A : Type 0} → (A → List ℕ) → List A → List ℕ
joined bytes [] = []
joined bytes (x ∷ xs) = bytes x ++ joined bytes xs

-- how many there are, and then each
abbrev pub counted : {A : Type 0} → (A → List ℕ) → List A → List ℕ
counted bytes xs = number_bytes (length xs) ++ joined bytes xs

-- ---- the sections

-- first: count 4, then k, a, β1, β2; in edition 1 count 5, and the edition behind them
abbrev pub setting_section : Setting → List ℕ
setting_section s = counted number_bytes (setting_numbers s)

-- a booking: its name, slot, count of parents and parents' numbers
abbrev pub booking_bytes : DayBooking → List ℕ
booking_bytes b = name_bytes b.name ++ number_bytes b.slot ++ counted number_bytes b.parents

-- second: n − 1, then each booking from number 1
abbrev pub bookings_section : List DayBooking → List ℕ
bookings_section = counted booking_bytes

-- a poll: the booking's number, and 1 for success or 0
abbrev pub poll_bytes : DayPoll → List ℕ
poll_bytes q = number_bytes q.booking ++ number_bytes (bit q.success)

-- third: p, then each poll in ordinal order
abbrev pub polls_section : List DayPoll → List ℕ
polls_section = counted poll_bytes

-- the three in their order
unfoldable pub encode : Day → List ℕ
encode d = setting_section d.setting ++ bookings_section d.bookings ++ polls_section d.polls

-- fourth: how many bookings are marked, then their numbers
abbrev pub marks_section : List ℕ → List ℕ
marks_section = counted number_bytes

-- behind the three
abbrev pub encode_marked : MarkedDay → List ℕ
encode_marked m = encode m.day ++ marks_section m.marks

-- ---- the file of the day that words hold

-- in the first form
abbrev pub day_file : List ℕ → List ℕ
day_file w = encode (day_of w)

-- in either form
abbrev pub file_of : Form → List ℕ → List ℕ
file_of First w = day_file w
file_of Second w = encode_marked (marked_day_of w)
