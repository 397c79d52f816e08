-- CR 2: what a day file carries of a ledger, as a day: the setting, the bookings in the order of their numbers, the polls in the order of their ordinals.
-- CR 9: in its second form, the marks beside it.
use Rattle.std.specs.Prelude.{ℕ, zero, suc, ◌-◌, Bool, false, List, [], get_or, eqb}
use Rattle.loops.specs.Search.{first}
use Rattle.loops.specs.Fill.{from, chosen}
use Rattle.terms.specs.declared.setting.Setting.{Setting}
use Rattle.rules.specs.Layout.{most_parents, none, bookings, setting_in, polls, name_of, slot_of, parent_of, state_of, ordinal_of, is_marked}

-- a booking: its name, its slot, and its parents' numbers in the order given
pub record DayBooking : Type 0 where
  pub name : ℕ
  pub slot : ℕ
  pub parents : List ℕ

-- a poll: the number of its booking, and whether it succeeded
pub record DayPoll : Type 0 where
  pub booking : ℕ
  pub success : Bool

pub record Day : Type 0 where
  pub setting : Setting
  pub bookings : List DayBooking
  pub polls : List DayPoll

-- a day, and the numbers of its marked bookings
pub record MarkedDay : Type 0 where
  pub day : Day
  pub marks : List ℕ

-- ---- the rows of a day, by number

-- the booking after j others, which has number j + 1
abbrev pub booking_in : List DayBooking → ℕ → DayBooking
booking_in bs j = get_or bs j (record { name = 0; slot = 0; parents = [] })

-- the name of number i: the genesis has 0
abbrev pub name_in : List DayBooking → ℕ → ℕ
name_in bs zero = 0
name_in bs (suc j) = (booking_in bs j).name

-- its slot: the genesis has 0
abbrev pub slot_in : List DayBooking → ℕ → ℕ
slot_in bs zero = 0
slot_in bs (suc j) = (booking_in bs j).slot

-- the poll after q others
abbrev pub poll_in : List DayPoll → ℕ → DayPoll
poll_in qs q = get_or qs q (record { booking = 0; success = false })

-- the number of its booking
abbrev pub polled_in : List DayPoll → ℕ → ℕ
polled_in qs q = (poll_in qs q).booking

-- whether it succeeded
abbrev pub succeeded_in : List DayPoll → ℕ → Bool
succeeded_in qs q = (poll_in qs q).success

-- ---- the day that words hold

-- how many parents booking i has: unused places stand after used ones
unfoldable pub parent_count : List ℕ → ℕ → ℕ
parent_count w i = first (λ a. eqb (parent_of w i a) none) most_parents

abbrev pub booking_at : List ℕ → ℕ → DayBooking
booking_at w i = record { name = name_of w i; slot = slot_of w i; parents = from (parent_of w i) 0 (parent_count w i) }

-- the number of the booking whose poll had the ordinal
unfoldable pub holder : List ℕ → ℕ → ℕ
holder w ordinal = first (λ i. eqb (ordinal_of w i) ordinal) (bookings w)

-- the poll of booking i: a chit, state 2, is a success
abbrev pub poll_of : List ℕ → ℕ → DayPoll
poll_of w i = record { booking = i; success = eqb (state_of w i) 2 }

-- bookings from number 1 on, without the genesis; polls from ordinal 1 to p
unfoldable pub day_of : List ℕ → Day
day_of w =
    record {
      setting = setting_in w;
      bookings = from (booking_at w) 1 (bookings w - 1);
      polls = from (λ ordinal. poll_of w (holder w ordinal)) 1 (polls w);
    }

-- the marked bookings in rising number, the genesis among them
unfoldable pub marks_of : List ℕ → List ℕ
marks_of w = chosen (is_marked w) (bookings w)

abbrev pub marked_day_of : List ℕ → MarkedDay
marked_day_of w = record { day = day_of w; marks = marks_of w }
