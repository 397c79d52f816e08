-- When every call of a day's replay is taken, told by the day alone. These are no rules of their own: promises/proofs/Replayed.antt shows that the calls of
-- the law are taken exactly if they hold.
use Rattle.std.specs.Prelude.{ℕ, ◌+◌, Bool, ◌&&◌, not, List, length, get_or, eqb, ltb, leb}
use Rattle.loops.specs.Search.{all, any}
use Rattle.terms.specs.Setting.{is_good}
use Rattle.rules.specs.Layout.{most_bookings}
use Rattle.rules.specs.Book.{has_twice}
use Rattle.rules.specs.Calls.{is_bad_slot, is_bad_count}
use Rattle.day_file.specs.Day.{DayBooking, DayPoll, Day, booking_in, name_in, polled_in}

-- no lower number has the name of the booking after j others
abbrev pub name_free : List DayBooking → ℕ → Bool
name_free bs j = not (any (λ i. eqb (name_in bs i) (booking_in bs j).name) (j + 1))

-- each parent is a lower number
abbrev pub lower_only : ℕ → List ℕ → Bool
lower_only j parents = all (λ a. ltb (get_or parents a 0) (j + 1)) (length parents)

unfoldable pub booking_passes : List DayBooking → ℕ → Bool
booking_passes bs j =
    let b = booking_in bs j in
    name_free bs j && not (is_bad_slot b.slot) && not (is_bad_count (length b.parents)) && lower_only j b.parents
    && not (has_twice b.parents) && ltb (j + 1) most_bookings

-- it is a booking other than the genesis, and no earlier poll is of it
unfoldable pub poll_passes : ℕ → List DayPoll → ℕ → Bool
poll_passes most qs q = not (eqb (polled_in qs q) 0) && leb (polled_in qs q) most && not (any (λ r. eqb (polled_in qs r) (polled_in qs q)) q)

unfoldable pub day_good : Day → Bool
day_good d =
    is_good d.setting && all (booking_passes d.bookings) (length d.bookings)
    && all (poll_passes (length d.bookings) d.polls) (length d.polls)
