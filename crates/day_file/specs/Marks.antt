-- CR 9: the marks that a second-form file brings along: when they are good, and the words with these marks in place of their own.
use Rattle.std.specs.Prelude.{ℕ, ◌+◌, ◌-◌, ◌<◌, ◌≡◌, Bool, false, ◌&&◌, not, List, [], ◌∷◌, ◌≢◌, length, get_or, eqb, ltb}
use Rattle.loops.specs.Search.{all, any}
use Rattle.loops.specs.Turns.{up_to}
use Rattle.rules.specs.Layout.{bookings, mark_field, with_field}
use Rattle.day_file.specs.Day.{DayBooking, slot_in}

-- ---- good marks. Nobody asks for the votes behind them

-- each is above the one before it
abbrev pub is_rising : List ℕ → Bool
is_rising marks = all (λ a. ltb (get_or marks a 0) (get_or marks (a + 1) 0)) (length marks - 1)

-- the first is the genesis, so there is a first
abbrev pub starts_with_genesis : List ℕ → Bool
starts_with_genesis [] = false
starts_with_genesis (m ∷ ms) = eqb m 0

-- each is below n
abbrev pub are_below : ℕ → List ℕ → Bool
are_below n marks = all (λ a. ltb (get_or marks a 0) n) (length marks)

-- a mark before mark b is of its slot
abbrev pub slot_marked : List DayBooking → List ℕ → ℕ → Bool
slot_marked bs marks b = any (λ a. eqb (slot_in bs (get_or marks a 0)) (slot_in bs (get_or marks b 0))) b

-- no two are of one slot
abbrev pub slots_differ : List DayBooking → List ℕ → Bool
slots_differ bs marks = all (λ b. not (slot_marked bs marks b)) (length marks)

-- the bookings come without the genesis, so n is one more
unfoldable pub marks_good : List DayBooking → List ℕ → Bool
marks_good bs marks = is_rising marks && starts_with_genesis marks && are_below (length bs + 1) marks && slots_differ bs marks

-- the same as people read it (proofs/Remarked.antt)
pub record MarksRight (bs : List DayBooking) (marks : List ℕ) : Type 0 where
  pub some : 0 < length marks
  pub genesis : get_or marks 0 0 ≡ 0
  pub rising : (a b : ℕ) → a < b → b < length marks → get_or marks a 0 < get_or marks b 0
  pub below : (a : ℕ) → a < length marks → get_or marks a 0 < length bs + 1
  pub apart : (a b : ℕ) → a < b → b < length marks → slot_in bs (get_or marks a 0) ≢ slot_in bs (get_or marks b 0)

-- ---- words with other marks

-- booking i has none
abbrev pub unmark : ℕ → List ℕ → List ℕ
unmark i w = with_field w i mark_field 0

-- nor has any below n
abbrev pub unmarked_below : ℕ → List ℕ → List ℕ
unmarked_below n w = up_to unmark n w

-- nor any booking
abbrev pub unmarked : List ℕ → List ℕ
unmarked w = unmarked_below (bookings w) w

-- the booking that is number a of these has one
abbrev pub mark_again : List ℕ → ℕ → List ℕ → List ℕ
mark_again marks a w = with_field w (get_or marks a 0) mark_field 1

-- and so have the first of them, so many
abbrev pub marked_again : List ℕ → ℕ → List ℕ → List ℕ
marked_again marks n w = up_to (mark_again marks) n w

-- each of these has one, and nobody else
unfoldable pub remarked : List ℕ → List ℕ → List ℕ
remarked marks w = marked_again marks (length marks) (unmarked w)
