-- Document 01, "A workspace is sound exactly if", CR 1, CR 5 and CR 7: the test, by rows. There is the header, a row for each record number from 0 to 512,
-- and a row for each slot; a workspace is sound where none of them breaks a rule. Sound.antt says the same sentence by sentence.
use Rattle.std.specs.Prelude.{ℕ, suc, ◌+◌, Bool, ◌&&◌, ◌||◌, not, cond, List, ltb, leb, eqb}
use Rattle.loops.specs.Search.{first, all, any}
use Rattle.loops.specs.Total.{count}
use Rattle.terms.specs.Setting.{is_good}
use Rattle.rules.specs.Layout.{
  most_bookings,
  slots,
  record_words,
  none,
  header,
  field,
  bookings,
  setting_in,
  polls,
  spare_field,
  name_of,
  slot_of,
  parent_of,
  state_of,
  confidence_of,
  ordinal_of,
  mark_of,
  is_marked,
  preferred_in,
  last_in,
  counter_in,
  held_in,
}

-- how many records below n are in state 2
unfoldable pub chits : List ℕ → ℕ
chits w = count (λ i. eqb (state_of w i) 2) (bookings w)

-- how many records below n have slot s
unfoldable pub bookings_of : List ℕ → ℕ → ℕ
bookings_of w s = count (λ i. eqb (slot_of w i) s) (bookings w)

-- ---- the header

-- n is 1 to 512, the setting is good, its edition too, p ≤ n − 1, the last header word is 0
unfoldable pub header_good : List ℕ → Bool
header_good w =
    leb 1 (bookings w) && leb (bookings w) most_bookings && is_good (setting_in w) && ltb (polls w) (bookings w) && eqb (header w spare_field) 0

-- ---- record rows

-- name 0, slot 0, no parents, state 1, ordinal 0, marked
unfoldable pub genesis_good : List ℕ → Bool
genesis_good w =
    eqb (name_of w 0) 0 && eqb (slot_of w 0) 0 && eqb (parent_of w 0 0) none && eqb (parent_of w 0 1) none && eqb (parent_of w 0 2) none
    && eqb (parent_of w 0 3) none && eqb (state_of w 0) 1 && eqb (ordinal_of w 0) 0 && eqb (mark_of w 0) 1

-- a name that no lower record has: of two with one name the higher breaks the rule
abbrev pub name_new : List ℕ → ℕ → Bool
name_new w i = not (any (λ j. eqb (name_of w j) (name_of w i)) i)

-- a place that is used holds a number below i that no earlier place holds
abbrev pub parent_good : List ℕ → ℕ → ℕ → Bool
parent_good w i a = eqb (parent_of w i a) none || (ltb (parent_of w i a) i && not (any (λ b. eqb (parent_of w i b) (parent_of w i a)) a))

-- at least one parent, unused places after used ones, parents distinct and below its own number
unfoldable pub parents_good : List ℕ → ℕ → Bool
parents_good w i =
    not (eqb (parent_of w i 0) none)
    && (not (eqb (parent_of w i 1) none) || eqb (parent_of w i 2) none)
    && (not (eqb (parent_of w i 2) none) || eqb (parent_of w i 3) none)
    && parent_good w i 0 && parent_good w i 1 && parent_good w i 2 && parent_good w i 3

-- 0, or an ordinal that no lower record has
abbrev pub ordinal_new : List ℕ → ℕ → Bool
ordinal_new w i = eqb (ordinal_of w i) 0 || not (any (λ j. eqb (ordinal_of w j) (ordinal_of w i)) i)

-- state 0, 1 or 2, ordinal 0 exactly if the state is 0, and no more than p
unfoldable pub state_good : List ℕ → ℕ → Bool
state_good w i =
    leb (state_of w i) 2 && cond (eqb (state_of w i) 0) (eqb (ordinal_of w i) 0) (not (eqb (ordinal_of w i) 0)) && leb (ordinal_of w i) (polls w)

-- no mark, or one in a slot where no lower record has one: of several marked in a slot each but the lowest breaks the rule
abbrev pub mark_new : List ℕ → ℕ → Bool
mark_new w i = not (is_marked w i) || not (any (λ j. is_marked w j && eqb (slot_of w j) (slot_of w i)) i)

-- a mark is 0 or 1, and each slot has at most one
unfoldable pub mark_good : List ℕ → ℕ → Bool
mark_good w i = leb (mark_of w i) 1 && mark_new w i

-- a record below n other than the genesis
unfoldable pub booking_good : List ℕ → ℕ → Bool
booking_good w i = name_new w i && leb 1 (slot_of w i) && ltb (slot_of w i) slots && parents_good w i && state_good w i && ordinal_new w i && mark_good w i

-- a record below n
abbrev pub record_good : List ℕ → ℕ → Bool
record_good w i = cond (eqb i 0) (genesis_good w) (booking_good w i) && leb (confidence_of w i) (chits w)

-- each ordinal from 1 to p is held
abbrev pub ordinals_held : List ℕ → Bool
ordinals_held w = all (λ o. any (λ i. eqb (ordinal_of w i) (o + 1)) (bookings w)) (polls w)

abbrev pub record_zero : List ℕ → ℕ → Bool
record_zero w i = all (λ f. eqb (field w i f) 0) record_words

-- a row from n on: a record there is all zero, and a missing ordinal is charged to row n. Row 512 has no record: n may be 512
abbrev pub rest_good : List ℕ → ℕ → Bool
rest_good w i = (leb most_bookings i || record_zero w i) && (not (eqb i (bookings w)) || ordinals_held w)

-- row i keeps its rules
abbrev pub record_row : List ℕ → ℕ → Bool
record_row w i = cond (ltb i (bookings w)) (record_good w i) (rest_good w i)

-- numbers 0 to 512
abbrev pub record_rows : ℕ
record_rows = suc most_bookings

-- the lowest row that breaks a rule, or 513
unfoldable pub bad_record : List ℕ → ℕ
bad_record w = first (λ i. not (record_row w i)) record_rows

-- ---- slot rows

-- i is a booking of slot s
abbrev pub is_booking_of : List ℕ → ℕ → ℕ → Bool
is_booking_of w s i = ltb i (bookings w) && eqb (slot_of w i) s

abbrev pub entry_empty : List ℕ → ℕ → Bool
entry_empty w s = eqb (preferred_in w s) none && eqb (last_in w s) none && eqb (counter_in w s) 0 && eqb (held_in w s) 0

abbrev pub entry_held : List ℕ → ℕ → Bool
entry_held w s =
    eqb (held_in w s) (bookings_of w s) && is_booking_of w s (preferred_in w s) && is_booking_of w s (last_in w s) && leb (counter_in w s) (chits w)

-- whether a slot has bookings is judged by the records
unfoldable pub slot_good : List ℕ → ℕ → Bool
slot_good w s = cond (eqb (bookings_of w s) 0) (entry_empty w s) (entry_held w s)

-- the lowest slot that breaks a rule, or 256
unfoldable pub bad_slot : List ℕ → ℕ
bad_slot w = first (λ s. not (slot_good w s)) slots

-- ---- the whole: neither the header nor a row breaks a rule

unfoldable pub is_sound : List ℕ → Bool
is_sound w = header_good w && all (record_row w) record_rows && all (slot_good w) slots
