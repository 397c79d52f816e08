-- Document 01, "A workspace is sound exactly if", CR 5 and CR 7: a named field for each thing that must hold, in its order.
-- This is the form that people and promises read; rule_laws/proofs/Sound.antt shows that it says what the test of IsSound.antt says.
use Rattle.std.specs.Prelude.{ℕ, ◌≤◌, ◌<◌, ◌≡◌, List, ◌≢◌, ◌↔◌, length}
use Rattle.terms.specs.Setting.{Good}
use Rattle.rules.specs.IsSound.{chits, bookings_of}
use Rattle.rules.specs.Layout.{
  size,
  most_bookings,
  slots,
  record_words,
  most_parents,
  none,
  header,
  field,
  bookings,
  setting_in,
  polls,
  spare_field,
  name_of,
  slot_of,
  parent_of,
  state_of,
  confidence_of,
  ordinal_of,
  mark_of,
  preferred_in,
  last_in,
  counter_in,
  held_in,
}

-- i is a booking of slot s
pub record BookingOf (w : List ℕ) (s i : ℕ) : Type 0 where
  pub below : i < bookings w
  pub slot : slot_of w i ≡ s

-- a slot entry without bookings
pub record EmptyEntry (w : List ℕ) (s : ℕ) : Type 0 where
  pub no_preferred : preferred_in w s ≡ none
  pub no_last : last_in w s ≡ none
  pub no_counter : counter_in w s ≡ 0
  pub none_held : held_in w s ≡ 0

-- a slot entry with bookings
pub record HeldEntry (w : List ℕ) (s : ℕ) : Type 0 where
  pub held : held_in w s ≡ bookings_of w s
  pub preferred : BookingOf w s (preferred_in w s)
  pub last : BookingOf w s (last_in w s)

-- a record below n other than the genesis
pub record Booking (w : List ℕ) (i : ℕ) : Type 0 where
  pub slot_least : 1 ≤ slot_of w i
  pub slot_most : slot_of w i < slots
  pub parent_some : (a : ℕ) × (a < most_parents) × (parent_of w i a ≢ none)
  pub unused_after : (a b : ℕ) → a < b → b < most_parents → parent_of w i a ≡ none → parent_of w i b ≡ none
  pub parents_distinct : (a b : ℕ) → a < b → b < most_parents → parent_of w i b ≢ none → parent_of w i a ≢ parent_of w i b
  pub parents_lower : (a : ℕ) → a < most_parents → parent_of w i a ≢ none → parent_of w i a < i
  pub state_known : state_of w i ≤ 2
  pub ordinal_waiting : (ordinal_of w i ≡ 0) ↔ (state_of w i ≡ 0)

pub record Sound (w : List ℕ) : Type 0 where
  -- the header
  pub bookings_least : 1 ≤ bookings w
  pub bookings_most : bookings w ≤ most_bookings
  pub setting : Good (setting_in w)
  pub polls_most : polls w < bookings w
  pub spare_zero : header w spare_field ≡ 0
  -- the genesis
  pub genesis_name : name_of w 0 ≡ 0
  pub genesis_slot : slot_of w 0 ≡ 0
  pub genesis_parents : (a : ℕ) → a < most_parents → parent_of w 0 a ≡ none
  pub genesis_state : state_of w 0 ≡ 1
  pub genesis_ordinal : ordinal_of w 0 ≡ 0
  pub genesis_mark : mark_of w 0 ≡ 1
  -- records below n
  pub name_alone : (i j : ℕ) → i < bookings w → j < bookings w → i ≢ j → name_of w i ≢ name_of w j
  pub booking : (i : ℕ) → 0 < i → i < bookings w → Booking w i
  pub ordinal_most : (i : ℕ) → i < bookings w → ordinal_of w i ≤ polls w
  pub ordinal_held : (o : ℕ) → 1 ≤ o → o ≤ polls w → (i : ℕ) × (i < bookings w) × (ordinal_of w i ≡ o)
  pub ordinal_alone : (i j : ℕ) → i < bookings w → j < bookings w → i ≢ j → ordinal_of w i ≢ 0 → ordinal_of w i ≢ ordinal_of w j
  -- a mark is 0 or 1, and each slot has at most one
  pub mark_known : (i : ℕ) → i < bookings w → mark_of w i ≤ 1
  pub mark_alone : (i j : ℕ) → i < bookings w → j < bookings w → i ≢ j → mark_of w i ≡ 1 → mark_of w j ≡ 1 → slot_of w i ≢ slot_of w j
  -- records from n on
  pub rest_zero : (i f : ℕ) → bookings w ≤ i → i < most_bookings → f < record_words → field w i f ≡ 0
  -- slot entries
  pub empty_entry : (s : ℕ) → s < slots → bookings_of w s ≡ 0 → EmptyEntry w s
  pub held_entry : (s : ℕ) → s < slots → bookings_of w s ≢ 0 → HeldEntry w s
  -- no confidence and no counter exceeds the number of records below n in state 2
  pub confidence_most : (i : ℕ) → i < bookings w → confidence_of w i ≤ chits w
  pub counter_most : (s : ℕ) → s < slots → counter_in w s ≤ chits w

-- a workspace of the right length that is sound: what every call that has refusals 1, 2, 14 and 15 works on once they are past
pub record Ledger (w : List ℕ) : Type 0 where
  pub whole : length w ≡ size
  pub sound : Sound w
