-- CR 1, CR 5 and CR 7, as people read them: the rules of the header, of each record row and of each slot row. A row breaks a rule where these don't all hold of it.
-- rule_laws/proofs/RowRules.antt shows that the tests of IsSound.antt say the same, row by row.
use Rattle.std.specs.Prelude.{ℕ, ◌≤◌, ◌<◌, ◌≡◌, List, ◌≢◌}
use Rattle.terms.specs.Setting.{Good}
use Rattle.rules.specs.IsSound.{chits, bookings_of}
use Rattle.rules.specs.Sound.{EmptyEntry, HeldEntry, Booking}
use Rattle.rules.specs.Layout.{
  most_bookings,
  record_words,
  most_parents,
  none,
  header,
  field,
  bookings,
  setting_in,
  polls,
  spare_field,
  name_of,
  slot_of,
  parent_of,
  state_of,
  confidence_of,
  ordinal_of,
  mark_of,
  counter_in,
}

-- the header rules: the first bullet of document 01's soundness as CR 7 amends it, alone
pub record HeaderRules (w : List ℕ) : Type 0 where
  pub bookings_least : 1 ≤ bookings w
  pub bookings_most : bookings w ≤ most_bookings
  pub setting : Good (setting_in w)
  pub polls_most : polls w < bookings w
  pub spare_zero : header w spare_field ≡ 0

-- ---- record rows, by number from 0 to 512

-- the genesis
pub record Genesis (w : List ℕ) : Type 0 where
  pub name : name_of w 0 ≡ 0
  pub slot : slot_of w 0 ≡ 0
  pub parents : (a : ℕ) → a < most_parents → parent_of w 0 a ≡ none
  pub state : state_of w 0 ≡ 1
  pub ordinal : ordinal_of w 0 ≡ 0
  pub mark : mark_of w 0 ≡ 1

-- a record below n. Of several holders of a name, of an ordinal above 0, or of a mark in one slot, each but the lowest breaks the rule
pub record RulesBelow (w : List ℕ) (i : ℕ) : Type 0 where
  pub genesis : i ≡ 0 → Genesis w
  pub booking : 0 < i → Booking w i
  pub name_new : (j : ℕ) → j < i → name_of w j ≢ name_of w i
  pub ordinal_most : ordinal_of w i ≤ polls w
  pub ordinal_new : (j : ℕ) → j < i → ordinal_of w i ≢ 0 → ordinal_of w j ≢ ordinal_of w i
  pub mark_known : mark_of w i ≤ 1
  pub mark_new : (j : ℕ) → j < i → mark_of w i ≡ 1 → mark_of w j ≡ 1 → slot_of w j ≢ slot_of w i
  pub confidence_most : confidence_of w i ≤ chits w

-- a row from n on. A missing ordinal is charged to row n, which is 512 in a full ledger, where no record is
pub record RulesFrom (w : List ℕ) (i : ℕ) : Type 0 where
  pub zero : i < most_bookings → (f : ℕ) → f < record_words → field w i f ≡ 0
  pub ordinal_held : i ≡ bookings w → (o : ℕ) → 1 ≤ o → o ≤ polls w → (j : ℕ) × (j < bookings w) × (ordinal_of w j ≡ o)

pub record RecordRules (w : List ℕ) (i : ℕ) : Type 0 where
  pub below : i < bookings w → RulesBelow w i
  pub from : bookings w ≤ i → RulesFrom w i

-- ---- slot rows

pub record SlotRules (w : List ℕ) (s : ℕ) : Type 0 where
  pub empty : bookings_of w s ≡ 0 → EmptyEntry w s
  pub held : bookings_of w s ≢ 0 → HeldEntry w s
  pub counter_most : counter_in w s ≤ chits w
