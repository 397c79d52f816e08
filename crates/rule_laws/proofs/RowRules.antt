-- The test of a row and the rules of that row agree, both ways. Each rule is read off the test that it names.
use mathlib.Core.Path.{◌≡◌, ap}
use mathlib.Core.Bool.{Bool, true, ◌||◌, not}
use mathlib.Core.List.{List, [], ◌∷◌}
use Prim.Native.Nat.{ℕ, zero, suc, ◌+◌, ◌≤◌, ◌<◌}
use native.Mathlib.Decide.{dec_lt}
use native.Mathlib.Omega.{arith}
use lib.ListN.{get_or}
use lib.Dec.{ltb, leb, eqb}
use borrow.Author.Tests.{leb-true, leb-false, ltb-true, le-leb, lt-leb, lt-ltb, le-ltb, eqb-true, eqb-false, eq-eqb, ne_eqb, not-false}
use Rattle.loops.specs.Search.{any}
use Rattle.loops.proofs.Search.{first_le, all→, any→, →all, →any}
use Rattle.terms.specs.Setting.{is_good}
use Rattle.rules.specs.IsSound.{
  chits,
  header_good,
  genesis_good,
  booking_good,
  record_good,
  ordinals_held,
  record_zero,
  rest_good,
  record_row,
  record_rows,
  bad_record,
  slot_good,
  bad_slot,
}
use Rattle.rules.specs.RowRules.{HeaderRules, Genesis, RulesBelow, RulesFrom, RecordRules, SlotRules}
use Rattle.rules.specs.Layout.{
  most_bookings,
  slots,
  record_words,
  most_parents,
  none,
  header,
  field,
  bookings,
  setting_in,
  polls,
  spare_field,
  name_of,
  slot_of,
  parent_of,
  state_of,
  confidence_of,
  ordinal_of,
  mark_of,
}
use Rattle.loops.proofs.Bools.{row_at, row_by, and_left, and_right, and_both, or_right, or_else}
use Rattle.rule_laws.proofs.Good.{is_good→Good, Good→isGood}
use Rattle.rule_laws.proofs.Bookings.{
  new→differs,
  differs→new,
  at_place,
  state_good→ordinal_most,
  booking_good→name_new,
  booking_good→state_good,
  booking_good→ordinal_new,
  booking_good→Booking,
  Booking→bookingGood,
  booking_good→mark_good,
  mark_good→mark_known,
  mark_good→mark_new,
  →mark_good,
}
use Rattle.rule_laws.proofs.Entries.{slot_good→Empty_entry, slot_good→Held_entry, slot_good→counter_most, →slot_good}

-- ---- the header

abbrev header_tests : List ℕ → List Bool
header_tests w =
    leb 1 (bookings w) ∷ leb (bookings w) most_bookings ∷ is_good (setting_in w) ∷ ltb (polls w) (bookings w) ∷ eqb (header w spare_field) 0
    ∷ []

pub header_good→Rules : (w : List ℕ) → header_good w ≡ true → HeaderRules w
unfolding header_good
header_good→Rules w e =
    let passes : (k : ℕ) → get_or (header_tests w) k true ≡ true = row_at (header_tests w) e in
    record {
      bookings_least = leb-true 1 (bookings w) (passes 0);
      bookings_most = leb-true (bookings w) most_bookings (passes 1);
      setting = is_good→Good (setting_in w) (passes 2);
      polls_most = ltb-true (polls w) (bookings w) (passes 3);
      spare_zero = eqb-true (header w spare_field) 0 (passes 4);
    }

pub Rules→headerGood : (w : List ℕ) → HeaderRules w → header_good w ≡ true
unfolding header_good
Rules→headerGood w rules =
    row_by (header_tests w) (le-leb _ _ rules.bookings_least) (le-leb _ _ rules.bookings_most) (Good→isGood (setting_in w) rules.setting)
    (lt-ltb _ _ rules.polls_most) (eq-eqb _ _ rules.spare_zero)

-- ---- the genesis

abbrev genesis_tests : List ℕ → List Bool
genesis_tests w =
    eqb (name_of w 0) 0 ∷ eqb (slot_of w 0) 0 ∷ eqb (parent_of w 0 0) none ∷ eqb (parent_of w 0 1) none ∷ eqb (parent_of w 0 2) none
    ∷ eqb (parent_of w 0 3) none ∷ eqb (state_of w 0) 1 ∷ eqb (ordinal_of w 0) 0 ∷ eqb (mark_of w 0) 1
    ∷ []

genesis_good→Genesis : (w : List ℕ) → genesis_good w ≡ true → Genesis w
unfolding genesis_good
genesis_good→Genesis w e =
    let passes : (k : ℕ) → get_or (genesis_tests w) k true ≡ true = row_at (genesis_tests w) e in
    record {
      name = eqb-true (name_of w 0) 0 (passes 0);
      slot = eqb-true (slot_of w 0) 0 (passes 1);
      parents =
          at_place (λ a. parent_of w 0 a ≡ none) (eqb-true (parent_of w 0 0) none (passes 2)) (eqb-true (parent_of w 0 1) none (passes 3))
          (eqb-true (parent_of w 0 2) none (passes 4)) (eqb-true (parent_of w 0 3) none (passes 5));
      state = eqb-true (state_of w 0) 1 (passes 6);
      ordinal = eqb-true (ordinal_of w 0) 0 (passes 7);
      mark = eqb-true (mark_of w 0) 1 (passes 8);
    }

Genesis→genesisGood : (w : List ℕ) → Genesis w → genesis_good w ≡ true
unfolding genesis_good
Genesis→genesisGood w g =
    let unused : (a : ℕ) → a < most_parents → eqb (parent_of w 0 a) none ≡ true = λ a u. eq-eqb _ _ (g.parents a u) in
    row_by (genesis_tests w) (eq-eqb _ _ g.name) (eq-eqb _ _ g.slot) (unused 0 (omega arith)) (unused 1 (omega arith))
    (unused 2 (omega arith)) (unused 3 (omega arith)) (eq-eqb _ _ g.state) (eq-eqb _ _ g.ordinal) (eq-eqb _ _ g.mark)

-- ---- a record below n

record_good→Rules : (w : List ℕ) (i : ℕ) → record_good w i ≡ true → RulesBelow w i
record_good→Rules w zero e =
    let genesis = genesis_good→Genesis w (and_left (genesis_good w) (leb (confidence_of w 0) (chits w)) e) in
    record {
      genesis = λ z. genesis;
      booking = λ l. absurd (omega arith);
      name_new = λ j l. absurd (omega arith);
      ordinal_most = omega (arith, genesis.ordinal);
      ordinal_new = λ j l. absurd (omega arith);
      mark_known = omega (arith, genesis.mark);
      mark_new = λ j l. absurd (omega arith);
      confidence_most = leb-true (confidence_of w 0) (chits w) (and_right (genesis_good w) _ e);
    }
record_good→Rules w (suc i) e =
    let both = rw (ne_eqb (suc i) 0 (omega arith)) at e in
    let good = and_left (booking_good w (suc i)) (leb (confidence_of w (suc i)) (chits w)) both in
    record {
      genesis = λ z. absurd (omega arith);
      booking = λ l. booking_good→Booking w (suc i) good;
      name_new = new→differs (name_of w) (suc i) (booking_good→name_new w (suc i) good);
      ordinal_most = state_good→ordinal_most w (suc i) (booking_good→state_good w (suc i) good);
      ordinal_new = λ j l q. new→differs (ordinal_of w) (suc i) (or_right _ _ (booking_good→ordinal_new w (suc i) good) (ne_eqb (ordinal_of w (suc i)) 0 q)) j l;
      mark_known = mark_good→mark_known w (suc i) (booking_good→mark_good w (suc i) good);
      mark_new = mark_good→mark_new w (suc i) (booking_good→mark_good w (suc i) good);
      confidence_most = leb-true (confidence_of w (suc i)) (chits w) (and_right (booking_good w (suc i)) _ both);
    }

Rules→recordGood : (w : List ℕ) (i : ℕ) → RulesBelow w i → record_good w i ≡ true
Rules→recordGood w zero rules = and_both _ _ (Genesis→genesisGood w (rules.genesis (omega arith))) (le-leb _ _ rules.confidence_most)
Rules→recordGood w (suc i) rules =
    let new = differs→new (name_of w) (suc i) rules.name_new in
    let once = or_else _ _ (λ t. differs→new (ordinal_of w) (suc i) (λ j l. rules.ordinal_new j l (eqb-false _ _ t))) in
    rw (ne_eqb (suc i) 0 (omega arith))
    (and_both _ _ (Booking→bookingGood w (suc i) (rules.booking (omega arith)) rules.ordinal_most new once (→mark_good w (suc i) rules.mark_known rules.mark_new)) (le-leb _ _ rules.confidence_most))

-- ---- a row from n on

-- ordinal o + 1 is held
abbrev is_held : List ℕ → ℕ → Bool
is_held w o = any (λ i. eqb (ordinal_of w i) (o + 1)) (bookings w)

rest_good→Rules : (w : List ℕ) (i : ℕ) → rest_good w i ≡ true → RulesFrom w i
rest_good→Rules w i e =
    record {
      zero = λ u f v.
          let zeros = or_right (leb most_bookings i) (record_zero w i) (and_left (leb most_bookings i || record_zero w i) _ e) (lt-leb most_bookings i u) in
          eqb-true (field w i f) 0 (all→ (λ f. eqb (field w i f) 0) record_words zeros f v);
      ordinal_held = λ here. held (or_right (not (eqb i (bookings w))) (ordinals_held w) (and_right (leb most_bookings i || record_zero w i) _ e) (ap not (eq-eqb i (bookings w) here)));
    }
  where
    held : ordinals_held w ≡ true → (o : ℕ) → 1 ≤ o → o ≤ polls w → (j : ℕ) × (j < bookings w) × (ordinal_of w j ≡ o)
    held h zero l u = absurd (omega arith)
    held h (suc o) l u =
        let found = any→ (λ i. eqb (ordinal_of w i) (o + 1)) (bookings w) (all→ (is_held w) (polls w) h o u) in
        (found.0, found.1, omega (arith, eqb-true (ordinal_of w found.0) (o + 1) found.2))

Rules→restGood : (w : List ℕ) (i : ℕ) → RulesFrom w i → rest_good w i ≡ true
Rules→restGood w i rules =
    and_both _ _
    (or_else _ _ (λ t. →all (λ f. eqb (field w i f) 0) record_words (λ f v. eq-eqb _ _ (rules.zero (leb-false most_bookings i t) f v))))
    (or_else _ _ (λ t. →all (is_held w) (polls w) (λ o u. held (eqb-true i (bookings w) (not-false _ t)) o u)))
  where
    held : i ≡ bookings w → (o : ℕ) → o < polls w → is_held w o ≡ true
    held here o u =
        let holder = rules.ordinal_held here (o + 1) (omega arith) (omega arith) in
        →any (λ i. eqb (ordinal_of w i) (o + 1)) (bookings w) holder.0 holder.1 (eq-eqb _ _ holder.2)

-- ---- a record row

pub record_row→Rules : (w : List ℕ) (i : ℕ) → record_row w i ≡ true → RecordRules w i
record_row→Rules w i e =
    record {
      below = λ l. record_good→Rules w i (rw (lt-ltb i (bookings w) l) at e);
      from = λ l. rest_good→Rules w i (rw (le-ltb i (bookings w) l) at e);
    }

pub Rules→recordRow : (w : List ℕ) (i : ℕ) → RecordRules w i → record_row w i ≡ true
Rules→recordRow w i rules = go (dec_lt i (bookings w))
  where
    go : Dec (i < bookings w) → record_row w i ≡ true
    go (yes l) = rw (lt-ltb i (bookings w) l) (Rules→recordGood w i (rules.below l))
    go (no h) = rw (le-ltb i (bookings w) (omega arith)) (Rules→restGood w i (rules.from (omega arith)))

-- ---- a slot row

pub slot_good→Rules : (w : List ℕ) (s : ℕ) → slot_good w s ≡ true → SlotRules w s
slot_good→Rules w s e = record { empty = slot_good→Empty_entry w s e; held = slot_good→Held_entry w s e; counter_most = slot_good→counter_most w s e }

pub Rules→slotGood : (w : List ℕ) (s : ℕ) → SlotRules w s → slot_good w s ≡ true
Rules→slotGood w s rules = →slot_good w s rules.empty rules.held rules.counter_most

-- ---- no search goes past the rows

pub bad_record_most : (w : List ℕ) → bad_record w ≤ record_rows
unfolding bad_record
bad_record_most w = first_le (λ i. not (record_row w i)) record_rows

pub bad_slot_most : (w : List ℕ) → bad_slot w ≤ slots
unfolding bad_slot
bad_slot_most w = first_le (λ s. not (slot_good w s)) slots
