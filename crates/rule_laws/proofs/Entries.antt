-- The test of one slot's entry and the statement agree; whether the slot has bookings is judged by the records in both.
use mathlib.Core.Path.{◌≡◌}
use mathlib.Core.Bool.{Bool, true}
use mathlib.Core.List.{List, [], ◌∷◌}
use mathlib.Core.Logic.{◌≢◌}
use Prim.Native.Nat.{ℕ, ◌≤◌}
use native.Mathlib.Omega.{arith}
use native.Mathlib.Decide.{ℕ_discrete}
use lib.ListN.{get_or}
use lib.Dec.{ltb, leb, eqb}
use borrow.Author.Tests.{leb-true, ltb-true, le-leb, lt-ltb, eqb-true, eq-eqb, ne_eqb}
use Rattle.rules.specs.IsSound.{chits, bookings_of, is_booking_of, entry_empty, entry_held, slot_good}
use Rattle.rules.specs.Sound.{BookingOf, EmptyEntry, HeldEntry}
use Rattle.rules.specs.Layout.{none, bookings, slot_of, preferred_in, last_in, counter_in, held_in}
use Rattle.loops.proofs.Bools.{row_at, row_by}

-- ---- a booking of the slot

abbrev booking_of_tests : List ℕ → ℕ → ℕ → List Bool
booking_of_tests w s i = ltb i (bookings w) ∷ eqb (slot_of w i) s ∷ []

pub is_booking_of→Booking_of : (w : List ℕ) (s i : ℕ) → is_booking_of w s i ≡ true → BookingOf w s i
is_booking_of→Booking_of w s i e =
    let passes : (k : ℕ) → get_or (booking_of_tests w s i) k true ≡ true = row_at (booking_of_tests w s i) e in
    record { below = ltb-true i (bookings w) (passes 0); slot = eqb-true (slot_of w i) s (passes 1) }

pub BookingOf→isBookingOf : (w : List ℕ) (s i : ℕ) → BookingOf w s i → is_booking_of w s i ≡ true
BookingOf→isBookingOf w s i b = row_by (booking_of_tests w s i) (lt-ltb _ _ b.below) (eq-eqb _ _ b.slot)

-- ---- an entry without bookings

abbrev empty_tests : List ℕ → ℕ → List Bool
empty_tests w s = eqb (preferred_in w s) none ∷ eqb (last_in w s) none ∷ eqb (counter_in w s) 0 ∷ eqb (held_in w s) 0 ∷ []

entry_empty→Empty_entry : (w : List ℕ) (s : ℕ) → entry_empty w s ≡ true → EmptyEntry w s
entry_empty→Empty_entry w s e =
    let passes : (k : ℕ) → get_or (empty_tests w s) k true ≡ true = row_at (empty_tests w s) e in
    record {
      no_preferred = eqb-true (preferred_in w s) none (passes 0);
      no_last = eqb-true (last_in w s) none (passes 1);
      no_counter = eqb-true (counter_in w s) 0 (passes 2);
      none_held = eqb-true (held_in w s) 0 (passes 3);
    }

EmptyEntry→entryEmpty : (w : List ℕ) (s : ℕ) → EmptyEntry w s → entry_empty w s ≡ true
EmptyEntry→entryEmpty w s h =
    row_by (empty_tests w s) (eq-eqb _ _ h.no_preferred) (eq-eqb _ _ h.no_last) (eq-eqb _ _ h.no_counter) (eq-eqb _ _ h.none_held)

-- ---- an entry with bookings

abbrev held_tests : List ℕ → ℕ → List Bool
held_tests w s =
    eqb (held_in w s) (bookings_of w s) ∷ is_booking_of w s (preferred_in w s) ∷ is_booking_of w s (last_in w s) ∷ leb (counter_in w s) (chits w) ∷ []

entry_held→Held_entry : (w : List ℕ) (s : ℕ) → entry_held w s ≡ true → HeldEntry w s
entry_held→Held_entry w s e =
    let passes : (k : ℕ) → get_or (held_tests w s) k true ≡ true = row_at (held_tests w s) e in
    record {
      held = eqb-true (held_in w s) (bookings_of w s) (passes 0);
      preferred = is_booking_of→Booking_of w s (preferred_in w s) (passes 1);
      last = is_booking_of→Booking_of w s (last_in w s) (passes 2);
    }

HeldEntry→entryHeld : (w : List ℕ) (s : ℕ) → HeldEntry w s → counter_in w s ≤ chits w → entry_held w s ≡ true
HeldEntry→entryHeld w s h most =
    row_by (held_tests w s) (eq-eqb _ _ h.held) (BookingOf→isBookingOf w s (preferred_in w s) h.preferred)
    (BookingOf→isBookingOf w s (last_in w s) h.last) (le-leb _ _ most)

-- ---- the whole entry

module _ (w : List ℕ) (s : ℕ) (e : slot_good w s ≡ true) where
  pub slot_good→Empty_entry : bookings_of w s ≡ 0 → EmptyEntry w s
  unfolding slot_good
  slot_good→Empty_entry q = entry_empty→Empty_entry w s (rw (eq-eqb (bookings_of w s) 0 q) at e)

  slot_good→entry_held : bookings_of w s ≢ 0 → entry_held w s ≡ true
  unfolding slot_good
  slot_good→entry_held q = rw (ne_eqb (bookings_of w s) 0 q) at e

  pub slot_good→Held_entry : bookings_of w s ≢ 0 → HeldEntry w s
  slot_good→Held_entry q = entry_held→Held_entry w s (slot_good→entry_held q)

  pub slot_good→counter_most : counter_in w s ≤ chits w
  slot_good→counter_most = go (ℕ_discrete (bookings_of w s) 0)
    where
      go : Dec (bookings_of w s ≡ 0) → counter_in w s ≤ chits w
      go (yes q) = omega (arith, (slot_good→Empty_entry q).no_counter)
      go (no q) = leb-true (counter_in w s) (chits w) (row_at (held_tests w s) (slot_good→entry_held q) 3)

pub →slot_good : (w : List ℕ) (s : ℕ)
    → (bookings_of w s ≡ 0 → EmptyEntry w s)
    → (bookings_of w s ≢ 0 → HeldEntry w s)
    → counter_in w s ≤ chits w
    → slot_good w s ≡ true
unfolding slot_good
→slot_good w s empty held most = go (ℕ_discrete (bookings_of w s) 0)
  where
    go : Dec (bookings_of w s ≡ 0) → slot_good w s ≡ true
    go (yes q) = rw (eq-eqb (bookings_of w s) 0 q) (EmptyEntry→entryEmpty w s (empty q))
    go (no q) = rw (ne_eqb (bookings_of w s) 0 q) (HeldEntry→entryHeld w s (held q) most)
