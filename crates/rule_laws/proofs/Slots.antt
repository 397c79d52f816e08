-- On a sound workspace every booking has a record, and its slot has an entry with bookings, of which the preferred is one.
-- Assumes nothing.
use mathlib.Core.Path.{◌≡◌, refl}
use mathlib.Core.List.{List}
use mathlib.Core.Logic.{◌≢◌}
use Prim.Native.Nat.{ℕ, zero, suc, ◌<◌}
use native.Mathlib.Omega.{arith}
use lib.Dec.{eqb}
use borrow.Author.Tests.{eq-eqb}
use Rattle.loops.proofs.Total.{count_some}
use Rattle.rules.specs.Layout.{most_bookings, slots, bookings, slot_of, preferred_in}
use Rattle.rules.specs.IsSound.{bookings_of}
use Rattle.rules.specs.Sound.{Sound, HeldEntry}

-- ---- on any words

-- a slot without bookings is no booking's
pub slot_of_absent : (w : List ℕ) (s i : ℕ) → bookings_of w s ≡ 0 → i < bookings w → slot_of w i ≢ s
unfolding bookings_of
slot_of_absent w s i e below q = omega (arith, count_some (λ j. eqb (slot_of w j) s) (bookings w) i below (eq-eqb (slot_of w i) s q))

-- so a booking's slot has bookings
pub bookings_of_some : (w : List ℕ) (i : ℕ) → i < bookings w → bookings_of w (slot_of w i) ≢ 0
bookings_of_some w i below e = slot_of_absent w (slot_of w i) i e below refl

-- ---- on a sound workspace

module _ (w : List ℕ) (sound : Sound w) where
  pub booking_lt : (i : ℕ) → i < bookings w → i < most_bookings
  booking_lt i below = omega (arith, sound.bookings_most)

  pub slot_of_lt : (i : ℕ) → i < bookings w → slot_of w i < slots
  slot_of_lt zero below = omega (arith, sound.genesis_slot)
  slot_of_lt (suc i) below = (sound.booking (suc i) (omega arith) below).slot_most

  pub slot_held : (i : ℕ) → i < bookings w → HeldEntry w (slot_of w i)
  slot_held i below = sound.held_entry (slot_of w i) (slot_of_lt i below) (bookings_of_some w i below)

  pub preferred_in_lt : (i : ℕ) → i < bookings w → preferred_in w (slot_of w i) < bookings w
  preferred_in_lt i below = (slot_held i below).preferred.below
