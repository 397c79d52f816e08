-- The slot entries after a taken booking. On a ledger a slot's own count is 0 exactly if the slot has no bookings,
-- so the rule's two cases are these: the booking is the slot's first, or the slot keeps all but its count.
use mathlib.Core.Path.{◌≡◌, refl, sym, ap, ◌∙◌}
use mathlib.Core.List.{List}
use mathlib.Core.Logic.{◌≢◌}
use Prim.Native.Nat.{ℕ, ◌+◌, ◌<◌, ◌≤◌}
use native.Mathlib.Omega.{arith}
use native.Mathlib.Decide.{ℕ_discrete}
use lib.ListN.{get_or}
use borrow.Author.Tests.{eq-eqb, ne_eqb}
use Rattle.loops.specs.Total.{bit}
use Rattle.rules.specs.Layout.{
  slots,
  slot_words,
  slot_field,
  preferred_field,
  last_field,
  counter_field,
  held_field,
  entry,
  bookings,
  preferred_in,
  last_in,
  counter_in,
  held_in,
}
use Rattle.rules.specs.IsSound.{chits, bookings_of}
use Rattle.rules.specs.Sound.{BookingOf, EmptyEntry, HeldEntry, Ledger}
use Rattle.rules.specs.Book.{booked}
use Rattle.promises.proofs.Taken.{Bookable}
use Rattle.rule_laws.proofs.Unchanged.{EmptyEntry_kept}
use Rattle.promises.proofs.Entered.{first_entry}
use Rattle.promises.proofs.BookedWords.{
  bookings_booked,
  slot_of_booked_same,
  entry_booked_other,
  entry_booked_beside,
  held_in_booked,
  entry_booked_empty,
}
use Rattle.promises.proofs.BookedRecords.{field_booked_old, bookings_of_booked}

module _ (w : List ℕ) (name slot : ℕ) (parents : List ℕ) where
  abbrev after : List ℕ
  after = booked w name slot parents

  module _ (ledger : Ledger w) (bookable : Bookable w name slot parents) where
    bookings_of_same : bookings_of after slot ≡ bookings_of w slot + 1
    bookings_of_same = omega (arith, bookings_of_booked w name slot parents ledger bookable slot, ap bit (eq-eqb slot slot refl))

    bookings_of_other : (s : ℕ) → s ≢ slot → bookings_of after s ≡ bookings_of w s
    bookings_of_other s d = omega (arith, bookings_of_booked w name slot parents ledger bookable s, ap bit (ne_eqb slot s (λ e. d (sym e))))

    other_entry : (s g : ℕ) → g < slot_words → s ≢ slot → entry after s g ≡ entry w s g
    other_entry = entry_booked_other w name slot parents bookable.room

    held_some : (s : ℕ) → s < slots → bookings_of w s ≢ 0 → held_in w s ≢ 0
    held_some s u q e = q (sym (ledger.sound.held_entry s u q).held ∙ e)

    -- the first booking of its slot
    pub entry_booked_first : bookings_of w slot ≡ 0 → (g : ℕ) → g < slot_words → entry after slot g ≡ get_or (first_entry (bookings w)) g 0
    entry_booked_first z g h =
        entry_booked_empty w name slot parents bookable.room ledger.whole bookable.slot_most g h
        (ledger.sound.empty_entry slot bookable.slot_most z).none_held

    -- a slot with bookings keeps all but their number
    pub entry_booked_kept : (s g : ℕ) → s < slots → bookings_of w s ≢ 0 → g < slot_words → g ≢ held_field → entry after s g ≡ entry w s g
    entry_booked_kept s g u q h d = go (ℕ_discrete s slot)
      where
        go : Dec (s ≡ slot) → entry after s g ≡ entry w s g
        go (yes e) = rw e (entry_booked_beside w name slot parents bookable.room g h d (held_some slot bookable.slot_most (rw e at q)))
        go (no e) = other_entry s g h e

    held_after : (s : ℕ) → s < slots → bookings_of w s ≢ 0 → held_in after s ≡ bookings_of after s
    held_after s u q = go (ℕ_discrete s slot)
      where
        held : held_in w s ≡ bookings_of w s
        held = (ledger.sound.held_entry s u q).held

        go : Dec (s ≡ slot) → held_in after s ≡ bookings_of after s
        go (yes e) =
            rw e
            (held_in_booked w name slot parents bookable.room ledger.whole bookable.slot_most (held_some slot bookable.slot_most (rw e at q))
            ∙ omega (arith, rw e at held, bookings_of_same))
        go (no d) = other_entry s held_field (omega arith) d ∙ held ∙ sym (bookings_of_other s d)

    -- ---- what a ledger asks of its slot entries

    old_booking_of : (s i : ℕ) → BookingOf w s i → BookingOf after s i
    old_booking_of s i b = record {
      below = omega (arith, bookings_booked w name slot parents ledger.whole, b.below);
      slot = field_booked_old w name slot parents ledger bookable i slot_field b.below (omega arith) ∙ b.slot;
    }

    new_booking_of : BookingOf after slot (bookings w)
    new_booking_of = record {
      below = omega (arith, bookings_booked w name slot parents ledger.whole);
      slot = slot_of_booked_same w name slot parents ledger.whole bookable.room;
    }

    pub EmptyEntry_booked : (s : ℕ) → s < slots → bookings_of after s ≡ 0 → EmptyEntry after s
    EmptyEntry_booked s u z =
        let d : s ≢ slot = λ e. omega (arith, bookings_of_same, rw e at z) in
        EmptyEntry_kept w after s (λ g h. other_entry s g h d) (ledger.sound.empty_entry s u (sym (bookings_of_other s d) ∙ z))

    first_held_lem : bookings_of w slot ≡ 0 → HeldEntry after slot
    first_held_lem z = record {
      held = entry_booked_first z held_field (omega arith) ∙ omega (arith, bookings_of_same);
      preferred = rw (entry_booked_first z preferred_field (omega arith)) new_booking_of;
      last = rw (entry_booked_first z last_field (omega arith)) new_booking_of;
    }

    pub HeldEntry_booked : (s : ℕ) → s < slots → bookings_of after s ≢ 0 → HeldEntry after s
    HeldEntry_booked s u q = go (ℕ_discrete (bookings_of w s) 0) (ℕ_discrete s slot)
      where
        go : Dec (bookings_of w s ≡ 0) → Dec (s ≡ slot) → HeldEntry after s
        go (yes z) (yes e) = rw e (first_held_lem (rw e at z))
        go (yes z) (no d) = absurd (q (bookings_of_other s d ∙ z))
        go (no p) e =
            let old : HeldEntry w s = ledger.sound.held_entry s u p in
            record {
              held = held_after s u p;
              preferred = rw (entry_booked_kept s preferred_field u p (omega arith) (omega arith)) (old_booking_of s (preferred_in w s) old.preferred);
              last = rw (entry_booked_kept s last_field u p (omega arith) (omega arith)) (old_booking_of s (last_in w s) old.last);
            }

    pub counter_in_booked_most : (s : ℕ) → s < slots → counter_in after s ≤ chits w
    counter_in_booked_most s u = go (ℕ_discrete (bookings_of w s) 0) (ℕ_discrete s slot)
      where
        go : Dec (bookings_of w s ≡ 0) → Dec (s ≡ slot) → counter_in after s ≤ chits w
        go (yes z) (yes e) = rw e (omega (arith, entry_booked_first (rw e at z) counter_field (omega arith)))
        go (yes z) (no d) = omega (arith, other_entry s counter_field (omega arith) d, ledger.sound.counter_most s u)
        go (no p) e = omega (arith, entry_booked_kept s counter_field u p (omega arith) (omega arith), ledger.sound.counter_most s u)
