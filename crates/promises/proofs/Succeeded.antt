-- What a successful poll of booking i leaves of a ledger, by its stages: the poll is noted, the members are raised, then settled.
use mathlib.Core.Path.{◌≡◌, sym, ap, ◌∙◌}
use mathlib.Core.Bool.{false}
use mathlib.Core.List.{List}
use mathlib.Core.Logic.{◌≢◌}
use Prim.Native.Nat.{ℕ, ◌+◌, ◌<◌, ◌≤◌}
use native.Mathlib.Omega.{arith}
use Rattle.loops.specs.Total.{bit}
use Rattle.loops.proofs.Total.{bit_le}
use Rattle.terms.specs.Editions.{restart}
use Rattle.rules.specs.Layout.{entry, bookings, edition_field, setting_in, slot_field, confidence_field, preferred_field, last_field, counter_field, held_field, slot_of, confidence_of, preferred_in, last_in, counter_in, mark_field}
use Rattle.rules.specs.Ancestry.{ancestry, is_member}
use Rattle.rules.specs.Sound.{Ledger, BookingOf}
use Rattle.rules.specs.Poll.{noted, raised, succeeded}
use Rattle.rule_laws.proofs.Slots.{slot_of_absent, booking_lt, slot_of_lt, preferred_in_lt}
use Rattle.rule_laws.proofs.Noted.{length_noted, field_noted_beside, confidence_noted, entry_noted_kept}
use Rattle.rule_laws.proofs.Raised.{
  length_raised,
  header_raised_kept,
  field_raised_beside,
  entry_raised_kept,
  confidence_raised,
  confidence_raised_rest,
}
use Rattle.promises.proofs.Taken.{Led}
use Rattle.promises.proofs.Noted.{Noted, noted_Noted, Noted_kept, Noted_bookings}
use Rattle.rule_laws.proofs.Settled.{length_settled, header_settled_kept, field_settled_kept, held_settled_kept}
use Rattle.rule_laws.proofs.SettledTurns.{SlotsFit}
use Rattle.rule_laws.proofs.SettledSlots.{
  Among,
  entry_settled_empty,
  preferred_settled_among,
  last_settled_among,
  counter_settled_le,
  last_settled_changed,
  led_settled,
}
use Rattle.promises.proofs.PolledSound.{Gained}

-- the words that the settling starts from
abbrev raised_words : List ℕ → ℕ → List ℕ
raised_words w i = raised (ancestry w i) (bookings w) (noted w i 2)

module _ (w : List ℕ) (i : ℕ) (ledger : Ledger w) (below : i < bookings w) where
  -- ---- the members raised

  raised_Noted : Noted w (raised_words w i) i 2
  raised_Noted =
      Noted_kept (raised_words w i) (booking_lt w ledger.sound i below) (noted_Noted w i 2 ledger.whole (booking_lt w ledger.sound i below))
      (length_raised (ancestry w i) (bookings w) (noted w i 2))
      (header_raised_kept (ancestry w i) (bookings w) (noted w i 2))
      (λ j g u k c m. field_raised_beside (ancestry w i) (bookings w) (noted w i 2) j g k c)

  raised_confidence : (j : ℕ) → j < bookings w → confidence_of (raised_words w i) j ≡ confidence_of w j + bit (is_member (ancestry w i) j)
  raised_confidence j h =
      confidence_raised (ancestry w i) (bookings w) (noted w i 2) j h (omega (arith, length_noted w i 2, ledger.whole, booking_lt w ledger.sound j h))
      ∙ ap (λ c. c + bit (is_member (ancestry w i) j)) (confidence_noted w i 2 j)

  -- slots and their entries are as before
  raised_slot : (j : ℕ) → j < bookings w → slot_of (raised_words w i) j ≡ slot_of w j
  raised_slot j h = raised_Noted.told j slot_field (booking_lt w ledger.sound j h) (omega arith)

  raised_entry : (s g : ℕ) → entry (raised_words w i) s g ≡ entry w s g
  raised_entry s g =
      entry_raised_kept (ancestry w i) (bookings w) (noted w i 2) s g ledger.sound.bookings_most ∙ entry_noted_kept w i 2 s g (booking_lt w ledger.sound i below)

  raised_Slots_fit : SlotsFit (raised_words w i) (bookings w)
  raised_Slots_fit = record {
    whole = raised_Noted.long ∙ ledger.whole;
    few = ledger.sound.bookings_most;
    fits = λ j h. omega (arith, raised_slot j h, slot_of_lt w ledger.sound j h);
  }

  -- ---- then settled

  pub succeeded_Noted : Noted w (succeeded w i) i 2
  succeeded_Noted =
      Noted_kept (succeeded w i) (booking_lt w ledger.sound i below) raised_Noted
      (length_settled (ancestry w i) (bookings w) (raised_words w i))
      (header_settled_kept (ancestry w i) (bookings w) (raised_words w i))
      (λ j g u k c m. field_settled_kept (ancestry w i) (bookings w) (raised_words w i) j g u k)

  succeeded_confidence : (j : ℕ) → j < bookings w → confidence_of (succeeded w i) j ≡ confidence_of w j + bit (is_member (ancestry w i) j)
  succeeded_confidence j h =
      field_settled_kept (ancestry w i) (bookings w) (raised_words w i) j confidence_field (booking_lt w ledger.sound j h) (omega arith) ∙ raised_confidence j h

  -- a preferred or last one is a booking of its slot still
  succeeded_among : (s p q : ℕ) → (Among (raised_words w i) (bookings w) s p → Among (raised_words w i) (bookings w) s q) → BookingOf w s p → BookingOf w s q
  succeeded_among s p q settles b =
      let a = settles (b.below, raised_slot p b.below ∙ b.slot) in
      record { below = a.0; slot = sym (raised_slot q a.0) ∙ a.1 }

  pub succeeded_Gained : Gained w (succeeded w i) 1
  succeeded_Gained = record {
    confidence = λ j u. omega (arith, succeeded_confidence j u, bit_le (is_member (ancestry w i) j));
    confidence_rest = λ j l u.
        field_settled_kept (ancestry w i) (bookings w) (raised_words w i) j confidence_field u (omega arith)
        ∙ confidence_raised_rest (ancestry w i) (bookings w) (noted w i 2) j l
        ∙ confidence_noted w i 2 j;
    empty = λ s g e h.
        entry_settled_empty (ancestry w i) (raised_words w i) (bookings w) raised_Slots_fit s g h (λ k u q. slot_of_absent w s k e u (sym (raised_slot k u) ∙ q))
        ∙ raised_entry s g;
    held = λ s. held_settled_kept (ancestry w i) (bookings w) (raised_words w i) s ∙ raised_entry s held_field;
    preferred = λ s.
        rw (← raised_entry s preferred_field)
        (succeeded_among s (preferred_in (raised_words w i) s) (preferred_in (succeeded w i) s)
        (preferred_settled_among (ancestry w i) (raised_words w i) (bookings w) raised_Slots_fit s));
    last = λ s.
        rw (← raised_entry s last_field)
        (succeeded_among s (last_in (raised_words w i) s) (last_in (succeeded w i) s)
        (last_settled_among (ancestry w i) (raised_words w i) (bookings w) raised_Slots_fit s));
    mark = λ j u.
        field_settled_kept (ancestry w i) (bookings w) (raised_words w i) j mark_field u (omega arith)
        ∙ field_raised_beside (ancestry w i) (bookings w) (noted w i 2) j mark_field (omega arith) (omega arith)
        ∙ field_noted_beside w i 2 j mark_field (omega arith) (omega arith) (omega arith);
    counter = λ s u. omega (arith, counter_settled_le (ancestry w i) (raised_words w i) (bookings w) raised_Slots_fit s, raised_entry s counter_field);
  }

  -- where the last changes the counter restarts
  pub succeeded_changed : (s : ℕ) → last_in (succeeded w i) s ≢ last_in w s → counter_in (succeeded w i) s ≡ restart (setting_in w).edition
  succeeded_changed s changed =
      last_settled_changed (ancestry w i) (raised_words w i) (bookings w) raised_Slots_fit s (λ e. changed (e ∙ raised_entry s last_field))
      ∙ ap restart (raised_Noted.head edition_field (omega arith) (omega arith))

  -- ---- the preferred one still leads

  module _ (led : Led w) (k : ℕ) (h : k < bookings w) where
    raised_preferred : preferred_in (raised_words w i) (slot_of (raised_words w i) k) ≡ preferred_in w (slot_of w k)
    raised_preferred = rw (raised_slot k h) (raised_entry (slot_of w k) preferred_field)

    -- who gains nothing is no further ahead than before
    raised_led : is_member (ancestry w i) k ≡ false
        → confidence_of (raised_words w i) k ≤ confidence_of (raised_words w i) (preferred_in (raised_words w i) (slot_of (raised_words w i) k))
    raised_led e =
        let gains : bit (is_member (ancestry w i) k) ≡ 0 = ap bit e in
        rw raised_preferred (omega (arith, raised_confidence k h, led k h, raised_confidence (preferred_in w (slot_of w k)) (preferred_in_lt w ledger.sound k h)))

    settled_led : confidence_of (succeeded w i) k ≤ confidence_of (succeeded w i) (preferred_in (succeeded w i) (slot_of (succeeded w i) k))
    settled_led =
        led_settled (ancestry w i) (raised_words w i) (bookings w) raised_Slots_fit k h
        (rw raised_preferred (preferred_in_lt w ledger.sound k h)) raised_led

  pub succeeded_led : Led w → Led (succeeded w i)
  succeeded_led led k h = settled_led led k (omega (arith, Noted_bookings succeeded_Noted))

-- every member of the ancestry gains one confidence, and nobody else
pub confidence_succeeded : (w : List ℕ) (i j : ℕ) → Ledger w → j < bookings w → i < bookings w
    → confidence_of (succeeded w i) j ≡ confidence_of w j + bit (is_member (ancestry w i) j)
confidence_succeeded w i j ledger h below = succeeded_confidence w i ledger below j h
