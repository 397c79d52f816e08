-- A ledger has what raising, settling and clearing lean on, and noting and raising leave it so.
use mathlib.Core.Path.{◌≡◌, ◌∙◌}
use mathlib.Core.List.{List}
use Prim.Native.Nat.{ℕ, ◌<◌}
use native.Mathlib.Omega.{arith}
use Rattle.rules.specs.Layout.{most_bookings, slot_field, preferred_field, counter_field, entry, bookings, slot_of}
use Rattle.rules.specs.Sound.{Ledger}
use Rattle.rules.specs.Poll.{noted, raised}
use Rattle.rule_laws.proofs.Slots.{slot_of_lt, preferred_in_lt}
use Rattle.rule_laws.proofs.Readings.{confidence_le, counter_le}
use Rattle.rule_laws.proofs.Noted.{length_noted, field_noted_beside, confidence_noted, entry_noted_kept}
use Rattle.rule_laws.proofs.Raised.{length_raised, field_raised_beside, entry_raised_kept}
use Rattle.poll_writes.specs.Raising.{Raising}
use Rattle.poll_writes.specs.Settling.{Settling}
use Rattle.poll_writes.specs.Clearing.{Clearing}

-- ---- a ledger

module _ {w : List ℕ} (g : Ledger w) where
  pub Ledger→Raising : Raising w (bookings w)
  Ledger→Raising = record {
    whole = g.whole;
    few = g.sound.bookings_most;
    confidence_fits = λ i l. omega (arith, confidence_le w g.sound i l);
  }

  pub Ledger→Settling : Settling w (bookings w)
  Ledger→Settling = record {
    whole = g.whole;
    few = g.sound.bookings_most;
    slot_fits = slot_of_lt w g.sound;
    preferred_fits = λ i l. omega (arith, preferred_in_lt w g.sound i l, g.sound.bookings_most);
    counter_fits = λ i l. omega (arith, counter_le w g.sound (slot_of w i) (slot_of_lt w g.sound i l));
  }

  pub Ledger→Clearing : Clearing w (bookings w)
  Ledger→Clearing = record { whole = g.whole; few = g.sound.bookings_most; slot_fits = slot_of_lt w g.sound }

-- ---- the poll noted, and the members raised

module _ (w : List ℕ) (i state : ℕ) where
  pub noted_raising : (n : ℕ) → Raising w n → Raising (noted w i state) n
  noted_raising n h = record {
    whole = length_noted w i state ∙ h.whole;
    few = h.few;
    confidence_fits = λ j l. rw (confidence_noted w i state j) (h.confidence_fits j l);
  }

  pub noted_clearing : (n : ℕ) → Clearing w n → Clearing (noted w i state) n
  noted_clearing n h = record {
    whole = length_noted w i state ∙ h.whole;
    few = h.few;
    slot_fits = λ j l. rw (field_noted_beside w i state j slot_field (omega arith) (omega arith) (omega arith)) (h.slot_fits j l);
  }

  pub raised_noted_settling : (m : List ℕ) (n : ℕ) → i < most_bookings → Settling w n → Settling (raised m n (noted w i state)) n
  raised_noted_settling m n b h = record {
    whole = length_raised m n (noted w i state) ∙ length_noted w i state ∙ h.whole;
    few = h.few;
    slot_fits = λ j l. rw (slot_kept j) (h.slot_fits j l);
    preferred_fits = λ j l. rw (slot_kept j, entry_kept (slot_of w j) preferred_field) (h.preferred_fits j l);
    counter_fits = λ j l. rw (slot_kept j, entry_kept (slot_of w j) counter_field) (h.counter_fits j l);
  }
    where
      slot_kept : (j : ℕ) → slot_of (raised m n (noted w i state)) j ≡ slot_of w j
      slot_kept j =
          field_raised_beside m n (noted w i state) j slot_field (omega arith) (omega arith)
          ∙ field_noted_beside w i state j slot_field (omega arith) (omega arith) (omega arith)

      entry_kept : (s f : ℕ) → entry (raised m n (noted w i state)) s f ≡ entry w s f
      entry_kept s f = entry_raised_kept m n (noted w i state) s f h.few ∙ entry_noted_kept w i state s f b
