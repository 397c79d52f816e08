-- A taken booking leaves a ledger, in which every booking of before stays and the preferred one still leads its slot.
use mathlib.Core.Path.{◌≡◌, ◌∙◌}
use mathlib.Core.List.{List}
use Prim.Native.Nat.{ℕ, ◌+◌, ◌<◌, ◌≤◌}
use native.Mathlib.Omega.{arith}
use Rattle.rules.specs.Layout.{record_words, spare_field, slot_field, parents_field, state_field, ordinal_field, preferred_field, field, bookings, polls, slot_of, confidence_of, preferred_in, mark_field}
use Rattle.rules.specs.Sound.{Sound, Ledger}
use Rattle.rules.specs.Book.{booked}
use Rattle.rule_laws.proofs.Slots.{bookings_of_some, slot_of_lt, preferred_in_lt}
use Rattle.promises.specs.Lasting.{Grown}
use Rattle.promises.proofs.Taken.{Bookable, Led}
use Rattle.promises.proofs.BookedWords.{
  length_booked,
  bookings_booked,
  header_booked_kept,
  polls_booked,
  setting_in_booked,
  confidence_of_booked_same,
}
use Rattle.promises.proofs.BookedRecords.{
  each_booked,
  field_booked_old,
  name_of_booked_old,
  confidence_of_booked_old,
  chits_booked,
  Booking_booked,
  name_of_booked_alone,
  ordinal_of_booked_most,
  ordinal_of_booked_held,
  ordinal_of_booked_alone,
  mark_of_booked_known,
  mark_of_booked_alone,
  confidence_of_booked_most,
  field_booked_rest,
}
use Rattle.promises.proofs.BookedSlots.{entry_booked_kept, EmptyEntry_booked, HeldEntry_booked, counter_in_booked_most}

module _ (w : List ℕ) (name slot : ℕ) (parents : List ℕ) (ledger : Ledger w) (bookable : Bookable w name slot parents) where
  -- the genesis is one of the old records
  genesis_field : (g : ℕ) → g < record_words → field (booked w name slot parents) 0 g ≡ field w 0 g
  genesis_field g = field_booked_old w name slot parents ledger bookable 0 g ledger.sound.bookings_least

  booked_sound : Sound (booked w name slot parents)
  booked_sound =
      let sound : Sound w = ledger.sound in
      let more : bookings (booked w name slot parents) ≡ bookings w + 1 = bookings_booked w name slot parents ledger.whole in
      let unpolled : polls (booked w name slot parents) ≡ polls w = polls_booked w name slot parents in
      record {
        bookings_least = omega arith;
        bookings_most = omega (arith, bookable.room);
        setting = rw (setting_in_booked w name slot parents) sound.setting;
        polls_most = omega (arith, sound.polls_most);
        spare_zero = header_booked_kept w name slot parents spare_field (omega arith) (omega arith) ∙ sound.spare_zero;
        genesis_name = name_of_booked_old w name slot parents ledger bookable 0 sound.bookings_least ∙ sound.genesis_name;
        genesis_slot = genesis_field slot_field (omega arith) ∙ sound.genesis_slot;
        genesis_parents = λ a h. genesis_field (parents_field + a) (omega arith) ∙ sound.genesis_parents a h;
        genesis_state = genesis_field state_field (omega arith) ∙ sound.genesis_state;
        genesis_ordinal = genesis_field ordinal_field (omega arith) ∙ sound.genesis_ordinal;
        genesis_mark = genesis_field mark_field (omega arith) ∙ sound.genesis_mark;
        name_alone = λ i j u v. name_of_booked_alone w name slot parents ledger bookable i u j v;
        booking = λ i l u. Booking_booked w name slot parents ledger bookable i u l;
        ordinal_most = λ i u. omega (arith, ordinal_of_booked_most w name slot parents ledger bookable i u);
        ordinal_held = λ o l u. ordinal_of_booked_held w name slot parents ledger bookable o l (omega arith);
        ordinal_alone = λ i j u v. ordinal_of_booked_alone w name slot parents ledger bookable i u j v;
        mark_known = mark_of_booked_known w name slot parents ledger bookable;
        mark_alone = λ i j u v. mark_of_booked_alone w name slot parents ledger bookable i u j v;
        rest_zero = field_booked_rest w name slot parents ledger bookable;
        empty_entry = EmptyEntry_booked w name slot parents ledger bookable;
        held_entry = HeldEntry_booked w name slot parents ledger bookable;
        confidence_most = λ i u. omega (arith, confidence_of_booked_most w name slot parents ledger bookable i u, chits_booked w name slot parents ledger bookable);
        counter_most = λ s u. omega (arith, counter_in_booked_most w name slot parents ledger bookable s u, chits_booked w name slot parents ledger bookable);
      }

  pub booked_ledger : Ledger (booked w name slot parents)
  booked_ledger = record { whole = length_booked w name slot parents ∙ ledger.whole; sound = booked_sound }

  -- no booking of before loses its name, slot or parents
  pub booked_grown : Grown w (booked w name slot parents)
  booked_grown = record {
    more = omega (arith, bookings_booked w name slot parents ledger.whole);
    name = name_of_booked_old w name slot parents ledger bookable;
    slot = λ i u. field_booked_old w name slot parents ledger bookable i slot_field u (omega arith);
    parent = λ i a u h. field_booked_old w name slot parents ledger bookable i (parents_field + a) u (omega arith);
  }

  -- an old booking's slot has bookings, so it keeps its preferred one
  preferred_kept : (i : ℕ) → i < bookings w → preferred_in (booked w name slot parents) (slot_of w i) ≡ preferred_in w (slot_of w i)
  preferred_kept i u =
      entry_booked_kept w name slot parents ledger bookable (slot_of w i) preferred_field (slot_of_lt w ledger.sound i u)
      (bookings_of_some w i u) (omega arith) (omega arith)

  -- and the new one has no confidence, whomever its slot prefers
  pub booked_led : Led w → Led (booked w name slot parents)
  booked_led led =
      let after : List ℕ = booked w name slot parents in
      let kept : (i : ℕ) → i < bookings w → confidence_of after i ≡ confidence_of w i = confidence_of_booked_old w name slot parents ledger bookable in
      each_booked w name slot parents ledger bookable (λ i. confidence_of after i ≤ confidence_of after (preferred_in after (slot_of after i)))
      (omega (arith, confidence_of_booked_same w name slot parents ledger.whole bookable.room))
      (λ i u.
      rw (booked_grown.slot i u, preferred_kept i u, kept i u, kept (preferred_in w (slot_of w i)) (preferred_in_lt w ledger.sound i u))
      (led i u))
