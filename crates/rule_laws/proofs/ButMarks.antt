-- Words that differ from a ledger's in marks alone are a ledger's if their marks are sound. Assumes nothing.
use mathlib.Core.Path.{◌≡◌, sym, ap, ◌∙◌}
use mathlib.Core.List.{List}
use mathlib.Core.Logic.{◌≢◌}
use Prim.Native.Nat.{ℕ, ◌+◌, ◌<◌, ◌≤◌}
use native.Mathlib.Omega.{arith}
use native.Mathlib.Decide.{ℕ_discrete}
use lib.Dec.{eqb}
use lib.ListN.{length}
use Rattle.loops.specs.Total.{bit}
use Rattle.loops.proofs.Total.{total_same}
use Rattle.rules.specs.Layout.{most_bookings, header_words, record_words, header, field, entry, bookings, setting_in, spare_field, slot_field, parents_field, state_field, confidence_field, ordinal_field, mark_field, preferred_field, last_field, counter_field, held_field, name_of, slot_of, state_of, ordinal_of, mark_of, preferred_in, last_in}
use Rattle.rules.specs.IsSound.{chits, bookings_of}
use Rattle.rules.specs.Sound.{BookingOf, Sound, Ledger}
use Rattle.rule_laws.proofs.Words.{setting_in_kept, name_of_kept}
use Rattle.rule_laws.proofs.Unchanged.{Booking_kept, EmptyEntry_kept}

-- v is w but for marks
pub record ButMarks (w v : List ℕ) : Type 0 where
  pub long : length v ≡ length w
  pub head : (g : ℕ) → g < header_words → header v g ≡ header w g
  pub same : (i g : ℕ) → g < record_words → g ≢ mark_field → field v i g ≡ field w i g
  pub entries : (s g : ℕ) → entry v s g ≡ entry w s g

-- v's marks are sound, with w's bookings and their slots: 0 or 1, the genesis's 1, no two in one slot, none from n on
pub record MarksSound (w v : List ℕ) : Type 0 where
  pub genesis : mark_of v 0 ≡ 1
  pub known : (i : ℕ) → i < bookings w → mark_of v i ≤ 1
  pub alone : (i k : ℕ) → i < bookings w → k < bookings w → i ≢ k → mark_of v i ≡ 1 → mark_of v k ≡ 1 → slot_of w i ≢ slot_of w k
  pub rest : (i : ℕ) → bookings w ≤ i → i < most_bookings → mark_of v i ≡ 0

module _ (w v : List ℕ) (but : ButMarks w v) where
  pub many_same : bookings v ≡ bookings w
  many_same = but.head 0 (omega arith)

  pub setting_same : setting_in v ≡ setting_in w
  setting_same = setting_in_kept w v (λ g l u d. but.head g (omega arith))

  pub slot_same : (i : ℕ) → slot_of v i ≡ slot_of w i
  slot_same i = but.same i slot_field (omega arith) (omega arith)

  pub name_same : (i : ℕ) → name_of v i ≡ name_of w i
  name_same i = name_of_kept w v i i (λ g h. but.same i g (omega arith) (omega arith))

  pub ordinal_same : (i : ℕ) → ordinal_of v i ≡ ordinal_of w i
  ordinal_same i = but.same i ordinal_field (omega arith) (omega arith)

  pub state_same : (i : ℕ) → state_of v i ≡ state_of w i
  state_same i = but.same i state_field (omega arith) (omega arith)

  bookings_of_same : (s : ℕ) → bookings_of v s ≡ bookings_of w s
  unfolding bookings_of
  bookings_of_same s =
      rw many_same (total_same (λ i. bit (eqb (slot_of v i) s)) (λ i. bit (eqb (slot_of w i) s)) (bookings w) (λ i u. ap (λ x. bit (eqb x s)) (slot_same i)))

  chits_same : chits v ≡ chits w
  unfolding chits
  chits_same =
      rw many_same
      (total_same (λ i. bit (eqb (state_of v i) 2)) (λ i. bit (eqb (state_of w i) 2)) (bookings w) (λ i u. ap (λ x. bit (eqb x 2)) (state_same i)))

  BookingOf_same : (s i : ℕ) → BookingOf w s i → BookingOf v s i
  BookingOf_same s i b = record { below = omega (arith, many_same, b.below); slot = slot_same i ∙ b.slot }

  module _ (sound : Sound w) (marks : MarksSound w v) where
    rest_zero_lem : (i g : ℕ) → bookings w ≤ i → i < most_bookings → g < record_words → field v i g ≡ 0
    rest_zero_lem i g l u h = go (ℕ_discrete g mark_field)
      where
        go : Dec (g ≡ mark_field) → field v i g ≡ 0
        go (yes e) = rw e (marks.rest i l u)
        go (no d) = but.same i g h d ∙ sound.rest_zero i g l u h

    pub Sound_but_marks : Sound v
    Sound_but_marks =
        let before : (i : ℕ) → i < bookings v → i < bookings w = λ i u. omega (arith, many_same) in
        record {
          bookings_least = omega (arith, many_same, sound.bookings_least);
          bookings_most = omega (arith, many_same, sound.bookings_most);
          setting = rw setting_same sound.setting;
          polls_most = omega (arith, many_same, but.head 5 (omega arith), sound.polls_most);
          spare_zero = but.head spare_field (omega arith) ∙ sound.spare_zero;
          genesis_name = name_same 0 ∙ sound.genesis_name;
          genesis_slot = slot_same 0 ∙ sound.genesis_slot;
          genesis_parents = λ a l. but.same 0 (parents_field + a) (omega arith) (omega arith) ∙ sound.genesis_parents a l;
          genesis_state = state_same 0 ∙ sound.genesis_state;
          genesis_ordinal = ordinal_same 0 ∙ sound.genesis_ordinal;
          genesis_mark = marks.genesis;
          name_alone = λ i k u x q e. sound.name_alone i k (before i u) (before k x) q (sym (name_same i) ∙ e ∙ name_same k);
          booking = λ i l u. Booking_kept w v i (λ g h c m. but.same i g h m) (sound.booking i l (before i u));
          ordinal_most = λ i u. omega (arith, ordinal_same i, but.head 5 (omega arith), sound.ordinal_most i (before i u));
          ordinal_held = λ o l u.
              let h = sound.ordinal_held o l (omega (arith, but.head 5 (omega arith))) in
              (h.0, omega (arith, many_same, h.1), ordinal_same h.0 ∙ h.2);
          ordinal_alone = λ i k u x q z e.
              sound.ordinal_alone i k (before i u) (before k x) q (λ y. z (ordinal_same i ∙ y)) (sym (ordinal_same i) ∙ e ∙ ordinal_same k);
          mark_known = λ i u. marks.known i (before i u);
          mark_alone = λ i k u x q mi mk e. marks.alone i k (before i u) (before k x) q mi mk (sym (slot_same i) ∙ e ∙ slot_same k);
          rest_zero = λ i g l u h. rest_zero_lem i g (omega (arith, many_same)) u h;
          empty_entry = λ s u e. EmptyEntry_kept w v s (λ g h. but.entries s g) (sound.empty_entry s u (sym (bookings_of_same s) ∙ e));
          held_entry = λ s u q.
              let h = sound.held_entry s u (λ e. q (bookings_of_same s ∙ e)) in
              record {
                held = but.entries s held_field ∙ h.held ∙ sym (bookings_of_same s);
                preferred = rw (but.entries s preferred_field) (BookingOf_same s (preferred_in w s) h.preferred);
                last = rw (but.entries s last_field) (BookingOf_same s (last_in w s) h.last);
              };
          confidence_most = λ i u. omega (arith, but.same i confidence_field (omega arith) (omega arith), chits_same, sound.confidence_most i (before i u));
          counter_most = λ s u. omega (arith, but.entries s counter_field, chits_same, sound.counter_most s u);
        }

  pub Ledger_but_marks : Ledger w → MarksSound w v → Ledger v
  Ledger_but_marks ledger marks = record { whole = but.long ∙ ledger.whole; sound = Sound_but_marks ledger.sound marks }
