-- A sound workspace in which a poll is noted stays sound, if no confidence and no counter gained more than the chits did,
-- each slot's preferred and last are bookings of it still, and the marks stay.
use mathlib.Core.Path.{◌≡◌, sym, ap, ◌∙◌}
use mathlib.Core.List.{List}
use mathlib.Core.Logic.{◌≢◌}
use Prim.Native.Nat.{ℕ, ◌+◌, ◌<◌, ◌≤◌}
use native.Mathlib.Decide.{ℕ_discrete}
use native.Mathlib.Omega.{arith}
use lib.Dec.{eqb}
use Rattle.loops.specs.Total.{bit}
use Rattle.loops.proofs.Total.{total_same, total_other}
use Rattle.rules.specs.Layout.{slots, most_bookings, record_words, slot_words, field, entry, bookings, spare_field, state_field, confidence_field, ordinal_field, slot_of, state_of, confidence_of, preferred_in, last_in, counter_in, held_in, mark_field, mark_of}
use Rattle.rules.specs.IsSound.{chits, bookings_of}
use Rattle.rules.specs.Sound.{Sound, Booking, BookingOf, EmptyEntry, HeldEntry}
use Rattle.rule_laws.proofs.Words.{setting_in_kept}
use Rattle.promises.specs.Lasting.{Grown}
use Rattle.promises.proofs.Taken.{Pollable}
use Rattle.rule_laws.proofs.Unchanged.{Booking_told, Booking_kept, EmptyEntry_kept}
use Rattle.promises.proofs.Noted.{Noted, Noted_bookings, Noted→Grown}
use Rattle.promises.proofs.Ordinals.{
  polled_above,
  polls_room,
  each_noted,
  ordinal_noted_most,
  ordinal_noted_held,
  ordinal_noted_alone,
}

-- what confidences, marks and slot entries became, from w to v, before anybody is marked
pub record Gained (w v : List ℕ) (gain : ℕ) : Type 0 where
  pub confidence : (j : ℕ) → j < bookings w → confidence_of v j ≤ confidence_of w j + gain
  pub confidence_rest : (j : ℕ) → bookings w ≤ j → j < most_bookings → confidence_of v j ≡ confidence_of w j
  pub empty : (s g : ℕ) → bookings_of w s ≡ 0 → g < slot_words → entry v s g ≡ entry w s g
  pub held : (s : ℕ) → held_in v s ≡ held_in w s
  pub preferred : (s : ℕ) → BookingOf w s (preferred_in w s) → BookingOf w s (preferred_in v s)
  pub last : (s : ℕ) → BookingOf w s (last_in w s) → BookingOf w s (last_in v s)
  pub mark : (j : ℕ) → j < most_bookings → mark_of v j ≡ mark_of w j
  pub counter : (s : ℕ) → s < slots → counter_in v s ≤ counter_in w s + gain

module _ (w v : List ℕ) (i state : ℕ) (sound : Sound w) (pollable : Pollable w i) (n : Noted w v i state) where
  few : (j : ℕ) → j < bookings v → j < most_bookings
  few j u = omega (arith, Noted_bookings n, sound.bookings_most)

  old : (j : ℕ) → j < bookings v → j < bookings w
  old j u = omega (arith, Noted_bookings n)

  grown : Grown w v
  grown = Noted→Grown n sound.bookings_most

  -- ---- counts over the records

  bookings_of_noted : (s : ℕ) → bookings_of v s ≡ bookings_of w s
  unfolding bookings_of
  bookings_of_noted s =
      rw (Noted_bookings n)
      (total_same (λ j. bit (eqb (slot_of v j) s)) (λ j. bit (eqb (slot_of w j) s)) (bookings w) (λ j u. ap (λ x. bit (eqb x s)) (grown.slot j u)))

  -- booking i was waiting, so it had no chit
  chits_noted : chits v ≡ chits w + bit (eqb state 2)
  unfolding chits
  chits_noted =
      rw (Noted_bookings n)
      (total_other (λ j. bit (eqb (state_of w j) 2)) (λ j. bit (eqb (state_of v j) 2)) (bookings w) i (bit (eqb state 2)) pollable.below
      (rw (n.state_now, pollable.waiting) (omega arith))
      (λ j u d. ap (λ x. bit (eqb x 2)) (n.other j state_field (omega (arith, sound.bookings_most)) (omega arith) (omega arith) (omega arith) d)))

  -- ---- records

  Booking_noted : 1 ≤ state → state ≤ 2 → (j : ℕ) → j < bookings v → 0 < j → Booking v j
  Booking_noted least most =
      each_noted w i sound pollable v state n (λ j. 0 < j → Booking v j)
      (λ l.
      Booking_told w v i (λ g h. n.told i g (few i (omega (arith, Noted_bookings n, pollable.below))) h) (sound.booking i l pollable.below)
      (omega (arith, n.state_now))
      (λ e. absurd (omega (arith, n.ordinal_now)), λ e. absurd (omega (arith, n.state_now))))
      (λ j u d l. Booking_kept w v j (λ g h c m. n.other j g (omega (arith, sound.bookings_most)) h c m d) (sound.booking j l u))

  rest_noted : ((j : ℕ) → bookings w ≤ j → j < most_bookings → confidence_of v j ≡ confidence_of w j)
      → ((j : ℕ) → j < most_bookings → mark_of v j ≡ mark_of w j)
      → (j g : ℕ) → bookings v ≤ j → j < most_bookings → g < record_words → field v j g ≡ 0
  rest_noted rest marks j g l u h = go (ℕ_discrete g confidence_field) (ℕ_discrete g mark_field)
    where
      past : bookings w ≤ j
      past = omega (arith, Noted_bookings n)

      go : Dec (g ≡ confidence_field) → Dec (g ≡ mark_field) → field v j g ≡ 0
      go (yes e) m = rw e (rest j past u ∙ sound.rest_zero j confidence_field past u (omega arith))
      go (no c) (yes e) = rw e (marks j u ∙ sound.rest_zero j mark_field past u (omega arith))
      go (no c) (no m) = n.other j g u h c m (λ e. omega (arith, past, pollable.below)) ∙ sound.rest_zero j g past u h

  -- ---- slot entries

  BookingOf_noted : (s p : ℕ) → BookingOf w s p → BookingOf v s p
  BookingOf_noted s p b = record { below = omega (arith, Noted_bookings n, b.below); slot = grown.slot p b.below ∙ b.slot }

  module _ (gain : ℕ) (gained : Gained w v gain) where
    empty_entry_noted : (s : ℕ) → s < slots → bookings_of v s ≡ 0 → EmptyEntry v s
    empty_entry_noted s u e =
        let none : bookings_of w s ≡ 0 = sym (bookings_of_noted s) ∙ e in
        EmptyEntry_kept w v s (λ g h. gained.empty s g none h) (sound.empty_entry s u none)

    held_entry_noted : (s : ℕ) → s < slots → bookings_of v s ≢ 0 → HeldEntry v s
    held_entry_noted s u q =
        let before = sound.held_entry s u (λ e. q (bookings_of_noted s ∙ e)) in
        record {
          held = gained.held s ∙ before.held ∙ sym (bookings_of_noted s);
          preferred = BookingOf_noted s (preferred_in v s) (gained.preferred s before.preferred);
          last = BookingOf_noted s (last_in v s) (gained.last s before.last);
        }

  -- ---- the whole

  pub sound_noted : 1 ≤ state → state ≤ 2 → Gained w v (bit (eqb state 2)) → Sound v
  sound_noted least most gained =
      let first : 0 < bookings w = sound.bookings_least in
      let marks = gained.mark in
      let another : 0 ≢ i = λ e. omega (arith, polled_above w i sound pollable) in
      record {
        bookings_least = omega (arith, Noted_bookings n);
        bookings_most = omega (arith, Noted_bookings n, sound.bookings_most);
        setting = rw (setting_in_kept w v (λ g l u d. n.head g (omega arith) d)) sound.setting;
        polls_most = omega (arith, Noted_bookings n, n.more, polls_room w i sound pollable);
        spare_zero = n.head spare_field (omega arith) (omega arith) ∙ sound.spare_zero;
        genesis_name = grown.name 0 first ∙ sound.genesis_name;
        genesis_slot = grown.slot 0 first ∙ sound.genesis_slot;
        genesis_parents = λ a l. grown.parent 0 a first l ∙ sound.genesis_parents a l;
        genesis_state = n.other 0 state_field (omega arith) (omega arith) (omega arith) (omega arith) another ∙ sound.genesis_state;
        genesis_ordinal = n.other 0 ordinal_field (omega arith) (omega arith) (omega arith) (omega arith) another ∙ sound.genesis_ordinal;
        genesis_mark = marks 0 (omega arith) ∙ sound.genesis_mark;
        name_alone = λ j k u x q e. sound.name_alone j k (old j u) (old k x) q (sym (grown.name j (old j u)) ∙ e ∙ grown.name k (old k x));
        booking = λ j l u. Booking_noted least most j u l;
        ordinal_most = ordinal_noted_most w i sound pollable v state n;
        ordinal_held = ordinal_noted_held w i sound pollable v state n;
        ordinal_alone = λ j k u x. ordinal_noted_alone w i sound pollable v state n j u k x;
        mark_known = λ j u. omega (arith, marks j (few j u), sound.mark_known j (old j u));
        mark_alone = λ j k u x q mj mk e.
            sound.mark_alone j k (old j u) (old k x) q (sym (marks j (few j u)) ∙ mj) (sym (marks k (few k x)) ∙ mk)
            (sym (grown.slot j (old j u)) ∙ e ∙ grown.slot k (old k x));
        rest_zero = rest_noted gained.confidence_rest marks;
        empty_entry = empty_entry_noted (bit (eqb state 2)) gained;
        held_entry = held_entry_noted (bit (eqb state 2)) gained;
        confidence_most = λ j u. omega (arith, chits_noted, gained.confidence j (old j u), sound.confidence_most j (old j u));
        counter_most = λ s u. omega (arith, chits_noted, gained.counter s u, sound.counter_most s u);
      }
