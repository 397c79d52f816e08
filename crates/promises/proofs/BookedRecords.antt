-- The records after a taken booking: an old one stays and is a booking still, and the new one has what a booking must.
use mathlib.Core.Path.{◌≡◌, refl, sym, ap, ◌∙◌}
use mathlib.Core.List.{List}
use mathlib.Core.Logic.{◌≢◌, ⊎_elim}
use Prim.Native.Nat.{ℕ, ◌+◌, ◌<◌, ◌≤◌}
use native.Mathlib.Nat.{eq-or-lt_of_le}
use native.Mathlib.Omega.{arith}
use native.Mathlib.Decide.{dec_lt, ℕ_discrete}
use lib.ListN.{length, get_or}
use lib.Dec.{eqb}
use borrow.Author.Tests.{lt-ltb, le-ltb}
use Rattle.loops.specs.Total.{bit, total}
use Rattle.loops.proofs.Total.{total_more, total_same}
use Rattle.rules.specs.Layout.{most_bookings, most_parents, record_words, none, slot_field, state_field, confidence_field, ordinal_field, field, bookings, polls, name_of, parent_of, confidence_of, ordinal_of, mark_field, mark_of, slot_of}
use Rattle.rules.specs.IsSound.{chits, bookings_of}
use Rattle.rules.specs.Sound.{Booking, Ledger}
use Rattle.rules.specs.Book.{number_of, parent_found, parent_numbers, new_record, booked}
use Rattle.rule_laws.proofs.Lookup.{parent_found_lem, parent_below, found_name}
use Rattle.promises.proofs.Taken.{Bookable}
use Rattle.rule_laws.proofs.Unchanged.{Booking_kept}
use Rattle.promises.proofs.BookedWords.{
  bookings_booked,
  field_booked_other,
  name_of_booked_other,
  field_booked_same,
  name_of_booked_same,
  slot_of_booked_same,
  parent_of_booked_same,
  state_of_booked_same,
  confidence_of_booked_same,
  ordinal_of_booked_same,
}

module _ (w : List ℕ) (name slot : ℕ) (parents : List ℕ) where
  abbrev after : List ℕ
  after = booked w name slot parents

  module _ (ledger : Ledger w) (bookable : Bookable w name slot parents) where
    -- what holds of the new booking and of every old one holds of all
    pub each_booked : (P : ℕ → Type 0) → P (bookings w) → ((i : ℕ) → i < bookings w → P i) → (i : ℕ) → i < bookings after → P i
    each_booked P new old i u =
        let l : i ≤ bookings w = omega (arith, bookings_booked w name slot parents ledger.whole) in
        ⊎_elim (λ (e : i ≡ bookings w). rw e new) (λ (v : i < bookings w). old i v) (eq-or-lt_of_le l)

    pub field_booked_old : (i g : ℕ) → i < bookings w → g < record_words → field after i g ≡ field w i g
    field_booked_old i g u h = field_booked_other w name slot parents i (omega (arith, bookable.room)) (omega arith) g h

    pub name_of_booked_old : (i : ℕ) → i < bookings w → name_of after i ≡ name_of w i
    name_of_booked_old i u = name_of_booked_other w name slot parents i (omega (arith, bookable.room)) (omega arith)

    pub confidence_of_booked_old : (i : ℕ) → i < bookings w → confidence_of after i ≡ confidence_of w i
    confidence_of_booked_old i u = field_booked_old i confidence_field u (omega arith)

    new_name : name_of after (bookings w) ≡ name
    new_name = name_of_booked_same w name slot parents ledger.whole bookable.room

    new_ordinal : ordinal_of after (bookings w) ≡ 0
    new_ordinal = ordinal_of_booked_same w name slot parents ledger.whole bookable.room

    old_ordinal : (i : ℕ) → i < bookings w → ordinal_of after i ≡ ordinal_of w i
    old_ordinal i u = field_booked_old i ordinal_field u (omega arith)

    new_mark : mark_of after (bookings w) ≡ 0
    new_mark = field_booked_same w name slot parents ledger.whole bookable.room mark_field (omega arith)

    pub mark_of_booked_old : (i : ℕ) → i < bookings w → mark_of after i ≡ mark_of w i
    mark_of_booked_old i u = field_booked_old i mark_field u (omega arith)

    old_slot : (i : ℕ) → i < bookings w → slot_of after i ≡ slot_of w i
    old_slot i u = field_booked_old i slot_field u (omega arith)

    -- ---- sums over the bookings

    -- a sum by one field has the new record's part more
    pub total_booked : (f : ℕ → ℕ) (g : ℕ) → g < record_words
        → total (λ i. f (field after i g)) (bookings after) ≡ total (λ i. f (field w i g)) (bookings w) + f (get_or (new_record name slot (parent_numbers w parents)) g 0)
    total_booked f g h =
        rw (bookings_booked w name slot parents ledger.whole, total_more, field_booked_same w name slot parents ledger.whole bookable.room g h)
        (ap (λ x. x + f (get_or (new_record name slot (parent_numbers w parents)) g 0))
        (total_same (λ i. f (field after i g)) (λ i. f (field w i g)) (bookings w) (λ i u. ap f (field_booked_old i g u h))))

    -- the new booking is in state 0
    pub chits_booked : chits after ≡ chits w
    unfolding chits
    chits_booked = omega (arith, total_booked (λ x. bit (eqb x 2)) state_field (omega arith))

    pub bookings_of_booked : (s : ℕ) → bookings_of after s ≡ bookings_of w s + bit (eqb slot s)
    unfolding bookings_of
    bookings_of_booked s = total_booked (λ x. bit (eqb x s)) slot_field (omega arith)

    -- ---- the new record

    -- a parent place holds the number of the booking that is named for it, or nothing
    parent_within : (a : ℕ) → a < length parents → parent_of after (bookings w) a ≡ number_of (parent_found w parents a)
    parent_within a l =
        parent_of_booked_same w name slot parents ledger.whole bookable.room a (omega (arith, bookable.parents_most))
        ∙ rw (lt-ltb a (length parents) l)

    parent_past : (a : ℕ) → a < most_parents → length parents ≤ a → parent_of after (bookings w) a ≡ none
    parent_past a h l = parent_of_booked_same w name slot parents ledger.whole bookable.room a h ∙ rw (le-ltb a (length parents) l)

    parent_lower : (a : ℕ) → a < length parents → parent_of after (bookings w) a < bookings w
    parent_lower a l = omega (arith, parent_within a l, parent_below w parents bookable.known a l)

    -- so it is used exactly if one is named for it
    parent_used : (a : ℕ) → a < most_parents → parent_of after (bookings w) a ≢ none → a < length parents
    parent_used a h q = elim (dec_lt a (length parents)) [ yes l ↦ l | no l ↦ absurd (q (parent_past a h (omega arith))) ]

    parent_unused : (a : ℕ) → parent_of after (bookings w) a ≡ none → length parents ≤ a
    parent_unused a e =
        elim (dec_lt a (length parents)) [ yes l ↦ absurd (omega (arith, parent_lower a l, bookable.room)) | no l ↦ omega arith ]

    -- and names that differ have bookings that differ
    parent_named : (a : ℕ) → a < length parents → name_of w (parent_of after (bookings w) a) ≡ get_or parents a 0
    parent_named a l =
        rw (parent_within a l)
        (found_name w (get_or parents a 0) (number_of (parent_found w parents a)) (parent_found_lem w parents bookable.known a l))

    new_booking : Booking after (bookings w)
    new_booking =
        let in_slot = slot_of_booked_same w name slot parents ledger.whole bookable.room in
        let waiting = state_of_booked_same w name slot parents ledger.whole bookable.room in
        record {
          slot_least = omega (arith, bookable.slot_least);
          slot_most = omega (arith, bookable.slot_most);
          parent_some = (0, omega arith, λ e. omega (arith, parent_unused 0 e, bookable.parents_least));
          unused_after = λ a b l h e. parent_past b h (omega (arith, parent_unused a e));
          parents_distinct = λ a b l h q e.
              let v : b < length parents = parent_used b h q in
              bookable.distinct a b l v (sym (parent_named a (omega arith)) ∙ ap (name_of w) e ∙ parent_named b v);
          parents_lower = λ a h q. parent_lower a (parent_used a h q);
          state_known = omega arith;
          ordinal_waiting = (λ e. waiting, λ e. new_ordinal);
        }

    -- ---- what a ledger asks of its records

    pub Booking_booked : (i : ℕ) → i < bookings after → 0 < i → Booking after i
    Booking_booked =
        each_booked (λ i. 0 < i → Booking after i) (λ l. new_booking)
        (λ i u l. Booking_kept w after i (λ g h c m. field_booked_old i g u h) (ledger.sound.booking i l u))

    pub name_of_booked_alone : (i : ℕ) → i < bookings after → (j : ℕ) → j < bookings after → i ≢ j → name_of after i ≢ name_of after j
    name_of_booked_alone =
        each_booked (λ i. (j : ℕ) → j < bookings after → i ≢ j → name_of after i ≢ name_of after j)
        (each_booked (λ j. bookings w ≢ j → name_of after (bookings w) ≢ name_of after j)
        (λ q. absurd (q refl))
        (λ j v q e. bookable.fresh j v (sym (name_of_booked_old j v) ∙ sym e ∙ new_name)))
        (λ i u.
        each_booked (λ j. i ≢ j → name_of after i ≢ name_of after j)
        (λ q e. bookable.fresh i u (sym (name_of_booked_old i u) ∙ e ∙ new_name))
        (λ j v q e. ledger.sound.name_alone i j u v q (sym (name_of_booked_old i u) ∙ e ∙ name_of_booked_old j v)))

    pub ordinal_of_booked_most : (i : ℕ) → i < bookings after → ordinal_of after i ≤ polls w
    ordinal_of_booked_most =
        each_booked (λ i. ordinal_of after i ≤ polls w) (omega (arith, new_ordinal))
        (λ i u. omega (arith, old_ordinal i u, ledger.sound.ordinal_most i u))

    pub ordinal_of_booked_held : (o : ℕ) → 1 ≤ o → o ≤ polls w → (i : ℕ) × (i < bookings after) × (ordinal_of after i ≡ o)
    ordinal_of_booked_held o l u =
        let holder = ledger.sound.ordinal_held o l u in
        (holder.0, omega (arith, bookings_booked w name slot parents ledger.whole, holder.1), old_ordinal holder.0 holder.1 ∙ holder.2)

    pub ordinal_of_booked_alone : (i : ℕ) → i < bookings after → (j : ℕ) → j < bookings after → i ≢ j → ordinal_of after i ≢ 0 → ordinal_of after i ≢ ordinal_of after j
    ordinal_of_booked_alone =
        each_booked (λ i. (j : ℕ) → j < bookings after → i ≢ j → ordinal_of after i ≢ 0 → ordinal_of after i ≢ ordinal_of after j)
        (λ j v q z. absurd (z new_ordinal))
        (λ i u.
        each_booked (λ j. i ≢ j → ordinal_of after i ≢ 0 → ordinal_of after i ≢ ordinal_of after j)
        (λ q z e. z (e ∙ new_ordinal))
        (λ j v q z e. ledger.sound.ordinal_alone i j u v q (λ y. z (old_ordinal i u ∙ y)) (sym (old_ordinal i u) ∙ e ∙ old_ordinal j v)))

    pub mark_of_booked_known : (i : ℕ) → i < bookings after → mark_of after i ≤ 1
    mark_of_booked_known =
        each_booked (λ i. mark_of after i ≤ 1) (omega (arith, new_mark)) (λ i u. omega (arith, mark_of_booked_old i u, ledger.sound.mark_known i u))

    pub mark_of_booked_alone : (i : ℕ) → i < bookings after → (j : ℕ) → j < bookings after → i ≢ j → mark_of after i ≡ 1 → mark_of after j ≡ 1 → slot_of after i ≢ slot_of after j
    mark_of_booked_alone =
        each_booked (λ i. (j : ℕ) → j < bookings after → i ≢ j → mark_of after i ≡ 1 → mark_of after j ≡ 1 → slot_of after i ≢ slot_of after j)
        (λ j v q mi. absurd (omega (arith, new_mark)))
        (λ i u.
        each_booked (λ j. i ≢ j → mark_of after i ≡ 1 → mark_of after j ≡ 1 → slot_of after i ≢ slot_of after j)
        (λ q mi mj. absurd (omega (arith, new_mark)))
        (λ j v q mi mj e.
        ledger.sound.mark_alone i j u v q (sym (mark_of_booked_old i u) ∙ mi) (sym (mark_of_booked_old j v) ∙ mj) (sym (old_slot i u) ∙ e ∙ old_slot j v)))

    -- no word that is a mark changes, of a booking or of a record that is none
    pub mark_of_booked : (i : ℕ) → i < most_bookings → mark_of after i ≡ mark_of w i
    mark_of_booked i u = elim (ℕ_discrete i (bookings w)) [ yes e ↦ rw e (new_mark ∙ sym (ledger.sound.rest_zero (bookings w) mark_field (omega arith) bookable.room (omega arith))) | no d ↦ field_booked_other w name slot parents i u d mark_field (omega arith) ]

    pub confidence_of_booked_most : (i : ℕ) → i < bookings after → confidence_of after i ≤ chits w
    confidence_of_booked_most =
        each_booked (λ i. confidence_of after i ≤ chits w)
        (omega (arith, confidence_of_booked_same w name slot parents ledger.whole bookable.room))
        (λ i u. omega (arith, confidence_of_booked_old i u, ledger.sound.confidence_most i u))

    pub field_booked_rest : (i g : ℕ) → bookings after ≤ i → i < most_bookings → g < record_words → field after i g ≡ 0
    field_booked_rest i g l u h =
        let past : bookings w < i = omega (arith, bookings_booked w name slot parents ledger.whole) in
        field_booked_other w name slot parents i u (omega arith) g h ∙ ledger.sound.rest_zero i g (omega arith) u h
