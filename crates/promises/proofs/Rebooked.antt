-- What one more booking of a day's replay leaves, where it is taken: each parent's number is found again by its name, so the words are those with the numbers
-- themselves; they are a ledger, and its day has that booking more. Assumes nothing.
use Rattle.std.specs.Prelude.{Err, Some}
use mathlib.Core.Path.{◌≡◌, refl, sym, ap, subst, ◌∙◌}
use mathlib.Core.Bool.{Bool, true, false, cond, true≢false}
use mathlib.Core.List.{List, [], ◌∷◌, ◌++◌}
use Prim.Native.Nat.{ℕ, ◌+◌, ◌-◌, ◌<◌, ◌≤◌}
use native.Mathlib.Nat.{zero-add}
use native.Mathlib.Decide.{dec_lt}
use native.Mathlib.Omega.{arith}
use lib.ListN.{length, get_or}
use lib.Dec.{eqb, ltb}
use borrow.Author.Tests.{ltb-true, lt-ltb, le-ltb, eq-eqb, ne_eqb}
use Rattle.loops.specs.Fill.{from}
use Rattle.loops.proofs.Search.{all→, first_ends}
use Rattle.loops.proofs.Fill.{length_from, get_d_from, from_more, from_agree, from_elements}
use Rattle.terms.specs.declared.answer.Refusal.{Refusal}
use Rattle.terms.specs.declared.answer.Refusal.TheVariants.{UnknownParent}
use Rattle.terms.specs.Answers.{Outcome, outcome, is_taken}
use Rattle.rules.specs.Layout.{most_parents, record_words, none, field, state_field, ordinal_field, bookings, polls, name_of, parent_of}
use Rattle.rules.specs.Sound.{Sound, Ledger}
use Rattle.rules.specs.Book.{look_up, number_of, parent_found, parent_number, booked, booked_with}
use Rattle.rules.specs.Calls.{test_of, book_by, book_call}
use Rattle.rule_laws.proofs.Lookup.{found_is}
use Rattle.day_file.specs.Day.{DayBooking, Day, parent_count, booking_at, holder, poll_of, day_of}
use Rattle.day_file.specs.Replay.{are_booked, names_of, rebook_by}
use Rattle.day_file.specs.InTurn.{place_of, places}
use Rattle.promises.proofs.Taken.{Bookable, book_taken}
use Rattle.promises.proofs.BookedWords.{
  bookings_booked,
  polls_booked,
  setting_in_booked,
  name_of_booked_same,
  slot_of_booked_same,
  parent_of_booked_same,
}
use Rattle.promises.proofs.BookedRecords.{field_booked_old}
use Rattle.promises.proofs.Booked.{booked_ledger, booked_grown}
use Rattle.promises.proofs.DayGrown.{bookings_grown, polls_kept}

-- ---- parents by their names

module _ (w : List ℕ) (sound : Sound w) (numbers : List ℕ) (known : are_booked w numbers ≡ true) where
  pub number_below : (a : ℕ) → a < length numbers → get_or numbers a 0 < bookings w
  number_below a u = ltb-true _ _ (all→ (λ a. ltb (get_or numbers a 0) (bookings w)) (length numbers) known a u)

  pub number_found : (a : ℕ) → a < length numbers → parent_found w (names_of w numbers) a ≡ Some (get_or numbers a 0)
  number_found a u =
      ap (look_up w) (rw zero-add at (get_d_from (λ a. name_of w (get_or numbers a 0)) 0 (length numbers) a u))
      ∙ found_is w sound (get_or numbers a 0) (number_below a u)

  place_found : (a : ℕ) → parent_number w (names_of w numbers) a ≡ place_of numbers a
  place_found a = go (dec_lt a (length numbers))
    where
      long : length (names_of w numbers) ≡ length numbers
      long = length_from (λ a. name_of w (get_or numbers a 0)) 0 (length numbers)

      go : Dec (a < length numbers) → parent_number w (names_of w numbers) a ≡ place_of numbers a
      go (yes u) = rw (long, lt-ltb a (length numbers) u) (ap number_of (number_found a u))
      go (no u) = rw (long, le-ltb a (length numbers) (omega arith))

  -- so the words are those with the numbers themselves
  pub booked_places : (name slot : ℕ) → booked w name slot (names_of w numbers) ≡ booked_with w name slot (places numbers)
  unfolding booked
  booked_places name slot = λ k. booked_with w name slot (place_found 0 k ∷ place_found 1 k ∷ place_found 2 k ∷ place_found 3 k ∷ [])

-- ---- a taken one

-- one of two outcomes, of which the second is a refusal
pub taken_cond : (t : Bool) (o : Outcome) (r : Refusal) (w : List ℕ) → is_taken (cond t o (outcome (Err r) w)).answer ≡ true
    → (t ≡ true) × (cond t o (outcome (Err r) w) ≡ o)
taken_cond true o r w e = (refl, refl)
taken_cond false o r w e = absurd (true≢false (sym e))

-- what it has passed, and its words
pub record Rebooking (b : DayBooking) (w u : List ℕ) : Type 0 where
  pub ledger : Ledger w
  pub known : are_booked w b.parents ≡ true
  pub able : Bookable w b.name b.slot (names_of w b.parents)
  pub words : u ≡ booked w b.name b.slot (names_of w b.parents)

pub rebook_taken : (b : DayBooking) (w : List ℕ) → is_taken (rebook_by test_of b w).answer ≡ true → Rebooking b w (rebook_by test_of b w).words
unfolding book_call
rebook_taken b w e =
    let one : Outcome = book_by test_of w b.name b.slot (names_of w b.parents) in
    let called = taken_cond (are_booked w b.parents) one UnknownParent w e in
    let taken = book_taken w b.name b.slot (names_of w b.parents) (sym (ap (λ o. is_taken o.answer) called.1) ∙ e) in
    record { ledger = taken.0; known = called.0; able = taken.1; words = ap (λ o. o.words) called.1 ∙ taken.2 }

-- ---- the day that it leaves

-- a day with one booking more
abbrev pub with_booking : Day → DayBooking → Day
with_booking d b = record { setting = d.setting; bookings = d.bookings ++ (b ∷ []); polls = d.polls }

module _
    (b : DayBooking) (w : List ℕ) (ledger : Ledger w) (known : are_booked w b.parents ≡ true)
    (able : Bookable w b.name b.slot (names_of w b.parents))
  where
    abbrev after : List ℕ
    after = booked w b.name b.slot (names_of w b.parents)

    few : length b.parents ≤ most_parents
    few = omega (arith, able.parents_most, length_from (λ a. name_of w (get_or b.parents a 0)) 0 (length b.parents))

    -- the parents of the new booking
    parent_new : (a : ℕ) → a < most_parents → parent_of after (bookings w) a ≡ place_of b.parents a
    parent_new a h =
        parent_of_booked_same w b.name b.slot (names_of w b.parents) ledger.whole able.room a h
        ∙ place_found w ledger.sound b.parents known a

    parent_given : (a : ℕ) → a < length b.parents → parent_of after (bookings w) a ≡ get_or b.parents a 0
    parent_given a h = parent_new a (omega (arith, few)) ∙ rw (lt-ltb a (length b.parents) h)

    parent_count_new : parent_count after (bookings w) ≡ length b.parents
    unfolding parent_count
    parent_count_new =
        first_ends (λ a. eqb (parent_of after (bookings w) a) none) most_parents (length b.parents) few
        (λ a h. ne_eqb (parent_of after (bookings w) a) none (λ e. omega (arith, parent_given a h, number_below w ledger.sound b.parents known a h, ledger.sound.bookings_most)))
        (λ h. eq-eqb _ _ (parent_new (length b.parents) h ∙ rw (le-ltb (length b.parents) (length b.parents) (omega arith))))

    parents_new : from (parent_of after (bookings w)) 0 (parent_count after (bookings w)) ≡ b.parents
    parents_new =
        ap (from (parent_of after (bookings w)) 0) parent_count_new
        ∙ from_agree (parent_of after (bookings w)) (λ a. get_or b.parents a 0) 0 (length b.parents) (λ a l h. parent_given a (omega arith))
        ∙ from_elements b.parents

    booking_new : booking_at after (bookings w) ≡ b
    booking_new =
        let name = name_of_booked_same w b.name b.slot (names_of w b.parents) ledger.whole able.room in
        let slot = slot_of_booked_same w b.name b.slot (names_of w b.parents) ledger.whole able.room in
        λ k. record { name = name k; slot = slot k; parents = parents_new k }

    more : bookings after ≡ bookings w + 1
    more = bookings_booked w b.name b.slot (names_of w b.parents) ledger.whole

    bookings_listed : from (booking_at after) 1 (bookings after - 1) ≡ from (booking_at w) 1 (bookings w - 1) ++ (b ∷ [])
    bookings_listed =
        let least = ledger.sound.bookings_least in
        let count : bookings after - 1 ≡ (bookings w - 1) + 1 = omega (arith, more) in
        let last : 1 + (bookings w - 1) ≡ bookings w = omega arith in
        let old = bookings_grown w after (booked_grown w b.name b.slot (names_of w b.parents) ledger able) least in
        let new : booking_at after (1 + (bookings w - 1)) ≡ b = ap (booking_at after) last ∙ booking_new in
        ap (from (booking_at after) 1) count ∙ from_more (booking_at after) 1 (bookings w - 1) ∙ (λ k. old k ++ (new k ∷ []))

    polls_listed : from (λ o. poll_of after (holder after o)) 1 (polls after) ≡ from (λ o. poll_of w (holder w o)) 1 (polls w)
    polls_listed =
        let same : (i g : ℕ) → i < bookings w → g < record_words → field after i g ≡ field w i g
        = field_booked_old w b.name b.slot (names_of w b.parents) ledger able in
        ap (from (λ o. poll_of after (holder after o)) 1) (polls_booked w b.name b.slot (names_of w b.parents))
        ∙ polls_kept w after ledger (booked_ledger w b.name b.slot (names_of w b.parents) ledger able) (omega (arith, more))
        (λ i h d. (same i ordinal_field h (omega arith), same i state_field h (omega arith)))

    booked_day : day_of after ≡ with_booking (day_of w) b
    unfolding day_of
    booked_day =
        let setting = setting_in_booked w b.name b.slot (names_of w b.parents) in
        λ k. record { setting = setting k; bookings = bookings_listed k; polls = polls_listed k }

-- ---- together

module _ (b : DayBooking) (w u : List ℕ) (r : Rebooking b w u) where
  pub rebooked_ledger : Ledger u
  rebooked_ledger =
      subst Ledger (sym r.words) (booked_ledger w b.name b.slot (names_of w b.parents) r.ledger r.able)

  pub rebooked_more : bookings u ≡ bookings w + 1
  rebooked_more = ap bookings r.words ∙ bookings_booked w b.name b.slot (names_of w b.parents) r.ledger.whole

  pub rebooked_day : day_of u ≡ with_booking (day_of w) b
  rebooked_day = ap day_of r.words ∙ booked_day b w r.ledger r.known r.able

  pub rebooked_places : u ≡ booked_with w b.name b.slot (places b.parents)
  rebooked_places = r.words ∙ booked_places w r.ledger.sound b.parents r.known b.name b.slot

  pub rebooked_few : length b.parents ≤ most_parents
  rebooked_few = few b w r.ledger r.known r.able
