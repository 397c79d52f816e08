-- The day of a ledger keeps the rules of a day: each follows from what soundness asks of the words. Assumes nothing.
use mathlib.Core.Path.{◌≡◌, refl, sym, ap, ◌∙◌}
use mathlib.Core.Bool.{Bool, true, false, not, ◌||◌}
use mathlib.Core.List.{List, [], ◌∷◌}
use Prim.Native.Nat.{ℕ, suc, ◌+◌, ◌<◌, ◌≤◌}
use native.Mathlib.Nat.{zero-add}
use native.Mathlib.Decide.{dec_lt}
use native.Mathlib.Omega.{arith}
use lib.ListN.{length, get_or}
use lib.Dec.{eqb, ltb, leb}
use borrow.Author.Tests.{lt-ltb, le-ltb, le-leb, lt-leb, ne_eqb}
use Rattle.loops.specs.Search.{all, any}
use Rattle.loops.specs.Fill.{from}
use Rattle.loops.proofs.Search.{→all, →none}
use Rattle.loops.proofs.Bools.{row_by}
use Rattle.loops.proofs.Fill.{length_from, get_d_from}
use Rattle.terms.specs.Setting.{is_good}
use Rattle.rules.specs.Layout.{most_bookings, most_parents, slots, bookings, setting_in, slot_of, parent_of, ordinal_of}
use Rattle.rules.specs.Sound.{Booking, Ledger}
use Rattle.rules.specs.Book.{has_twice}
use Rattle.rules.specs.Calls.{is_bad_slot, is_bad_count}
use Rattle.rule_laws.proofs.Good.{Good→isGood}
use Rattle.day_file.specs.Day.{DayBooking, DayPoll, Day, parent_count, booking_at, holder, day_of, booking_in, name_in, polled_in}
use Rattle.day_file.specs.DayRules.{name_free, lower_only, booking_passes, poll_passes, day_good}
use Rattle.day_file.proofs.Parents.{parent_count_most, parent_used, parent_below, parent_unused}
use Rattle.day_file.proofs.Holders.{holder_below, holder_holds}
use Rattle.promises.proofs.DayRows.{setting_told, bookings_told, booking_told, name_told, polls_told, poll_told}

-- ---- the rules as rows of tests

abbrev pub booking_tests : List DayBooking → ℕ → List Bool
booking_tests bs j =
    let b = booking_in bs j in
    name_free bs j ∷ not (is_bad_slot b.slot) ∷ not (is_bad_count (length b.parents)) ∷ lower_only j b.parents
    ∷ not (has_twice b.parents) ∷ ltb (j + 1) most_bookings ∷ []

abbrev pub poll_tests : ℕ → List DayPoll → ℕ → List Bool
poll_tests most qs q =
    not (eqb (polled_in qs q) 0) ∷ leb (polled_in qs q) most ∷ not (any (λ r. eqb (polled_in qs r) (polled_in qs q)) q) ∷ []

abbrev pub day_tests : Day → List Bool
day_tests d =
    is_good d.setting ∷ all (booking_passes d.bookings) (length d.bookings)
    ∷ all (poll_passes (length d.bookings) d.polls) (length d.polls) ∷ []

-- ---- what the words say

-- neither of two
fails_both : (a b : Bool) → a ≡ false → b ≡ false → not (a || b) ≡ true
fails_both a b p q = rw (p, q)

-- a booking has a parent
parent_count_least : (w : List ℕ) (i : ℕ) → Booking w i → 1 ≤ parent_count w i
parent_count_least w i b = go (dec_lt 0 (parent_count w i))
  where
    go : Dec (0 < parent_count w i) → 1 ≤ parent_count w i
    go (yes h) = h
    go (no h) = absurd (b.parent_some.2 (parent_unused w i b b.parent_some.0 (omega arith) b.parent_some.1))

module _ (w : List ℕ) (d : Day) (e : day_of w ≡ d) (ledger : Ledger w) where
  many : bookings w ≡ length d.bookings + 1
  many = bookings_told w d e ledger

  -- ---- a booking's row

  module _ (j : ℕ) (h : j < length d.bookings) where
    abbrev b : DayBooking
    b = booking_in d.bookings j

    told : b ≡ booking_at w (suc j)
    told = booking_told w d e j h

    sound : Booking w (suc j)
    sound = ledger.sound.booking (suc j) (omega arith) (omega (arith, many))

    slot_told : b.slot ≡ slot_of w (suc j)
    slot_told = ap (λ x. x.slot) told

    parents_told : b.parents ≡ from (parent_of w (suc j)) 0 (parent_count w (suc j))
    parents_told = ap (λ x. x.parents) told

    count_told : length b.parents ≡ parent_count w (suc j)
    count_told = ap length parents_told ∙ length_from (parent_of w (suc j)) 0 (parent_count w (suc j))

    parent_told : (a : ℕ) → a < length b.parents → get_or b.parents a 0 ≡ parent_of w (suc j) a
    parent_told a u =
        ap (λ l. get_or l a 0) parents_told
        ∙ (rw zero-add at (get_d_from (parent_of w (suc j)) 0 (parent_count w (suc j)) a (omega (arith, count_told))))

    name_free_lem : name_free d.bookings j ≡ true
    name_free_lem =
        ap not (→none (λ i. eqb (name_in d.bookings i) b.name) (j + 1) (λ i u.
        ne_eqb (name_in d.bookings i) b.name (λ q.
        ledger.sound.name_alone i (suc j) (omega (arith, many)) (omega (arith, many)) (λ z. omega arith)
        (sym (name_told w d e ledger i (omega (arith, many))) ∙ q ∙ ap (λ x. x.name) told))))

    parents_lower_lem : lower_only j b.parents ≡ true
    parents_lower_lem =
        →all (λ a. ltb (get_or b.parents a 0) (j + 1)) (length b.parents) (λ a u.
        lt-ltb (get_or b.parents a 0) (j + 1) (omega (arith, parent_told a u, parent_below w (suc j) sound a (omega (arith, count_told)))))

    parents_once : has_twice b.parents ≡ false
    unfolding has_twice
    parents_once =
        →none (λ a. any (λ c. eqb (get_or b.parents c 0) (get_or b.parents a 0)) a) (length b.parents) (λ a u.
        →none (λ c. eqb (get_or b.parents c 0) (get_or b.parents a 0)) a (λ c l.
        ne_eqb (get_or b.parents c 0) (get_or b.parents a 0) (λ q.
        sound.parents_distinct c a l (omega (arith, count_told, parent_count_most w (suc j))) (parent_used w (suc j) a (omega (arith, count_told)))
        (sym (parent_told c (omega arith)) ∙ q ∙ parent_told a u))))

    row_good_lem : booking_passes d.bookings j ≡ true
    unfolding booking_passes
    row_good_lem =
        row_by (booking_tests d.bookings j)
        name_free_lem
        (fails_both (eqb b.slot 0) (leb slots b.slot)
        (ne_eqb b.slot 0 (λ z. omega (arith, slot_told, sound.slot_least))) (lt-leb slots b.slot (omega (arith, slot_told, sound.slot_most))))
        (fails_both (eqb (length b.parents) 0) (ltb most_parents (length b.parents))
        (ne_eqb (length b.parents) 0 (λ z. omega (arith, count_told, parent_count_least w (suc j) sound)))
        (le-ltb most_parents (length b.parents) (omega (arith, count_told, parent_count_most w (suc j)))))
        parents_lower_lem
        (ap not parents_once)
        (lt-ltb (j + 1) most_bookings (omega (arith, many, ledger.sound.bookings_most)))

  -- ---- a poll's row

  module _ (q : ℕ) (h : q < length d.polls) where
    polled_told : polled_in d.polls q ≡ holder w (suc q)
    polled_told = ap (λ x. x.booking) (poll_told w d e q h)

    polled_below : holder w (suc q) < bookings w
    polled_below = holder_below w ledger.sound (suc q) (omega arith) (omega (arith, polls_told w d e))

    polled_ordinal : ordinal_of w (polled_in d.polls q) ≡ suc q
    polled_ordinal = ap (ordinal_of w) polled_told ∙ holder_holds w ledger.sound (suc q) (omega arith) (omega (arith, polls_told w d e))

  poll_good : (q : ℕ) → q < length d.polls → poll_passes (length d.bookings) d.polls q ≡ true
  unfolding poll_passes
  poll_good q h =
      let polled : ℕ → ℕ = polled_in d.polls in
      row_by (poll_tests (length d.bookings) d.polls q)
      (ap not (ne_eqb (polled q) 0 (λ z. omega (arith, sym (ap (ordinal_of w) z) ∙ polled_ordinal q h, ledger.sound.genesis_ordinal))))
      (le-leb (polled q) (length d.bookings) (omega (arith, polled_told q h, polled_below q h, many)))
      (ap not (→none (λ r. eqb (polled r) (polled q)) q (λ r l.
      ne_eqb (polled r) (polled q) (λ z. omega (arith, sym (polled_ordinal r (omega arith)) ∙ ap (ordinal_of w) z ∙ polled_ordinal q h)))))

  -- ---- the whole

  pub held_good : day_good d ≡ true
  unfolding day_good
  held_good =
      row_by (day_tests d)
      (ap is_good (sym (setting_told w d e)) ∙ Good→isGood (setting_in w) ledger.sound.setting)
      (→all (booking_passes d.bookings) (length d.bookings) row_good_lem)
      (→all (poll_passes (length d.bookings) d.polls) (length d.polls) poll_good)

-- so does the day of every ledger
pub day_of_good : (w : List ℕ) → Ledger w → day_good (day_of w) ≡ true
day_of_good w = held_good w (day_of w) refl
