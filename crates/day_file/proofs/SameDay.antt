-- CR 2: what two ledgers with the same day have in common: setting, bookings, and polls with their order and outcomes. Assumes nothing.
use mathlib.Core.Path.{◌≡◌, sym, ap, ◌∙◌}
use mathlib.Core.List.{List}
use mathlib.Core.Logic.{◌≢◌}
use Prim.Native.Nat.{ℕ, zero, suc, ◌-◌, ◌<◌, ◌≤◌}
use native.Mathlib.Decide.{dec_lt, ℕ_discrete}
use native.Mathlib.Omega.{arith}
use lib.Dec.{eqb}
use borrow.Author.Tests.{eqb-true, eqb-false, eq-eqb, ne_eqb}
use Rattle.loops.specs.Fill.{from}
use Rattle.loops.proofs.Fill.{from_same_count, from_same}
use Rattle.rules.specs.Layout.{most_parents, bookings, setting_in, polls, name_of, slot_of, parent_of, state_of, ordinal_of}
use Rattle.rules.specs.Sound.{Booking, Ledger}
use Rattle.day_file.specs.Day.{parent_count, booking_at, holder, poll_of, day_of}
use Rattle.day_file.proofs.Parents.{parent_unused}
use Rattle.day_file.proofs.Holders.{holder_holds, holder_alone}

module _ (w u : List ℕ) (e : day_of w ≡ day_of u) where
  pub same_setting : setting_in w ≡ setting_in u
  unfolding day_of
  same_setting = ap (λ d. d.setting) e

  -- the lists as they are written
  bookings_listed : from (booking_at w) 1 (bookings w - 1) ≡ from (booking_at u) 1 (bookings u - 1)
  unfolding day_of
  bookings_listed = ap (λ d. d.bookings) e

  polls_listed : from (λ ordinal. poll_of w (holder w ordinal)) 1 (polls w) ≡ from (λ ordinal. poll_of u (holder u ordinal)) 1 (polls u)
  unfolding day_of
  polls_listed = ap (λ d. d.polls) e

  pub same_polls : polls w ≡ polls u
  same_polls = from_same_count (λ ordinal. poll_of w (holder w ordinal)) (λ ordinal. poll_of u (holder u ordinal)) 1 (polls w) (polls u) polls_listed

  -- an ordinal's poll is of one booking, with one outcome
  same_poll : (ordinal : ℕ) → 1 ≤ ordinal → ordinal ≤ polls w → poll_of w (holder w ordinal) ≡ poll_of u (holder u ordinal)
  same_poll ordinal l h =
      from_same (λ ordinal. poll_of w (holder w ordinal)) (λ ordinal. poll_of u (holder u ordinal)) 1 (polls w) (polls u) polls_listed ordinal l (omega arith)

  module _ (lw : Ledger w) (lu : Ledger u) where
    pub same_bookings : bookings w ≡ bookings u
    same_bookings =
        omega (
          arith,
          from_same_count (booking_at w) (booking_at u) 1 (bookings w - 1) (bookings u - 1) bookings_listed,
          lw.sound.bookings_least,
          lu.sound.bookings_least,
        )

    same_booking : (i : ℕ) → 1 ≤ i → i < bookings w → booking_at w i ≡ booking_at u i
    same_booking i l h = from_same (booking_at w) (booking_at u) 1 (bookings w - 1) (bookings u - 1) bookings_listed i l (omega arith)

    pub same_name : (i : ℕ) → i < bookings w → name_of w i ≡ name_of u i
    same_name zero h = lw.sound.genesis_name ∙ sym lu.sound.genesis_name
    same_name (suc i) h = ap (λ b. b.name) (same_booking (suc i) (omega arith) h)

    pub same_slot : (i : ℕ) → i < bookings w → slot_of w i ≡ slot_of u i
    same_slot zero h = lw.sound.genesis_slot ∙ sym lu.sound.genesis_slot
    same_slot (suc i) h = ap (λ b. b.slot) (same_booking (suc i) (omega arith) h)

    pub same_parent : (i a : ℕ) → i < bookings w → a < most_parents → parent_of w i a ≡ parent_of u i a
    same_parent zero a h k = lw.sound.genesis_parents a k ∙ sym (lu.sound.genesis_parents a k)
    same_parent (suc i) a h k = go (dec_lt a (parent_count w (suc i)))
      where
        listed : from (parent_of w (suc i)) 0 (parent_count w (suc i)) ≡ from (parent_of u (suc i)) 0 (parent_count u (suc i))
        listed = ap (λ b. b.parents) (same_booking (suc i) (omega arith) h)

        count : parent_count w (suc i) ≡ parent_count u (suc i)
        count = from_same_count (parent_of w (suc i)) (parent_of u (suc i)) 0 (parent_count w (suc i)) (parent_count u (suc i)) listed

        go : Dec (a < parent_count w (suc i)) → parent_of w (suc i) a ≡ parent_of u (suc i) a
        go (yes v) =
            from_same (parent_of w (suc i)) (parent_of u (suc i)) 0 (parent_count w (suc i)) (parent_count u (suc i)) listed a (omega arith) (omega arith)
        go (no v) =
            parent_unused w (suc i) (lw.sound.booking (suc i) (omega arith) h) a (omega arith) k
            ∙ sym (parent_unused u (suc i) (lu.sound.booking (suc i) (omega arith) (omega (arith, same_bookings))) a (omega (arith, count)) k)

    -- a booking that was polled in w was polled in u, with the same ordinal
    module _ (i : ℕ) (h : i < bookings w) (polled : ordinal_of w i ≢ 0) where
      here : holder u (ordinal_of w i) ≡ i
      here = sym (ap (λ q. q.booking) (same_poll (ordinal_of w i) (omega arith) (lw.sound.ordinal_most i h))) ∙ holder_alone w lw.sound i h polled

      polled_too : ordinal_of u i ≡ ordinal_of w i
      polled_too =
          ap (ordinal_of u) (sym here)
          ∙ holder_holds u lu.sound (ordinal_of w i) (omega arith) (omega (arith, lw.sound.ordinal_most i h, same_polls))

      same_outcome : eqb (state_of w i) 2 ≡ eqb (state_of u i) 2
      same_outcome =
          ap (λ j. eqb (state_of w j) 2) (sym (holder_alone w lw.sound i h polled))
          ∙ ap (λ q. q.success) (same_poll (ordinal_of w i) (omega arith) (lw.sound.ordinal_most i h))
          ∙ ap (λ j. eqb (state_of u j) 2) here

-- polled and told apart by whether the state is 2: the same state
outcome_state : (x y : ℕ) → x ≢ 0 → x ≤ 2 → y ≢ 0 → y ≤ 2 → eqb x 2 ≡ eqb y 2 → x ≡ y
outcome_state x y p l q m e = go (ℕ_discrete x 2)
  where
    go : Dec (x ≡ 2) → x ≡ y
    go (yes z) = omega (arith, eqb-true y 2 (sym e ∙ eq-eqb x 2 z))
    go (no d) = omega (arith, eqb-false y 2 (sym e ∙ ne_eqb x 2 d))

module _ (w u : List ℕ) (e : day_of w ≡ day_of u) (lw : Ledger w) (lu : Ledger u) where
  pub same_ordinal : (i : ℕ) → i < bookings w → ordinal_of w i ≡ ordinal_of u i
  same_ordinal i h = go (ℕ_discrete (ordinal_of w i) 0) (ℕ_discrete (ordinal_of u i) 0)
    where
      go : Dec (ordinal_of w i ≡ 0) → Dec (ordinal_of u i ≡ 0) → ordinal_of w i ≡ ordinal_of u i
      go (yes z) (yes y) = z ∙ sym y
      go (yes z) (no d) = polled_too u w (sym e) lu lw i (omega (arith, same_bookings w u e lw lu)) d
      go (no d) y = sym (polled_too w u e lw lu i h d)

  pub same_state : (i : ℕ) → i < bookings w → state_of w i ≡ state_of u i
  same_state zero h = lw.sound.genesis_state ∙ sym lu.sound.genesis_state
  same_state (suc i) h = go (ℕ_discrete (ordinal_of w (suc i)) 0)
    where
      bw : Booking w (suc i)
      bw = lw.sound.booking (suc i) (omega arith) h

      bu : Booking u (suc i)
      bu = lu.sound.booking (suc i) (omega arith) (omega (arith, same_bookings w u e lw lu))

      go : Dec (ordinal_of w (suc i) ≡ 0) → state_of w (suc i) ≡ state_of u (suc i)
      go (yes z) = bw.ordinal_waiting.0 z ∙ sym (bu.ordinal_waiting.0 (sym (same_ordinal (suc i) h) ∙ z))
      go (no d) =
          outcome_state (state_of w (suc i)) (state_of u (suc i)) (λ z. d (bw.ordinal_waiting.1 z)) bw.state_known
          (λ z. d (same_ordinal (suc i) h ∙ bu.ordinal_waiting.1 z)) bu.state_known (same_outcome w u e lw lu (suc i) h d)
