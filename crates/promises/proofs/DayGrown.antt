-- Where a workspace has grown from another, its day has the older bookings as they were, and the polls of before if their ordinals and states stay.
-- Assumes nothing.
use mathlib.Core.Path.{◌≡◌, sym, ap, ◌∙◌}
use mathlib.Core.List.{List}
use mathlib.Core.Logic.{◌≢◌}
use Prim.Native.Nat.{ℕ, ◌-◌, ◌<◌, ◌≤◌}
use native.Mathlib.Omega.{arith}
use lib.Dec.{eqb}
use Rattle.loops.specs.Fill.{from}
use Rattle.loops.proofs.Search.{first_from_same}
use Rattle.loops.proofs.Fill.{from_agree}
use Rattle.rules.specs.Layout.{most_parents, none, bookings, polls, name_of, slot_of, parent_of, state_of, ordinal_of}
use Rattle.rules.specs.Sound.{Ledger}
use Rattle.day_file.specs.Day.{parent_count, booking_at, holder, poll_of}
use Rattle.day_file.proofs.Parents.{parent_count_most}
use Rattle.day_file.proofs.Holders.{holder_below, holder_holds, holder_alone}
use Rattle.promises.specs.Lasting.{Grown}

-- ---- one booking

module _ (w u : List ℕ) (i : ℕ) (same : (a : ℕ) → a < most_parents → parent_of u i a ≡ parent_of w i a) where
  parent_count_same : parent_count u i ≡ parent_count w i
  unfolding parent_count
  parent_count_same =
      first_from_same (λ a. eqb (parent_of u i a) none) (λ a. eqb (parent_of w i a) none) 0 most_parents (λ a l v. ap (λ p. eqb p none) (same a (omega arith)))

  parents_same : from (parent_of u i) 0 (parent_count u i) ≡ from (parent_of w i) 0 (parent_count w i)
  parents_same =
      from_agree (parent_of u i) (parent_of w i) 0 (parent_count u i) (λ a l v. same a (omega (arith, parent_count_most u i)))
      ∙ ap (from (parent_of w i) 0) parent_count_same

  pub booking_at_same : name_of u i ≡ name_of w i → slot_of u i ≡ slot_of w i → booking_at u i ≡ booking_at w i
  booking_at_same name slot = λ k. record { name = name k; slot = slot k; parents = parents_same k }

-- ---- all of them

module _ (w u : List ℕ) (grown : Grown w u) where
  booking_at_grown : (i : ℕ) → i < bookings w → booking_at u i ≡ booking_at w i
  booking_at_grown i h = booking_at_same w u i (λ a. grown.parent i a h) (grown.name i h) (grown.slot i h)

  pub bookings_grown : 1 ≤ bookings w → from (booking_at u) 1 (bookings w - 1) ≡ from (booking_at w) 1 (bookings w - 1)
  bookings_grown some = from_agree (booking_at u) (booking_at w) 1 (bookings w - 1) (λ i l v. booking_at_grown i (omega arith))

-- ---- the polls

-- a booking that was polled was so as before
abbrev pub PollsKept : List ℕ → List ℕ → Type 0
PollsKept w u = (i : ℕ) → i < bookings w → ordinal_of w i ≢ 0 → (ordinal_of u i ≡ ordinal_of w i) × (state_of u i ≡ state_of w i)

module _ (w u : List ℕ) (lw : Ledger w) (lu : Ledger u) (more : bookings w ≤ bookings u) (kept : PollsKept w u) where
  module _ (ordinal : ℕ) (least : 1 ≤ ordinal) (most : ordinal ≤ polls w) where
    abbrev i : ℕ
    i = holder w ordinal

    below : i < bookings w
    below = holder_below w lw.sound ordinal least most

    held : ordinal_of w i ≡ ordinal
    held = holder_holds w lw.sound ordinal least most

    still : (ordinal_of u i ≡ ordinal_of w i) × (state_of u i ≡ state_of w i)
    still = kept i below (λ e. omega (arith, held))

    holder_kept : holder u ordinal ≡ i
    holder_kept = ap (holder u) (sym (still.0 ∙ held)) ∙ holder_alone u lu.sound i (omega (arith, below)) (λ e. omega (arith, held, still.0))

    poll_kept : poll_of u (holder u ordinal) ≡ poll_of w (holder w ordinal)
    poll_kept = ap (poll_of u) holder_kept ∙ (λ k. record { booking = i; success = eqb (still.1 k) 2 })

  pub polls_kept : from (λ ordinal. poll_of u (holder u ordinal)) 1 (polls w) ≡ from (λ ordinal. poll_of w (holder w ordinal)) 1 (polls w)
  polls_kept =
      from_agree (λ ordinal. poll_of u (holder u ordinal)) (λ ordinal. poll_of w (holder w ordinal)) 1 (polls w) (λ o l v. poll_kept o l (omega arith))
