-- What the rows of a day say of the words that hold it: as many bookings and polls, each as the words have it. Assumes nothing.
use mathlib.Core.Path.{◌≡◌, sym, ap, ◌∙◌}
use mathlib.Core.List.{List, []}
use mathlib.Core.Bool.{false}
use Prim.Native.Nat.{ℕ, zero, suc, ◌+◌, ◌-◌, ◌<◌}
use native.Mathlib.Omega.{arith}
use lib.ListN.{length}
use Rattle.loops.specs.Fill.{from}
use Rattle.loops.proofs.Fill.{length_from, element_from}
use Rattle.rules.specs.Layout.{bookings, setting_in, polls, name_of, slot_of}
use Rattle.rules.specs.Sound.{Ledger}
use Rattle.day_file.specs.Day.{Day, booking_at, holder, poll_of, day_of, booking_in, name_in, slot_in, poll_in}

module _ (w : List ℕ) (d : Day) (e : day_of w ≡ d) where
  pub setting_told : setting_in w ≡ d.setting
  unfolding day_of
  setting_told = ap (λ x. x.setting) e

  -- the lists as they are written
  bookings_listed : from (booking_at w) 1 (bookings w - 1) ≡ d.bookings
  unfolding day_of
  bookings_listed = ap (λ x. x.bookings) e

  polls_listed : from (λ ordinal. poll_of w (holder w ordinal)) 1 (polls w) ≡ d.polls
  unfolding day_of
  polls_listed = ap (λ x. x.polls) e

  -- how many: the genesis is not listed
  listed_count : bookings w - 1 ≡ length d.bookings
  listed_count = sym (length_from (booking_at w) 1 (bookings w - 1)) ∙ ap length bookings_listed

  pub polls_told : polls w ≡ length d.polls
  polls_told = sym (length_from (λ ordinal. poll_of w (holder w ordinal)) 1 (polls w)) ∙ ap length polls_listed

  -- the booking after j others is number j + 1
  pub booking_told : (j : ℕ) → j < length d.bookings → booking_in d.bookings j ≡ booking_at w (suc j)
  booking_told j h =
      let number : 1 + j ≡ suc j = omega arith in
      ap (λ l. booking_in l j) (sym bookings_listed)
      ∙ element_from (booking_at w) (record { name = 0; slot = 0; parents = [] }) 1 (bookings w - 1) j (omega (arith, listed_count))
      ∙ ap (booking_at w) number

  -- the poll after r others has ordinal r + 1
  pub poll_told : (r : ℕ) → r < length d.polls → poll_in d.polls r ≡ poll_of w (holder w (suc r))
  poll_told r h =
      let number : 1 + r ≡ suc r = omega arith in
      ap (λ l. poll_in l r) (sym polls_listed)
      ∙ element_from (λ ordinal. poll_of w (holder w ordinal)) (record { booking = 0; success = false }) 1 (polls w) r (omega (arith, polls_told))
      ∙ ap (λ ordinal. poll_of w (holder w ordinal)) number

  module _ (ledger : Ledger w) where
    pub bookings_told : bookings w ≡ length d.bookings + 1
    bookings_told = omega (arith, listed_count, ledger.sound.bookings_least)

    pub name_told : (i : ℕ) → i < bookings w → name_in d.bookings i ≡ name_of w i
    name_told zero h = sym ledger.sound.genesis_name
    name_told (suc j) h = ap (λ b. b.name) (booking_told j (omega (arith, bookings_told)))

    pub slot_told : (i : ℕ) → i < bookings w → slot_in d.bookings i ≡ slot_of w i
    slot_told zero h = sym ledger.sound.genesis_slot
    slot_told (suc j) h = ap (λ b. b.slot) (booking_told j (omega (arith, bookings_told)))
