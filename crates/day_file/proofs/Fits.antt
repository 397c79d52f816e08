-- CR 2: the day of a ledger whose names have 64 bits fits its bytes. Soundness bounds everything else. Assumes nothing.
use mathlib.Core.List.{List}
use Prim.Native.Nat.{ℕ, zero, suc, ◌+◌, ◌-◌, ◌^◌, ◌<◌, ◌≤◌}
use native.Mathlib.Omega.{arith}
use Rattle.loops.specs.Fill.{from}
use Rattle.loops.proofs.Fill.{length_from}
use Rattle.rules.specs.Layout.{bookings, polls, name_of, parent_of}
use Rattle.rules.specs.Sound.{Ledger}
use Rattle.day_file.specs.Day.{parent_count, booking_at, holder, poll_of, day_of}
use Rattle.day_file.proofs.Codec.{Each, Short, BookingFits, PollFits, DayFits}
use Rattle.day_file.proofs.Parents.{parent_count_most, parent_below}
use Rattle.day_file.proofs.Holders.{holder_below}

-- what holds of each number holds of each element
each_from : {A : Type 0} (P : A → Type 0) (f : ℕ → A) (i n : ℕ) → ((j : ℕ) → i ≤ j → j < i + n → P (f j)) → Each P (from f i n)
unfolding from
each_from P f i zero h = tt
each_from P f i (suc n) h = (h i (omega arith) (omega arith), each_from P f (suc i) n (λ j l u. h j (omega arith) (omega arith)))

module _ (w : List ℕ) (ledger : Ledger w) (names : (i : ℕ) → i < bookings w → name_of w i < 2 ^ 64) where
  booking_fits : (i : ℕ) → 1 ≤ i → i < bookings w → BookingFits (booking_at w i)
  booking_fits i l u =
      let b = ledger.sound.booking i l u in
      let below : (a : ℕ) → a < parent_count w i → Short (parent_of w i a) = λ a v. omega (arith, parent_below w i b a v, ledger.sound.bookings_most) in
      record {
        name = names i u;
        slot = omega (arith, b.slot_most);
        parents = record {
          few = omega (arith, length_from (parent_of w i) 0 (parent_count w i), parent_count_most w i);
          each = each_from Short (parent_of w i) 0 (parent_count w i) (λ a k v. below a (omega arith));
        };
      }

  poll_fits : (ordinal : ℕ) → 1 ≤ ordinal → ordinal ≤ polls w → PollFits (poll_of w (holder w ordinal))
  poll_fits ordinal l u = record { booking = omega (arith, holder_below w ledger.sound ordinal l u, ledger.sound.bookings_most) }

  pub day_of_fits : DayFits (day_of w)
  unfolding day_of
  day_of_fits = record {
    setting = omega (arith, ledger.sound.setting);
    bookings = record {
      few = omega (arith, length_from (booking_at w) 1 (bookings w - 1), ledger.sound.bookings_most);
      each = each_from BookingFits (booking_at w) 1 (bookings w - 1) (λ i l u. booking_fits i l (omega arith));
    };
    polls = record {
      few = omega (arith, length_from (λ ordinal. poll_of w (holder w ordinal)) 1 (polls w), ledger.sound.polls_most, ledger.sound.bookings_most);
      each = each_from PollFits (λ ordinal. poll_of w (holder w ordinal)) 1 (polls w) (λ ordinal l u. poll_fits ordinal l (omega arith));
    };
  }
