-- Laws of the listing: how long a row and the whole can be, and one row more.
use mathlib.Core.List.{List}
use Prim.Native.Nat.{ℕ, zero, suc, ◌+◌, ◌*◌, ◌<◌, ◌≤◌}
use native.Mathlib.Numerals.{add-one}
use native.Mathlib.Omega.{arith}
use lib.ListN.{length, length-append}
use Rattle.loops.specs.Total.{bit}
use Rattle.loops.proofs.Total.{bit_le}
use Rattle.rules.specs.Layout.{bookings, slot_of, state_of, confidence_of}
use Rattle.rules.specs.Readings.{is_preferred, accepted_of}
use Rattle.rules.specs.Sound.{Ledger}
use Rattle.rule_laws.proofs.Slots.{slot_of_lt}
use Rattle.rule_laws.proofs.Readings.{confidence_le}
use Rattle.put.specs.Put.{Put}
use Rattle.text_print.specs.Columns.{list_header, row_prints}
use Rattle.put.proofs.Puts.{put_none, put_then}
use Rattle.text_put.proofs.Decimals.{decimal_length}
use Rattle.text_listing.specs.Listed.{list_row, rows_print, list_prints, row_most, line_most}

-- ---- how long each is

module _ (w : List ℕ) (ledger : Ledger w) where
  state_le : (i : ℕ) → i < bookings w → state_of w i ≤ 2
  state_le zero h = omega (arith, ledger.sound.genesis_state)
  state_le (suc i) h = (ledger.sound.booking (suc i) (omega arith) h).state_known

  -- six numbers, none of which has more than twenty digits
  row_length : (i : ℕ) → i < bookings w → length (row_prints (list_row w i)) ≤ row_most
  unfolding row_prints list_row
  row_length i h =
      simp length-append
      (omega (
        arith,
        decimal_length i (omega (arith, ledger.sound.bookings_most)),
        decimal_length (slot_of w i) (omega (arith, slot_of_lt w ledger.sound i h)),
        decimal_length (state_of w i) (omega (arith, state_le i h)),
        decimal_length (confidence_of w i) (omega (arith, confidence_le w ledger.sound i h)),
        decimal_length (bit (is_preferred w i)) (omega (arith, bit_le (is_preferred w i))),
        decimal_length (bit (accepted_of w i)) (omega (arith, bit_le (accepted_of w i))),
      ))

  pub rows_length : (n : ℕ) → n ≤ bookings w → length (rows_print w n) ≤ row_most * n
  unfolding rows_print
  rows_length zero h = omega arith
  rows_length (suc i) h =
      rw (length-append (rows_print w i) (row_prints (list_row w i))) (omega (arith, rows_length i (omega arith), row_length i h))

  pub list_length : length (list_prints w) ≤ line_most
  unfolding list_prints
  list_length =
      rw (length-append list_header (rows_print w (bookings w)))
      (omega (arith, rows_length (bookings w) (omega arith), ledger.sound.bookings_most))

-- ---- the loop over the bookings

pub rows_none : (w out : List ℕ) (at : ℕ) → Put out at (rows_print w 0) at out
unfolding rows_print
rows_none w out at = put_none out at

pub rows_more : (w : List ℕ) (i : ℕ) {out out₁ out₂ : List ℕ} {at m n : ℕ} → Put out at (rows_print w i) m out₁
    → Put out₁ m (row_prints (list_row w i)) n out₂ → Put out at (rows_print w (i + 1)) n out₂
unfolding rows_print
rows_more w i p q = rw (add-one i) (put_then p q)
