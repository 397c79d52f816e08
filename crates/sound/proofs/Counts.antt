-- The table has for each slot how many of the records so far are its bookings.
use mathlib.Core.Path.{◌≡◌, refl, sym, ap, ◌∙◌}
use mathlib.Core.List.{List}
use Prim.Native.Nat.{ℕ, zero, suc, ◌+◌, ◌<◌, ◌≤◌}
use native.Mathlib.Nat.{add-zero}
use native.Mathlib.Numerals.{add-one}
use native.Mathlib.Omega.{arith}
use native.Mathlib.Decide.{ℕ_discrete, dec_lt}
use lib.Dec.{eqb}
use lib.ListN.{length, get_or, replicate, length-set, length-replicate, get_or-replicate, get_or-eq_default}
use lib.Seq.{get_or-set_same, get_or-set_other}
use borrow.Author.Tests.{eq-eqb, ne_eqb}
use Rattle.loops.specs.Total.{bit, count}
use Rattle.loops.proofs.Turns.{up_to_zero, up_to_more, up_to_kept}
use Rattle.loops.proofs.Total.{total_zero, total_more, count_le}
use Rattle.rules.specs.Layout.{slots, bookings, slot_of}
use Rattle.rules.specs.IsSound.{bookings_of}
use Rattle.sound.specs.Held.{counted, held_below}

-- one booking more
get_d_counted : (h : List ℕ) (s q : ℕ) → s < length h → get_or (counted q h) s 0 ≡ get_or h s 0 + bit (eqb q s)
get_d_counted h s q l = go (ℕ_discrete q s)
  where
    go : Dec (q ≡ s) → get_or (counted q h) s 0 ≡ get_or h s 0 + bit (eqb q s)
    go (yes e) = rw (e, get_or-set_same h s (get_or h s 0 + 1) 0 l, eq-eqb s s refl)
    go (no n) = rw (get_or-set_other h q s (get_or h q 0 + 1) 0 (λ e. n (sym e)), ne_eqb q s n, add-zero)

pub held_below_length : (w : List ℕ) (i : ℕ) → length (held_below w i) ≡ slots
unfolding held_below
held_below_length w i =
    up_to_kept (λ j. counted (slot_of w j)) (λ h. length h ≡ slots) i (λ j l h e. length-set h (slot_of w j) (get_or h (slot_of w j) 0 + 1) ∙ e) (replicate slots 0) (length-replicate {A = ℕ} slots 0)

-- the turns of the loop that counts
pub held_below_zero : (w : List ℕ) → held_below w 0 ≡ replicate slots 0
unfolding held_below
held_below_zero w = up_to_zero _ _

pub held_below_more : (w : List ℕ) (i : ℕ) → held_below w (i + 1) ≡ counted (slot_of w i) (held_below w i)
unfolding held_below
held_below_more w i = up_to_more _ i _

pub held_below_count : (w : List ℕ) (i s : ℕ) → s < slots → get_or (held_below w i) s 0 ≡ count (λ j. eqb (slot_of w j) s) i
held_below_count w zero s h = rw (held_below_zero w, get_or-replicate {A = ℕ} slots s 0 0 h, total_zero)
held_below_count w (suc i) s h =
    rw (← add-one i, held_below_more w i, get_d_counted (held_below w i) s (slot_of w i) (omega (arith, held_below_length w i)), held_below_count w i s h, total_more)

-- no entry exceeds the number of records counted, so that one more fits
pub held_below_le : (w : List ℕ) (i s : ℕ) → get_or (held_below w i) s 0 ≤ i
held_below_le w i s = go (dec_lt s slots)
  where
    go : Dec (s < slots) → get_or (held_below w i) s 0 ≤ i
    go (yes h) = omega (arith, held_below_count w i s h, count_le (λ j. eqb (slot_of w j) s) i)
    go (no h) = rw (get_or-eq_default (held_below w i) 0 {n = s} (omega (arith, held_below_length w i))) (omega arith)

-- the whole table has each slot's number of bookings
pub held_below_bookings_of : (w : List ℕ) (n s : ℕ) → n ≡ bookings w → s < slots → get_or (held_below w n) s 0 ≡ bookings_of w s
unfolding bookings_of
held_below_bookings_of w n s e h = held_below_count w n s h ∙ ap (count (λ j. eqb (slot_of w j) s)) e
