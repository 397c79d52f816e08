-- No two bookings of a slot are accepted: a sound workspace has at most one mark in a slot. Assumes nothing.
use Rattle.std.specs.Prelude.{Ok}
use mathlib.Core.Path.{◌≡◌, refl, ap}
use mathlib.Core.Bool.{Bool, true, false}
use mathlib.Core.List.{List}
use Prim.Native.Nat.{ℕ, ◌<◌}
use native.Mathlib.Omega.{arith}
use native.Mathlib.Decide.{ℕ_discrete}
use lib.IntN.{pos, nat_abs}
use borrow.Author.Tests.{eqb-true}
use Rattle.loops.specs.Total.{bit}
use Rattle.rules.specs.Layout.{bookings, slot_of, name_of, mark_of}
use Rattle.rules.specs.Readings.{accepted_of}
use Rattle.rules.specs.Book.{look_up, number_of}
use Rattle.rules.specs.Calls.{accepted_call}
use Rattle.rules.specs.Sound.{Sound, Ledger}
use Rattle.rule_laws.proofs.Lookup.{found_is}
use Rattle.promises.specs.Acceptance.{AcceptedOnce, AcceptedCallOnce}
use Rattle.promises.proofs.Taken.{reading_taken}

-- a slot has one mark
accepted_slot_unique : (w : List ℕ) → Sound w → (i j : ℕ) → i < bookings w → j < bookings w → slot_of w i ≡ slot_of w j
    → accepted_of w i ≡ true → accepted_of w j ≡ true → i ≡ j
accepted_slot_unique w sound i j hi hj same ai aj =
    elim (ℕ_discrete i j)
    [ yes e ↦ e | no d ↦ absurd (sound.mark_alone i j hi hj d (eqb-true (mark_of w i) 1 ai) (eqb-true (mark_of w j) 1 aj) same) ]

pub accepted_once_lem : AcceptedOnce
unfolding AcceptedOnce
accepted_once_lem w ledger = accepted_slot_unique w ledger.sound

-- ---- as callers see it

pub bit_one : (b : Bool) → bit b ≡ 1 → b ≡ true
bit_one true e = refl
bit_one false e = absurd (omega arith)

-- a 1 is answered of an accepted booking of a ledger
pub answered_one : (w : List ℕ) (i : ℕ) → i < bookings w → accepted_call w (name_of w i) ≡ Ok (pos 1) → Ledger w × (accepted_of w i ≡ true)
answered_one w i h e =
    let taken = reading_taken (λ k. pos (bit (accepted_of w k))) w (name_of w i) (pos 1) e in
    let number : number_of (look_up w (name_of w i)) ≡ i = ap number_of (found_is w taken.0.sound i h) in
    (taken.0, bit_one (accepted_of w i) (rw number at (ap nat_abs taken.2)))

pub accepted_call_once : AcceptedCallOnce
unfolding AcceptedCallOnce
accepted_call_once w i j hi hj same ai aj =
    let one = answered_one w i hi ai in
    let other = answered_one w j hj aj in
    accepted_slot_unique w one.0.sound i j hi hj same one.1 other.1
