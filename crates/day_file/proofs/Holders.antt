-- On a sound workspace each ordinal from 1 to p has one holder, and each booking that was polled is the holder of its ordinal. Assumes nothing.
use mathlib.Core.Path.{◌≡◌}
use mathlib.Core.List.{List}
use mathlib.Core.Logic.{◌≢◌}
use Prim.Native.Nat.{ℕ, ◌<◌, ◌≤◌}
use native.Mathlib.Decide.{ℕ_discrete}
use native.Mathlib.Omega.{arith}
use lib.Dec.{eqb}
use borrow.Author.Tests.{eqb-true, eq-eqb}
use Rattle.loops.proofs.Search.{first_hit, first_reaches}
use Rattle.rules.specs.Layout.{bookings, polls, ordinal_of}
use Rattle.rules.specs.Sound.{Sound}
use Rattle.day_file.specs.Day.{holder}

module _ (w : List ℕ) (sound : Sound w) where
  module _ (ordinal : ℕ) (least : 1 ≤ ordinal) (most : ordinal ≤ polls w) where
    pub holder_below : holder w ordinal < bookings w
    unfolding holder
    holder_below =
        let held = sound.ordinal_held ordinal least most in
        omega (arith, held.1, first_reaches (λ i. eqb (ordinal_of w i) ordinal) (bookings w) held.0 (eq-eqb _ _ held.2))

    pub holder_holds : ordinal_of w (holder w ordinal) ≡ ordinal
    unfolding holder
    holder_holds = eqb-true _ ordinal (first_hit (λ i. eqb (ordinal_of w i) ordinal) (bookings w) holder_below)

  -- no other booking holds it
  pub holder_alone : (i : ℕ) → i < bookings w → ordinal_of w i ≢ 0 → holder w (ordinal_of w i) ≡ i
  holder_alone i u polled = go (ℕ_discrete (holder w (ordinal_of w i)) i)
    where
      least : 1 ≤ ordinal_of w i
      least = omega arith

      go : Dec (holder w (ordinal_of w i) ≡ i) → holder w (ordinal_of w i) ≡ i
      go (yes e) = e
      go (no d) =
          let held = holder_holds (ordinal_of w i) least (sound.ordinal_most i u) in
          absurd (sound.ordinal_alone (holder w (ordinal_of w i)) i (holder_below (ordinal_of w i) least (sound.ordinal_most i u)) u d (λ z. omega arith) held)
