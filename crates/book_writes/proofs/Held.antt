-- A slot of a ledger holds no more bookings than there are, so one more can be counted.
use mathlib.Core.Path.{◌≡◌}
use mathlib.Core.List.{List}
use Prim.Native.Nat.{ℕ, ◌<◌, ◌≤◌}
use native.Mathlib.Decide.{ℕ_discrete}
use native.Mathlib.Omega.{arith}
use lib.Dec.{eqb}
use Rattle.loops.proofs.Total.{count_le}
use Rattle.rules.specs.Layout.{most_bookings, slots, bookings, slot_of, held_in}
use Rattle.rules.specs.IsSound.{bookings_of}
use Rattle.rules.specs.Sound.{Ledger}

pub held_most : {w : List ℕ} → Ledger w → (s : ℕ) → s < slots → held_in w s ≤ most_bookings
unfolding bookings_of
held_most {w} g s l = go (ℕ_discrete (bookings_of w s) 0)
  where
    go : Dec (bookings_of w s ≡ 0) → held_in w s ≤ most_bookings
    go (yes e) = omega (arith, (g.sound.empty_entry s l e).none_held)
    go (no e) =
        omega (arith, (g.sound.held_entry s l e).held, count_le (λ i. eqb (slot_of w i) s) (bookings w), g.sound.bookings_most)
