-- A place that holds no booking's number is unused, and so is every later one: nobody more becomes a member for them.
use mathlib.Core.Path.{◌≡◌}
use mathlib.Core.List.{List}
use mathlib.Core.Logic.{⊎_elim}
use Prim.Native.Nat.{ℕ, zero, suc, ◌≤◌, ◌<◌}
use native.Mathlib.Decide.{ℕ_discrete}
use native.Mathlib.Nat.{eq-or-lt_of_le}
use native.Mathlib.Omega.{arith}
use lib.ListN.{length}
use lib.Seq.{set_out}
use Rattle.loops.specs.Turns.{up_to}
use Rattle.loops.proofs.Turns.{up_to_idle}
use Rattle.rules.specs.Layout.{most_bookings, most_parents, none, bookings, parent_of}
use Rattle.rules.specs.Sound.{Sound}
use Rattle.rules.specs.Ancestry.{with_member, with_parents}

module _ (w : List ℕ) (sound : Sound w) where
  unused_here : (j a : ℕ) → j < bookings w → a < most_parents → most_bookings ≤ parent_of w j a → parent_of w j a ≡ none
  unused_here zero a below l past = sound.genesis_parents a l
  unused_here (suc j) a below l past = go (ℕ_discrete (parent_of w (suc j) a) none)
    where
      go : Dec (parent_of w (suc j) a ≡ none) → parent_of w (suc j) a ≡ none
      go (yes e) = e
      go (no d) = absurd (omega (arith, sound.bookings_most, (sound.booking (suc j) (omega arith) below).parents_lower a l d))

  unused_later : (j a b : ℕ) → j < bookings w → a < b → b < most_parents → parent_of w j a ≡ none → parent_of w j b ≡ none
  unused_later zero a b below l u e = sound.genesis_parents b u
  unused_later (suc j) a b below l u e = (sound.booking (suc j) (omega arith) below).unused_after a b l u e

  pub parents_done : (j a : ℕ) (m : List ℕ) → j < bookings w → a < most_parents → most_bookings ≤ parent_of w j a
      → length (up_to (λ b. with_member (parent_of w j b)) a m) ≡ most_bookings → with_parents w j m ≡ up_to (λ b. with_member (parent_of w j b)) a m
  parents_done j a m below l past long =
      let here = unused_here j a below l past in
      up_to_idle (λ b. with_member (parent_of w j b)) most_parents a (omega arith) m
      (λ b u v.
      set_out (up_to (λ c. with_member (parent_of w j c)) a m) (parent_of w j b) 1
      (⊎_elim
      (λ (q : a ≡ b). rw (← q) (omega arith))
      (λ (q : a < b). omega (arith, unused_later j a b below q v here))
      (eq-or-lt_of_le u)))
