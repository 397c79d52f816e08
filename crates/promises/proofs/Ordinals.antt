-- The ordinals after a poll of booking i are 1 to p + 1, each once, and there is room for the new one.
-- Ordinals 1 to p are held by p different bookings, none of them the genesis or booking i, whose ordinals are 0: so p + 1 < n.
use mathlib.Core.Path.{◌≡◌, sym, ap, ◌∙◌}
use mathlib.Core.List.{List}
use mathlib.Core.Logic.{◌≢◌, ⊎_elim}
use Prim.Native.Nat.{ℕ, suc, ◌+◌, ◌<◌, ◌≤◌}
use native.Mathlib.Nat.{eq-or-lt_of_le}
use native.Mathlib.Decide.{ℕ_discrete}
use native.Mathlib.Omega.{arith}
use lib.Dec.{ltb}
use borrow.Author.Tests.{le-ltb}
use Rattle.loops.proofs.Total.{count_lt_two, count_values}
use Rattle.rules.specs.Layout.{bookings, polls, ordinal_field, state_of, ordinal_of}
use Rattle.rules.specs.Sound.{Sound}
use Rattle.promises.proofs.Taken.{Pollable}
use Rattle.promises.proofs.Noted.{Noted, Noted_bookings}

module _ (w : List ℕ) (i : ℕ) (sound : Sound w) (pollable : Pollable w i) where
  -- the genesis is not waiting
  pub polled_above : 0 < i
  polled_above = go (ℕ_discrete i 0)
    where
      go : Dec (i ≡ 0) → 0 < i
      go (yes e) = absurd (omega (arith, sound.genesis_state, pollable.waiting, ap (state_of w) e))
      go (no d) = omega arith

  pub polled_ordinal : ordinal_of w i ≡ 0
  polled_ordinal = (sound.booking i polled_above pollable.below).ordinal_waiting.1 pollable.waiting

  pub polls_room : polls w + 1 < bookings w
  polls_room =
      omega (
        arith,
        polled_above,
        count_values (ordinal_of w) (bookings w) (polls w) (λ o l. sound.ordinal_held (suc o) (omega arith) l),
        count_lt_two (λ j. ltb 0 (ordinal_of w j)) (bookings w) 0 i (omega (arith, sound.bookings_least)) pollable.below (omega (arith, polled_above))
            (le-ltb 0 (ordinal_of w 0) (omega (arith, sound.genesis_ordinal)))
            (le-ltb 0 (ordinal_of w i) (omega (arith, polled_ordinal))),
      )

  -- ---- the ordinals of v, in which the poll is noted

  module _ (v : List ℕ) (state : ℕ) (n : Noted w v i state) where
    -- what holds of booking i and of every other holds of all
    pub each_noted : (P : ℕ → Type 0) → P i → ((j : ℕ) → j < bookings w → j ≢ i → P j) → (j : ℕ) → j < bookings v → P j
    each_noted P polled other j u = elim (ℕ_discrete j i) [ yes e ↦ rw e polled | no d ↦ other j (omega (arith, Noted_bookings n)) d ]

    ordinal_other : (j : ℕ) → j < bookings w → j ≢ i → ordinal_of v j ≡ ordinal_of w j
    ordinal_other j u d = n.other j ordinal_field (omega (arith, sound.bookings_most)) (omega arith) (omega arith) (omega arith) d

    -- every other is at most p
    ordinal_other_le : (j : ℕ) → j < bookings w → j ≢ i → ordinal_of v j ≤ polls w
    ordinal_other_le j u d = omega (arith, ordinal_other j u d, sound.ordinal_most j u)

    pub ordinal_noted_most : (j : ℕ) → j < bookings v → ordinal_of v j ≤ polls v
    ordinal_noted_most =
        each_noted (λ j. ordinal_of v j ≤ polls v) (omega (arith, n.ordinal_now, n.more)) (λ j u d. omega (arith, ordinal_other_le j u d, n.more))

    pub ordinal_noted_held : (o : ℕ) → 1 ≤ o → o ≤ polls v → (j : ℕ) × (j < bookings v) × (ordinal_of v j ≡ o)
    ordinal_noted_held o l u =
        ⊎_elim
        (λ (e : o ≡ polls v). (i, omega (arith, Noted_bookings n, pollable.below), omega (arith, n.ordinal_now, n.more)))
        (λ (h : o < polls v).
        let holder = sound.ordinal_held o l (omega (arith, n.more)) in
        let another : holder.0 ≢ i = λ e. omega (arith, ap (ordinal_of w) e, polled_ordinal, holder.2) in
        (holder.0, omega (arith, Noted_bookings n, holder.1), ordinal_other holder.0 holder.1 another ∙ holder.2))
        (eq-or-lt_of_le u)

    pub ordinal_noted_alone : (j : ℕ) → j < bookings v → (k : ℕ) → k < bookings v → j ≢ k → ordinal_of v j ≢ 0 → ordinal_of v j ≢ ordinal_of v k
    ordinal_noted_alone =
        each_noted (λ j. (k : ℕ) → k < bookings v → j ≢ k → ordinal_of v j ≢ 0 → ordinal_of v j ≢ ordinal_of v k)
        (each_noted (λ k. i ≢ k → ordinal_of v i ≢ 0 → ordinal_of v i ≢ ordinal_of v k)
        (λ q z e. omega arith)
        (λ k u d q z e. omega (arith, n.ordinal_now, ordinal_other_le k u d)))
        (λ j u d.
        each_noted (λ k. j ≢ k → ordinal_of v j ≢ 0 → ordinal_of v j ≢ ordinal_of v k)
        (λ q z e. omega (arith, n.ordinal_now, ordinal_other_le j u d))
        (λ k x y q z e. sound.ordinal_alone j k u x q (λ r. z (ordinal_other j u d ∙ r)) (sym (ordinal_other j u d) ∙ e ∙ ordinal_other k x y)))
