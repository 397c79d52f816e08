-- Bounds of the readings on a sound workspace, and what query says of the ancestry that people read.
-- The genesis is polled without a chit, so at most n − 1 bookings have one, and no confidence is above that.
use mathlib.Core.Path.{◌≡◌, refl, sym, ap}
use mathlib.Core.Bool.{Bool, true, false, not, ◌||◌, cond, and-eq-true_iff}
use mathlib.Core.List.{List}
use mathlib.Core.Logic.{◌⊎◌, inl, inr, ⊎_elim, ◌↔◌}
use Prim.Native.Nat.{ℕ, zero, suc, ◌-◌, ◌<◌, ◌≤◌}
use native.Mathlib.Omega.{arith}
use lib.Dec.{eqb, ltb}
use lib.IntN.{pos, negsuc, ◌-ℤ◌, nat_abs}
use borrow.Author.Tests.{eqb-true, eqb-false, eq-eqb, ne_eqb, ltb-true, not-true, not-false}
use Rattle.loops.specs.Total.{bit, greatest}
use Rattle.loops.proofs.Total.{bit_le, count_le, count_some, count_lt, greatest_le, greatest_above, greatest_held}
use Rattle.loops.proofs.Search.{all→, →all}
use Rattle.rules.specs.Layout.{most_bookings, slots, bookings, slot_of, state_of, confidence_of, preferred_in, counter_in}
use Rattle.rules.specs.IsSound.{chits}
use Rattle.rules.specs.Ancestry.{Reaches, is_member, ancestry}
use Rattle.rules.specs.Sound.{Sound}
use Rattle.rules.specs.Readings.{is_preferred, query_of, accepted_of, is_rival, rival_confidence, rivals_most, lead_of, size_of}
use Rattle.rules.specs.AsRead.{Rival, MostOfRivals}
use Rattle.loops.proofs.Bools.{or_right, or_else}
use Rattle.rule_laws.proofs.Ancestry.{Reaches_le, members→Reaches, Reaches→members, member_self}

-- 511: what a confidence, a counter and a lead can reach
abbrev pub most_confidence : ℕ
most_confidence = most_bookings - 1

-- ---- a difference of two numbers up to m is from −m to m

pub difference_le : (a b m : ℕ) → a ≤ m → b ≤ m → nat_abs (pos a -ℤ pos b) ≤ m
difference_le a zero m ha hb = omega arith
difference_le a (suc b) m ha hb = go (ltb a (suc b)) refl
  where
    go : (t : Bool) → ltb a (suc b) ≡ t → nat_abs (cond t (negsuc (suc b - suc a)) (pos (a - suc b))) ≤ m
    go true e = omega (arith, ltb-true a (suc b) e)
    go false e = omega arith

-- ---- lead: what is taken away, on any words

pub rivals_most_is : (w : List ℕ) (i : ℕ) → MostOfRivals w i (rivals_most w i)
unfolding rivals_most
rivals_most_is w i = record { above = over; held = ⊎_elim inl (λ u. one u.0 u.1 u.2 (is_rival w i u.0) refl) (greatest_held (rival_confidence w i) (bookings w)) }
  where
    over : (j : ℕ) → Rival w i j → confidence_of w j ≤ greatest (rival_confidence w i) (bookings w)
    over j r =
        let e : is_rival w i j ≡ true = rw (eq-eqb _ _ r.in_slot.slot, ne_eqb _ _ r.another) in
        rw e at (greatest_above (rival_confidence w i) (bookings w) j r.in_slot.below)

    one : (j : ℕ) → j < bookings w → rival_confidence w i j ≡ greatest (rival_confidence w i) (bookings w) → (b : Bool) → is_rival w i j ≡ b
        → (greatest (rival_confidence w i) (bookings w) ≡ 0) ⊎ ((k : ℕ) × Rival w i k × (confidence_of w k ≡ greatest (rival_confidence w i) (bookings w)))
    one j l e true t =
        let u = (and-eq-true_iff _ _).0 t in
        inr (j, record { in_slot = record { below = l; slot = eqb-true _ _ u.0 }; another = eqb-false _ _ (not-true _ u.1) }, rw t at e)
    one j l e false t = inl (sym (rw t at e))

module _ (w : List ℕ) (sound : Sound w) where
  -- ---- confidence and counter

  pub chits_lt : chits w < bookings w
  unfolding chits
  chits_lt = count_lt (λ i. eqb (state_of w i) 2) (bookings w) 0 (omega (arith, sound.bookings_least)) (rw sound.genesis_state)

  pub chits_le : chits w ≤ most_confidence
  chits_le = omega (arith, chits_lt, sound.bookings_most)

  pub confidence_le : (i : ℕ) → i < bookings w → confidence_of w i ≤ most_confidence
  confidence_le i h = omega (arith, chits_le, sound.confidence_most i h)

  pub counter_le : (s : ℕ) → s < slots → counter_in w s ≤ most_confidence
  counter_le s h = omega (arith, chits_le, sound.counter_most s h)

  -- ---- lead

  rival_le : (i j : ℕ) → j < bookings w → rival_confidence w i j ≤ most_confidence
  rival_le i j h = elim (is_rival w i j) as (λ b. cond b (confidence_of w j) 0 ≤ most_confidence) [ true ↦ confidence_le j h | false ↦ omega arith ]

  pub rivals_most_le : (i : ℕ) → rivals_most w i ≤ most_confidence
  unfolding rivals_most
  rivals_most_le i = greatest_le (rival_confidence w i) (bookings w) most_confidence (rival_le i)

  -- from −511 to 511
  pub lead_le : (i : ℕ) → i < bookings w → nat_abs (lead_of w i) ≤ most_confidence
  unfolding lead_of
  lead_le i h = difference_le (confidence_of w i) (rivals_most w i) most_confidence (confidence_le i h) (rivals_most_le i)

  -- ---- size: from 1 to n

  pub size_least : (i : ℕ) → i < bookings w → 1 ≤ size_of w i
  unfolding size_of
  size_least i h = count_some (is_member (ancestry w i)) (bookings w) i h (member_self w sound i h)

  pub size_most : (i : ℕ) → size_of w i ≤ bookings w
  unfolding size_of
  size_most i = count_le (is_member (ancestry w i)) (bookings w)

  -- ---- query: every booking that is reached is preferred in its slot

  pub query_is : (i : ℕ) → i < bookings w → (query_of w i ≡ true) ↔ ((j : ℕ) → Reaches w i j → preferred_in w (slot_of w j) ≡ j)
  unfolding query_of
  query_is i h = (to, from)
    where
      to : query_of w i ≡ true → (j : ℕ) → Reaches w i j → preferred_in w (slot_of w j) ≡ j
      to e j r =
          eqb-true _ _
          (or_right _ _ (all→ (λ k. not (is_member (ancestry w i) k) || is_preferred w k) (bookings w) e j (omega (arith, Reaches_le w sound h r)))
          (ap not (Reaches→members w sound i h j r)))

      from : ((j : ℕ) → Reaches w i j → preferred_in w (slot_of w j) ≡ j) → query_of w i ≡ true
      from f =
          →all (λ k. not (is_member (ancestry w i) k) || is_preferred w k) (bookings w)
          (λ j l. or_else _ _ (λ t. eq-eqb _ _ (f j (members→Reaches w i j (not-false _ t)))))

-- ---- query and accepted: 0 or 1, on any words

pub query_le : (w : List ℕ) (i : ℕ) → bit (query_of w i) ≤ 1
query_le w i = bit_le (query_of w i)

pub accepted_le : (w : List ℕ) (i : ℕ) → bit (accepted_of w i) ≤ 1
accepted_le w i = bit_le (accepted_of w i)
