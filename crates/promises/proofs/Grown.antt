-- Where a workspace has grown from a sound one, its older bookings keep their ancestry, as people read it and as a list of members, and its size.
use mathlib.Core.Path.{◌≡◌, refl, sym, ap, ap₂, ◌∙◌}
use mathlib.Core.Bool.{Bool, true, false}
use mathlib.Core.List.{List, [], ◌∷◌}
use mathlib.Core.Logic.{◌↔◌}
use Prim.Native.Nat.{ℕ, ◌+◌, ◌-◌, ◌<◌, ◌≤◌}
use native.Mathlib.Omega.{arith}
use Rattle.loops.specs.Total.{bit, total, count}
use Rattle.loops.proofs.Total.{total_cut}
use Rattle.rules.specs.Layout.{bookings}
use Rattle.rules.specs.Ancestry.{Parent, Reaches, self, up, ancestry, is_member}
use Rattle.rules.specs.Readings.{size_of}
use Rattle.rules.specs.Sound.{Ledger}
use Rattle.rule_laws.proofs.Ancestry.{ancestry_kept, member_le, Reaches_le}
use Rattle.promises.specs.Lasting.{Grown}
use Rattle.promises.specs.Confidence.{Counted, none, counts, passes, sizes}

pub grown_self : (w : List ℕ) → Grown w w
grown_self w = record { more = omega arith; name = λ i l. refl; slot = λ i l. refl; parent = λ i a l h. refl }

-- bookings below n, each of them
pub data Within (n : ℕ) : List ℕ → Type 0 where
  empty : Within n []
  within : {i : ℕ} {l : List ℕ} → i < n → Within n l → Within n (i ∷ l)

pub within_more : {n m : ℕ} {l : List ℕ} → n ≤ m → Within n l → Within m l
within_more h empty = empty
within_more h (within {i} l r) = within {i = i} (omega arith) (within_more h r)

module _ (w u : List ℕ) (ledger : Ledger w) (grown : Grown w u) where
  parent_forth : {j p : ℕ} → j < bookings w → Parent w j p → Parent u j p
  parent_forth {j} l a = record { place = a.place; within = a.within; stands = grown.parent j a.place l a.within ∙ a.stands; used = a.used }

  parent_back : {j p : ℕ} → j < bookings w → Parent u j p → Parent w j p
  parent_back {j} l a = record { place = a.place; within = a.within; stands = sym (grown.parent j a.place l a.within) ∙ a.stands; used = a.used }

  -- what i reaches is no higher than i, so its parents are the same
  pub reaches_forth : {i j : ℕ} → i < bookings w → Reaches w i j → Reaches u i j
  reaches_forth l self = self
  reaches_forth l (up r a) = up (reaches_forth l r) (parent_forth (omega (arith, Reaches_le w ledger.sound l r)) a)

  reaches_both : {i j : ℕ} → i < bookings w → Reaches u i j → Reaches w i j
  reaches_both l self = self
  reaches_both l (up r a) = let s = reaches_both l r in up s (parent_back (omega (arith, Reaches_le w ledger.sound l s)) a)

  pub reaches_grown : (i j : ℕ) → i < bookings w → Reaches u i j ↔ Reaches w i j
  reaches_grown i j l = (reaches_both l, reaches_forth l)

  pub ancestry_grown : (i : ℕ) → i < bookings w → ancestry u i ≡ ancestry w i
  ancestry_grown i l = ancestry_kept w u i (λ j a h. grown.parent j a (omega arith))

  -- no member is higher than i
  above_none : (i j : ℕ) → i < bookings w → bookings w ≤ j → bit (is_member (ancestry w i) j) ≡ 0
  above_none i j l h = go (is_member (ancestry w i) j) refl
    where
      go : (b : Bool) → is_member (ancestry w i) j ≡ b → bit b ≡ 0
      go true e = absurd (omega (arith, member_le w ledger.sound i l j e))
      go false e = refl

  pub size_grown : (i : ℕ) → i < bookings w → size_of u i ≡ size_of w i
  unfolding size_of
  size_grown i l =
      let k : ℕ = bookings u - bookings w in
      let e : bookings u ≡ bookings w + k = omega (arith, grown.more) in
      ap (λ m. count (is_member m) (bookings u)) (ancestry_grown i l)
      ∙ ap (total (λ j. bit (is_member (ancestry w i) j))) e
      ∙ total_cut (λ j. bit (is_member (ancestry w i) j)) (bookings w) k (λ j h m. above_none i j l h)

  pub sizes_grown : {polled : List ℕ} → Within (bookings w) polled → sizes u polled ≡ sizes w polled
  unfolding sizes
  sizes_grown empty = refl
  sizes_grown (within {i} l r) = ap₂ ◌+◌ (size_grown i l) (sizes_grown r)

  pub counted_grown : {j : ℕ} {polled : List ℕ} {c : ℕ} → Within (bookings w) polled → Counted w j polled c → Counted u j polled c
  counted_grown empty none = none
  counted_grown (within l q) (counts r k) = counts (reaches_forth l r) (counted_grown q k)
  counted_grown (within l q) (passes r k) = passes (λ s. r (reaches_both l s)) (counted_grown q k)

-- a booking above all polled ones is counted by none of them
pub counted_above : (w : List ℕ) → Ledger w → {n j : ℕ} {polled : List ℕ} → n ≤ bookings w → n ≤ j → Within n polled → Counted w j polled 0
counted_above w ledger m h empty = none
counted_above w ledger {n} {j} m h (within {i} l q) =
    let below : i < bookings w = omega arith in
    passes {i = i} (λ (r : Reaches w i j). omega (arith, Reaches_le w ledger.sound below r)) (counted_above w ledger m h q)
