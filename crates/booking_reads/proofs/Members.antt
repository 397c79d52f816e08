-- No number from n on is a member of an ancestry, so all bits may be counted.
use mathlib.Core.Path.{◌≡◌, refl, ap, ◌∙◌}
use mathlib.Core.Bool.{Bool, true, false}
use mathlib.Core.List.{List}
use Prim.Native.Nat.{ℕ, ◌+◌, ◌-◌, ◌≤◌, ◌<◌}
use native.Mathlib.Omega.{arith}
use Rattle.loops.specs.Total.{bit, count}
use Rattle.loops.proofs.Total.{total_cut}
use Rattle.rules.specs.Layout.{most_bookings, bookings}
use Rattle.rules.specs.Ancestry.{is_member, ancestry}
use Rattle.rules.specs.Readings.{size_of}
use Rattle.rules.specs.Sound.{Sound}
use Rattle.rule_laws.proofs.Ancestry.{member_le}

module _ (w : List ℕ) (sound : Sound w) (i : ℕ) (below : i < bookings w) where
  no_member : (k : ℕ) → bookings w ≤ k → is_member (ancestry w i) k ≡ false
  no_member k past = go (is_member (ancestry w i) k) refl
    where
      go : (b : Bool) → is_member (ancestry w i) k ≡ b → b ≡ false
      go true e = absurd (omega (arith, member_le w sound i below k e))
      go false e = refl

  pub members_counted : count (is_member (ancestry w i)) most_bookings ≡ size_of w i
  unfolding size_of
  members_counted =
      let all : most_bookings ≡ bookings w + (most_bookings - bookings w) = omega (arith, sound.bookings_most) in
      ap (count (is_member (ancestry w i))) all
      ∙ total_cut (λ k. bit (is_member (ancestry w i) k)) (bookings w) (most_bookings - bookings w) (λ k l u. ap bit (no_member k l))
