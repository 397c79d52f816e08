-- The branch is the definition's own: a member's parents become members, anyone else's don't. Whether j is one is a bit of the word apart.
use Prim.Native.Nat.{◌/◌}
use mathlib.Core.Path.{refl, sym, ◌∙◌}
use native.Mathlib.Omega.{arith}
use Rattle.rules.specs.Ancestry.{spread}
use Rattle.bits.proofs.Members.{member_own}
use Rattle.ancestry.proofs.spread_one.Goals as goal

pub returns-then-has_bit : goal.returns-then-has_bit
unfolding spread
returns-then-has_bit c =
    let asked = member_own c.args.m.now (c.args.j / 64) c.args.own c.args.j (omega (arith, c.requires.0.sound.bookings_most)) refl in
    rw (asked ∙ sym c.has_bit.ensures ∙ c.if-has_bit.true) c.gather_parents.ensures

pub returns : goal.returns
unfolding spread
returns c =
    let asked = member_own c.args.m.now (c.args.j / 64) c.args.own c.args.j (omega (arith, c.requires.0.sound.bookings_most)) refl in
    rw (asked ∙ sym c.has_bit.ensures ∙ c.if-has_bit.false)
