-- A member that is not preferred is one of whom "no member, or preferred" fails.
use mathlib.Core.Path.{◌≡◌, refl, sym, ◌∙◌}
use mathlib.Core.Bool.{Bool, true, false, ◌&&◌, ◌||◌, not}
use Rattle.bits.proofs.Members.{member_bit}
use Rattle.preference.proofs.is_in_the_way.Goals as goal

and-not : (a b : Bool) → (a && not b) ≡ not (not a || b)
and-not true b = refl
and-not false b = refl

pub returns : goal.returns
returns c =
    let asked = c.is_set.ensures ∙ sym (member_bit c.args.m.now c.args.j) in
    rw (← asked, ← c.is_preferred.ensures) (and-not c.is_set.result c.is_preferred.result)
