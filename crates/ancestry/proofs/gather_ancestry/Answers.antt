-- Only i is a member, and then i + 1 bookings are swept: the definition with i + 1 for its successor.
use mathlib.Core.Path.{ap, ◌∙◌}
use Rattle.rules.specs.Ancestry.{with_member, sweep}
use Rattle.rule_laws.proofs.Ancestry.{sweep_all}
use Rattle.bits.specs.Members.{members_in}
use Rattle.bits.proofs.Members.{with_member_bit, no_bits_are}
use Rattle.ancestry.proofs.gather_ancestry.Goals as goal

pub returns : goal.returns
returns c =
    let swept = c.sweep_down in
    let begun = c.set_bit in
    swept.ensures
    ∙ ap (sweep _ _) (ap members_in begun.ensures ∙ with_member_bit c.args.m.now c.args.i ∙ ap (with_member _) (ap members_in c.requires.2 ∙ no_bits_are)) ∙ sweep_all _ _
