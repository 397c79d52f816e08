-- The walk's turns are the definition's. They move no booking to another slot.
use native.Mathlib.Omega.{arith}
use Rattle.rules.specs.Layout.{slot_field}
use Rattle.rules.specs.Poll.{clear_one}
use Rattle.rule_laws.proofs.Cleared.{length_cleared, field_cleared_kept}
use Rattle.bits.specs.Members.{members_in}
use Rattle.poll_writes.proofs.clearing.clear.Goals as goal

pub walk-requires-clause-ready : goal.walk-requires-clause-ready
unfolding clear_one
walk-requires-clause-ready c j l =
    let h = c.requires.0 in
    let m = members_in c.args.members.now in
    let w = c.args.w.now in
    (omega (arith, length_cleared m j w, h.whole), omega (arith, h.few), rw (field_cleared_kept m j w j slot_field (omega (arith, h.few)) (omega arith)) (h.slot_fits j l))

pub returns : goal.returns
unfolding clear_one
returns c = c.walk.ensures
