-- The bits are those of the records below i.
use mathlib.Core.Path.{sym, ap, ◌∙◌}
use native.Mathlib.Omega.{arith}
use Rattle.bits.specs.Bits.{with_bit}
use Rattle.bits.proofs.SetBelow.{set_below_zero, set_below_more}
use Rattle.marked_slots.specs.MarkedSlots.{marked_slot}
use Rattle.marked_slots.proofs.note_marks.Goals as goal

pub loop-i-init : goal.loop-i-init
loop-i-init c =
    (omega arith, c.requires.2 ∙ sym (set_below_zero (marked_slot c.args.w.now)))

pub loop-i-preserved : goal.loop-i-preserved
loop-i-preserved c =
    let L = c.loop-i in
    let w = c.args.w.now in
    (omega arith, c.note_mark.ensures ∙ ap (with_bit (marked_slot w L.i)) L.invariant.1 ∙ sym (set_below_more (marked_slot w) L.i))
