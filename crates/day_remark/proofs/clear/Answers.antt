-- The bookings so far have no mark.
use mathlib.Core.Path.{refl, sym, ap, ◌∙◌}
use native.Mathlib.Omega.{arith}
use lib.ListN.{length, length-set}
use Rattle.loops.proofs.Turns.{up_to_zero, up_to_more}
use Rattle.rules.specs.Layout.{record_at, mark_field}
use Rattle.day_file.specs.Marks.{unmark}
use Rattle.day_remark.proofs.clear.Goals as goal

pub loop-i-init : goal.loop-i-init
loop-i-init c = (c.wide-n.ensures.0 ∙ c.header.ensures, omega arith, refl, sym (up_to_zero unmark _))

pub loop-i-preserved : goal.loop-i-preserved
loop-i-preserved c =
    let i = c.loop-i.i in (
      c.loop-i.invariant.0,
      omega arith,
      ap length c.set_field.ensures ∙ length-set c.loop-i.w (record_at i mark_field) 0 ∙ c.loop-i.invariant.2,
      c.set_field.ensures ∙ ap (unmark i) c.loop-i.invariant.3 ∙ sym (up_to_more unmark i _),
    )
