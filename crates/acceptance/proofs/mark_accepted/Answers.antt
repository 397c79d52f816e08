-- The slots are noted for all bookings, and the pass is over all of them.
use native.Mathlib.Omega.{arith}
use Rattle.acceptance.proofs.SlotsNoted.{noted_at_start}
use Rattle.acceptance.proofs.mark_accepted.Goals as goal

pub mark_below-requires : goal.mark_below-requires
mark_below-requires c =
    (c.requires, omega (arith, c.how_many-n.ensures), noted_at_start c.args.w.now c.how_many-n.result c.how_many-n.ensures c.note_marks.ensures)
