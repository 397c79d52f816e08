-- The table is that of the records below i.
use native.Mathlib.Omega.{arith}
use Rattle.sound.proofs.Counts.{held_below_length, held_below_more, held_below_le}
use Rattle.sound.proofs.held.count_all.Goals as goal

pub count-requires : goal.count-requires
count-requires c =
    let L = c.loop-i in
    let w = c.args.w.now in
    (rw L.invariant.1 (held_below_length w L.i), rw L.invariant.1 (omega (arith, held_below_le w L.i c.wide_field-s.result)))

pub loop-i-preserved : goal.loop-i-preserved
loop-i-preserved c =
    let L = c.loop-i in
    (omega arith, rw (held_below_more, ← L.invariant.1, ← c.wide_field-s.ensures) c.count.ensures)
