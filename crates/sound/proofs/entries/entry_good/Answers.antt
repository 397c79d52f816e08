-- The table has the true number of bookings.
use Rattle.std.proofs.Common.{length, ap, arith}
use Rattle.sound.proofs.Counts.{held_below_length, held_below_bookings_of}
use Rattle.sound.proofs.entries.entry_good.Goals as goal

pub bounds-held-s : goal.bounds-held-s
bounds-held-s c = omega (arith, ap length c.requires.2, held_below_length c.args.w.now c.args.n)

pub slot_good-requires-clause-limit_value : goal.slot_good-requires-clause-limit_value
slot_good-requires-clause-limit_value c =
    (c.requires.1, rw (c.wide.ensures.0, c.requires.2) (held_below_bookings_of c.args.w.now c.args.n c.args.s c.requires.0.counts c.requires.3))
