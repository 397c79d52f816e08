-- The table starts with zeros and ends with every slot counted.
use mathlib.Core.Path.{sym}
use Rattle.rules.specs.IsSound.{bad_slot}
use Rattle.sound.proofs.Counts.{held_below_zero}
use Rattle.sound.proofs.entries.bad_slot.Goals as goal

pub count_all-requires : goal.count_all-requires
count_all-requires c =
    (c.requires.0.whole, c.requires.0.fits, sym (held_below_zero c.args.w.now))

pub returns : goal.returns
unfolding bad_slot
returns c = c.bad_entry.ensures
