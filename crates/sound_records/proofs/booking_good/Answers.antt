-- The code has the rule's tests in the rule's order, with what it was told in place of a look back at the lower names and marks, and the bits of the lower ordinals.
use Rattle.sound_records.proofs.Seen.{booking_good_seen}
use Rattle.sound_records.proofs.booking_good.Goals as goal

pub returns : goal.returns
returns c =
    rw (c.requires.1, c.wide_field-s.ensures, c.parents_good.ensures, c.state_good.ensures, c.is_set.ensures, c.wide_field-o.ensures, c.requires.0.lower, c.requires.2) (booking_good_seen c.args.w.now c.args.i c.requires.0.polled)
