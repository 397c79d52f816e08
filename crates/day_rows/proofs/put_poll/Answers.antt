-- Two numbers at the place of the ordinal; a booking that waits writes nothing.
use native.Mathlib.Omega.{arith}
use Rattle.put.proofs.Puts.{put_past}
use Rattle.day_file.proofs.Joined.{length_high_first}
use Rattle.day_rows.proofs.Rows.{poll_put, poll_none}
use Rattle.day_rows.proofs.put_poll.Goals as goal

pub put_number-requires : goal.put_number-requires
put_number-requires c =
    omega (arith, put_past 2 (length_high_first 2 _) c.put_number-next.ensures, c.wide_field-ordinal.ensures, c.requires)

pub returns-then-ordinal-ne0 : goal.returns-then-ordinal-ne0
returns-then-ordinal-ne0 c =
    poll_put c.args.w.now c.args.i
    c.wide_field-ordinal.ensures
    c.chit-success.ensures
    c.if-ordinal-ne0.true
    c.put_number-next.ensures
    c.put_number.ensures

pub returns-else-ordinal-ne0 : goal.returns-else-ordinal-ne0
returns-else-ordinal-ne0 c =
    poll_none c.args.w.now c.args.i c.wide_field-ordinal.ensures c.if-ordinal-ne0.false
