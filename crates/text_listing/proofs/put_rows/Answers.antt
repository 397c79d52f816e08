-- What is written so far is the rows so far; a row is short enough that the next one has room.
use mathlib.Core.Path.{refl}
use native.Mathlib.Omega.{arith}
use borrow.Author.Rules.{rules}
use Rattle.put.proofs.Puts.{put_length}
use Rattle.text_listing.proofs.Rows.{rows_length, rows_none, rows_more}
use Rattle.text_listing.proofs.put_rows.Goals as goal

pub loop-i-init : goal.loop-i-init
loop-i-init c = (c.how_many-n.ensures, search rules, refl, rows_none _ _ _)

pub put_one-next-requires : goal.put_one-next-requires
put_one-next-requires c =
    let i = c.loop-i.i in
    (c.requires.0, omega arith, omega (arith, c.loop-i.invariant.3.next, rows_length c.args.w.now c.requires.0 i (omega arith), c.requires.1))

pub loop-i-preserved : goal.loop-i-preserved
loop-i-preserved c =
    (c.loop-i.invariant.0, omega arith, omega (arith, put_length c.put_one-next.ensures), rows_more _ _ c.loop-i.invariant.3 c.put_one-next.ensures)
