-- Before each turn the words are those of its stage, and the rest of the section stands from the offset on.
use native.Mathlib.Omega.{arith}
use borrow.Author.Rules.{rules}
use Rattle.day_replay.proofs.GoodFile.{booking_room, booking_first, booking_able, booking_more, booking_over}
use Rattle.day_replay.proofs.rebook_all.Goals as goal

pub number_at-requires : goal.number_at-requires
number_at-requires c = booking_room c.args.file.now c.requires.1 c.args.start c.requires.2

pub overflow_add-at : goal.overflow_add-at
overflow_add-at c = omega (arith, booking_room c.args.file.now c.requires.1 c.args.start c.requires.2)

pub loop-init : goal.loop-init
loop-init c =
    booking_first c.args.file.now c.requires.1 c.args.start c.requires.2 c.number_at.result (search rules) c.wide-count.ensures.0 c.number_at.ensures c.requires.0

pub rebook-at-requires : goal.rebook-at-requires
rebook-at-requires c = booking_able c.args.file.now c.requires.1 c.loop.invariant.1 (omega arith)

pub loop-preserved : goal.loop-preserved
loop-preserved c = (c.loop.invariant.0, booking_more c.args.file.now c.requires.1 c.loop.invariant.1 (omega arith) c.rebook-at.ensures)

pub returns : goal.returns
returns c = booking_over c.args.file.now c.requires.1 c.loop.invariant.1 (omega arith)
