-- Before each turn the words are those of its stage, and the rest of the section stands from the offset on.
use native.Mathlib.Omega.{arith}
use borrow.Author.Rules.{rules}
use Rattle.day_replay.proofs.GoodFile.{poll_room, poll_first, poll_able, poll_more, poll_over}
use Rattle.day_replay.proofs.repoll_all.Goals as goal

pub number_at-requires : goal.number_at-requires
number_at-requires c = poll_room c.args.file.now c.requires.1 c.args.at c.requires.2

pub overflow_add-next : goal.overflow_add-next
overflow_add-next c = omega (arith, poll_room c.args.file.now c.requires.1 c.args.at c.requires.2)

pub loop-init : goal.loop-init
loop-init c =
    poll_first c.args.file.now c.requires.1 c.args.at c.requires.2 c.number_at.result (search rules) c.wide-polls.ensures.0 c.number_at.ensures c.requires.0

pub repoll-next-requires : goal.repoll-next-requires
repoll-next-requires c = poll_able c.args.file.now c.requires.1 c.loop.invariant.1 (omega arith)

pub loop-preserved : goal.loop-preserved
loop-preserved c = (c.loop.invariant.0, poll_more c.args.file.now c.requires.1 c.loop.invariant.1 (omega arith) c.repoll-next.ensures)

pub returns : goal.returns
returns c = poll_over c.args.file.now c.requires.1 c.loop.invariant.1 (omega arith)
