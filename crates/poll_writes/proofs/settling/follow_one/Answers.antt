-- The code's test is the definition's: the last booking of the slot counts on, another starts where the edition says.
use borrow.Author.Tests.{eq-eqb, ne_eqb}
use Rattle.rules.specs.Poll.{follow}
use Rattle.poll_writes.proofs.settling.follow_one.Goals as goal

pub returns-then-last-j : goal.returns-then-last-j
unfolding follow
returns-then-last-j c =
    simp (c.set_entry.ensures, c.entry-counter.ensures, ← c.entry.ensures, ← c.wide-last.ensures.0, eq-eqb _ _ c.if-last-j.true)

pub returns-else-last-j : goal.returns-else-last-j
unfolding follow
returns-else-last-j c =
    simp (c.set_entry-else-last-j-2.ensures, c.set_entry-else-last-j.ensures, c.restart-start.ensures, c.header.ensures, ← c.entry.ensures, ← c.wide-last.ensures.0, ne_eqb _ _ c.if-last-j.false)
