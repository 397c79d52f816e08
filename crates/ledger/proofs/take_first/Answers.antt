-- A file that isn't good is refused, and a good one makes its words.
use borrow.Author.Tests.{eq-eqb}
use Rattle.day_file.specs.Calls.{read_file_call}
use Rattle.ledger.proofs.take_first.Goals as goal

pub returns-then-not-is_good : goal.returns-then-not-is_good
unfolding read_file_call
returns-then-not-is_good c = simp (eq-eqb _ _ c.requires, ← c.is_good.ensures, c.if-not-is_good.true)

pub returns : goal.returns
unfolding read_file_call
returns c =
    simp (c.replay.ensures, eq-eqb _ _ c.requires, ← c.is_good.ensures, c.if-not-is_good.false)
