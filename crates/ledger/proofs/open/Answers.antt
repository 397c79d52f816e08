-- The two refusals in their order, and what a taken opening writes.
use borrow.Author.Tests.{eq-eqb, ne_eqb}
use Rattle.rules.specs.Calls.{open_call}
use Rattle.ledger.proofs.open.Goals as goal

pub returns-then-w-ne-SIZE : goal.returns-then-w-ne-SIZE
unfolding open_call
returns-then-w-ne-SIZE c = simp (ne_eqb _ _ c.if-w-ne-SIZE.true)

pub returns-then-is_good : goal.returns-then-is_good
unfolding open_call
returns-then-is_good c =
    simp (c.write_open.ensures, eq-eqb _ _ c.if-w-ne-SIZE.false, ← c.is_good.ensures, c.if-is_good.true)

pub returns-else-is_good : goal.returns-else-is_good
unfolding open_call
returns-else-is_good c = simp (eq-eqb _ _ c.if-w-ne-SIZE.false, ← c.is_good.ensures, c.if-is_good.false)
