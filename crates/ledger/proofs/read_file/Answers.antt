-- Words of another length are refused; into the others the file is taken over, as its form asks.
use borrow.Author.Tests.{ne_eqb}
use Rattle.day_file.specs.Calls.{read_file_call}
use Rattle.ledger.proofs.read_file.Goals as goal

pub returns-then-w-ne-SIZE : goal.returns-then-w-ne-SIZE
unfolding read_file_call
returns-then-w-ne-SIZE c = simp (ne_eqb _ _ c.if-w-ne-SIZE.true)
