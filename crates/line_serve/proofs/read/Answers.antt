-- A workspace that is known to be a ledger is asked; words that are all zero are refused.
use mathlib.Core.Path.{sym}
use Rattle.line_serve.proofs.Known.{unopened_tested}
use Rattle.line_serve.proofs.read.Goals as goal

pub returns-else-known : goal.returns-else-known
returns-else-known c = sym (unopened_tested _ c.args.known c.requires c.if-known.false _)
