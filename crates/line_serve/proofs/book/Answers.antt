-- On a workspace that is known to be a ledger the call is that of a ledger; on words that are all zero every one stays.
use mathlib.Core.Path.{sym}
use Rattle.line_serve.proofs.Known.{unopened_book}
use Rattle.line_serve.proofs.book.Goals as goal

pub returns-else-known : goal.returns-else-known
returns-else-known c = sym (unopened_book _ c.args.known c.requires c.if-known.false _ _ _)
