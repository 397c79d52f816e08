-- A ledger is listed, and words that are all zero are refused.
use Rattle.line_serve.proofs.Known.{known_ledger}
use Rattle.line_serve.proofs.Serving.{serves_listed, serves_unlisted}
use Rattle.line_serve.proofs.serve_list.Goals as goal

pub returns-then-known : goal.returns-then-known
returns-then-known c =
    serves_listed _ (known_ledger _ c.args.known c.requires.told c.if-known.true) c.put_list-next.ensures c.requires.told

pub returns-else-known : goal.returns-else-known
returns-else-known c =
    serves_unlisted _ c.args.known c.requires.told c.if-known.false c.put_call-next.ensures c.requires.told
