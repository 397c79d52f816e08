-- The answer is printed as it is; what the words are known to be is as before.
use mathlib.Core.Path.{sym, subst}
use Rattle.line_serve.specs.Serve.{Keeps}
use Rattle.line_serve.proofs.Known.{book_keeps}
use Rattle.line_serve.proofs.Serving.{serves_called}
use Rattle.line_serve.proofs.serve_book.Goals as goal

pub returns : goal.returns
returns c =
    serves_called c.book-answer.result c.book-answer.ensures c.put_call-next.ensures
    (subst (λ o. Keeps c.args.known o.words) (sym c.book-answer.ensures) (book_keeps c.args.w.now c.args.known c.requires.told c.args.name c.args.slot c.args.parents.now))
