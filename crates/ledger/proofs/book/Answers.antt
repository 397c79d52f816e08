-- A workspace that stops the call keeps every word; on one that is a ledger the call is the known one.
use mathlib.Core.Path.{sym, ◌∙◌}
use Rattle.std.proofs.lemmas.Result.{err_from_is_err_and}
use Rattle.rules.specs.Calls.{book_call}
use Rattle.rule_laws.proofs.Tested.{fine_ledger, stop_leaves}
use Rattle.ledger.proofs.book.Goals as goal

pub book-requires : goal.book-requires
book-requires c = fine_ledger _ (sym c.test.ensures ∙ c.in_ok-test.was)

pub returns-in_err-test : goal.returns-in_err-test
unfolding book_call
returns-in_err-test c =
    let p = err_from_is_err_and c.from_residual.result c.from_residual.ensures.1 in
    rw (p.1, p.2) (sym (stop_leaves _ _ _ _ (sym c.test.ensures ∙ c.in_err-test.was)))
