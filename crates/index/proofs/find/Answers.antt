-- A test that stops the call stops the lookup; beside a ledger, with an index of the right length, the call is the known one.
use mathlib.Core.Path.{sym, ◌∙◌}
use Rattle.std.proofs.lemmas.Result.{err_from_is_err_and}
use Rattle.name_index.specs.Calls.{index_find_call}
use Rattle.name_index.proofs.Tested.{fine_index, stop_index}
use Rattle.index.proofs.find.Goals as goal

pub find-requires : goal.find-requires
find-requires c =
    fine_index c.args.w.now c.args.index.now (sym c.test.ensures ∙ c.in_ok-test.was)

pub returns-in_err-test : goal.returns-in_err-test
unfolding index_find_call
returns-in_err-test c =
    let p = err_from_is_err_and c.from_residual.result c.from_residual.ensures.1 in
    rw (p.1, p.2) (sym (stop_index c.args.w.now c.args.index.now _ _ (sym c.test.ensures ∙ c.in_err-test.was)))
