-- A test that stops the call leaves every cell; beside a ledger, with an index of the right length, the call is the known one.
use mathlib.Core.Path.{sym, ◌∙◌}
use Rattle.std.proofs.lemmas.Result.{err_from_is_err_and}
use Rattle.name_index.specs.Calls.{index_enter_call}
use Rattle.name_index.proofs.Tested.{fine_index, stop_cells}
use Rattle.index.proofs.enter.Goals as goal

pub enter-requires : goal.enter-requires
enter-requires c =
    fine_index c.args.w.now c.args.index.now (sym c.test.ensures ∙ c.in_ok-test.was)

pub returns-in_err-test : goal.returns-in_err-test
unfolding index_enter_call
returns-in_err-test c =
    let p = err_from_is_err_and c.from_residual.result c.from_residual.ensures.1 in
    rw (p.1, p.2) (sym (stop_cells c.args.w.now c.args.index.now _ _ _ (sym c.test.ensures ∙ c.in_err-test.was)))
