-- A workspace that stops the call keeps every byte of the buffer; on one that is a ledger the call is the known one.
use mathlib.Core.Path.{sym, ◌∙◌}
use Rattle.std.proofs.lemmas.Result.{err_from_is_err_and}
use Rattle.day_file.specs.Calls.{write_file_call}
use Rattle.rule_laws.proofs.Tested.{fine_ledger, stop_hands_over}
use Rattle.ledger.proofs.write_file.Goals as goal

pub write-requires : goal.write-requires
write-requires c = fine_ledger _ (sym c.test.ensures ∙ c.in_ok-test.was)

pub returns-in_err-test : goal.returns-in_err-test
unfolding write_file_call
returns-in_err-test c =
    let p = err_from_is_err_and c.from_residual.result c.from_residual.ensures.1 in
    rw (p.1, p.2) (sym (stop_hands_over _ _ _ _ _ _ (sym c.test.ensures ∙ c.in_err-test.was)))
