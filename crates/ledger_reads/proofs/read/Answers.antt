-- A workspace that stops the call has no reading; one that is a ledger is asked.
use mathlib.Core.Path.{sym, ◌∙◌}
use Rattle.rule_laws.proofs.Tested.{fine_ledger}
use Rattle.ledger_reads.proofs.read.Goals as goal

pub ask-requires : goal.ask-requires
ask-requires c = fine_ledger _ (sym c.test.ensures ∙ c.in_ok-test.was)
