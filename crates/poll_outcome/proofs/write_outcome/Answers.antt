-- The outcome leaves a ledger, since the booking waited, and those who meet the rule are marked on it.
use mathlib.Core.Path.{sym, subst}
use Rattle.rules.specs.Sound.{Ledger}
use Rattle.promises.proofs.Polled.{concluded_ledger}
use Rattle.poll_outcome.proofs.write_outcome.Goals as goal

pub mark_accepted-requires : goal.mark_accepted-requires
mark_accepted-requires c =
    subst Ledger (sym c.conclude.ensures)
    (concluded_ledger c.args.w.now c.args.i c.args.success c.requires.0 (record { below = c.requires.1; waiting = c.requires.2 }))
