-- What is left to sweep below word q gives what the whole sweep gives.
use mathlib.Core.Path.{sym, ◌∙◌}
use native.Mathlib.Omega.{arith}
use Rattle.rule_laws.proofs.Ancestry.{sweep_done}
use Rattle.ancestry.proofs.sweep_down.Goals as goal

pub returns : goal.returns
returns c = sym (c.loop-q.invariant.1 ∙ sweep_done _ _ _ (omega arith))
