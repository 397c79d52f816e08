-- A counter that is not enough for beta1 leaves the genesis alone; else the three ways of the definition, at what the calls ensure.
use mathlib.Core.Path.{sym, ap, ◌∙◌}
use Rattle.rules.specs.Marks.{counter_enough}
use Rattle.acceptance_rule.proofs.Rule.{meets_rule_low}
use Rattle.acceptance_rule.proofs.meets_rule.Goals as goal

pub returns-then-not-has_enough : goal.returns-then-not-has_enough
returns-then-not-has_enough c =
    sym (meets_rule_low c.args.w.now c.requires.0 c.args.j c.requires.1 (ap (counter_enough c.args.w.now c.args.j) (sym c.header.ensures) ∙ sym c.has_enough.ensures ∙ c.if-not-has_enough.true))
