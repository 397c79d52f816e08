-- An unused place holds no parent; a used one holds a booking, whose mark is read.
use mathlib.Core.Path.{sym, ◌∙◌}
use native.Mathlib.Omega.{arith}
use Rattle.acceptance_rule.proofs.Rule.{parent_few}
use Rattle.acceptance_rule.proofs.is_unmarked.Goals as goal

pub is_accepted-requires : goal.is_accepted-requires
is_accepted-requires c =
    let few = parent_few c.args.w.now c.requires.0 c.args.j c.requires.1 c.args.a c.requires.2 (λ e. c.if-p-wide.true (c.parent-p.ensures ∙ e ∙ sym c.wide.ensures.0)) in
    (c.requires.0.whole, omega (arith, c.parent-p.ensures))
