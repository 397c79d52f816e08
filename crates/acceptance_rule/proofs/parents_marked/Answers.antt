-- The closure asks whether a place holds a parent that is not marked.
use Rattle.std.proofs.Common.{◌∙◌, not, refl, ap, rules, tests}
use Rattle.loops.proofs.Search.{none_fails}
use Rattle.loops.proofs.Chains.{any_over}
use Rattle.rules.specs.Layout.{most_parents}
use Rattle.rules.specs.Marks.{parent_marked}
use Rattle.acceptance_rule.specs.Steps.{unmarked_parent}
use Rattle.acceptance_rule.proofs.parents_marked.Goals as goal

pub returns : goal.returns
returns c =
    let w = c.args.w.now in
    ap not (any_over _ _ (unmarked_parent w c.args.j) most_parents _ c.any.ensures.ran refl (λ x b q k. search (rules, tests)))
    ∙ none_fails (parent_marked w c.args.j) most_parents
