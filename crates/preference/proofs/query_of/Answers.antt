-- None is in the way exactly if all pass: the definition, at what the calls ensure.
use Rattle.std.proofs.Common.{ℕ, ◌∙◌, not, List, refl, ap, rules, tests}
use mathlib.Core.Path.{ap₂}
use Rattle.loops.specs.Search.{all}
use Rattle.loops.proofs.Search.{none_fails}
use Rattle.loops.proofs.Chains.{any_over}
use Rattle.rules.specs.Readings.{passes_query, query_of}
use Rattle.bits.specs.Members.{members_in}
use Rattle.preference.specs.Steps.{in_the_way}
use Rattle.preference.proofs.query_of.Goals as goal

pub returns : goal.returns
unfolding query_of
returns c =
    let w = c.args.w.now in
    let m = members_in c.gather_ancestry.new.m in
    let n = c.how_many.result in
    ap not (any_over _ _ (in_the_way w m) n _ c.any.ensures.ran refl (λ x b q k. search (rules, tests)))
    ∙ none_fails (passes_query w m) n
    ∙ ap₂ (λ (m : List ℕ) (n : ℕ). all (passes_query w m) n) c.gather_ancestry.ensures c.how_many.ensures
