-- The closure asks whether record j has record i's name.
use Rattle.std.proofs.Common.{not, eqb, refl, ap, rules, tests}
use Rattle.loops.proofs.Chains.{any_over}
use Rattle.rules.specs.Layout.{name_of}
use Rattle.name_filter.proofs.look_back.Goals as goal

pub returns : goal.returns
returns c =
    let w = c.args.w.now in
    ap not (any_over _ _ (λ j. eqb (name_of w j) (name_of w c.args.i)) c.args.i _ c.any.ensures.ran refl (λ x b q k. search (rules, tests)))
