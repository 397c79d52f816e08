-- The closure gives a rival's confidence, and 0 for who is no rival.
use Rattle.std.proofs.Common.{◌∙◌, ap, rules, tests}
use Rattle.loops.specs.Total.{greatest}
use Rattle.loops.proofs.Chains.{greatest_over}
use Rattle.rules.specs.Readings.{rival_confidence, rivals_most}
use Rattle.booking_reads.proofs.lead.rivals_most.Goals as goal

pub returns : goal.returns
unfolding rivals_most
returns c =
    let h = rival_confidence c.args.w.now c.args.i in
    greatest_over h c.how_many.result c.map.result c.map.ensures.source c.map.ensures.closure (λ x r q k. search (rules, tests)) _ c.fold.ensures.ran (λ a x b q k. search (rules, tests))
    ∙ ap (greatest h) c.how_many.ensures
