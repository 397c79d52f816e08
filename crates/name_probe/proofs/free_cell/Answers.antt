-- The cells are tried in turn, and the closure asks whether one is empty.
use Rattle.std.proofs.Common.{◌∙◌, eqb, get_or, rules, tests}
use Rattle.loops.proofs.Chains.{find_mapped}
use Rattle.name_index.specs.Index.{cells, empty, tried}
use Rattle.name_index.proofs.Probe.{free_probed}
use Rattle.name_probe.proofs.free_cell.Goals as goal

pub returns : goal.returns
returns c =
    let index = c.args.index.now in
    find_mapped (tried c.args.h) cells c.map.result c.map.ensures.source c.map.ensures.closure (λ x r q k. search (rules, tests))
    (λ x. eqb (get_or index x 0) empty) _ _ _ c.find.ensures.ran (λ x b q k. search (rules, tests))
    ∙ free_probed index c.args.h c.requires.0
