-- The places filled so far are those of the numbers read so far, whose bytes the file holds.
use native.Mathlib.Omega.{arith}
use lib.ListN.{drop}
use borrow.Author.Rules.{rules}
use Rattle.day_get.proofs.Got.{starts_none, places_none, places_next}
use Rattle.day_get.proofs.parents_at.Goals as goal

pub loop-a-init : goal.loop-a-init
loop-a-init c =
    let S = c.args in
    (omega arith, places_none (drop S.at S.file.now), starts_none S.file.now S.at)

pub loop-a-preserved : goal.loop-a-preserved
loop-a-preserved c =
    let L = c.loop-a in
    let S = c.args in
    let next =
    places_next S.file.now S.at L.a c.number_at.result (omega arith) (search rules) L.invariant.1 L.invariant.2 c.number_at.ensures in
    (omega arith, next.0, next.1)
