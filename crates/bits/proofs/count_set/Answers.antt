-- The sum is that of the words' ones, and these are the bits that are set.
use mathlib.Core.Path.{◌∙◌}
use native.Mathlib.Omega.{arith}
use borrow.Author.Rules.{rules}
use Rattle.std.proofs.lemmas.Iterator.{YieldsList-from_slice, YieldsList-from_map}
use Rattle.std.proofs.lemmas.Iterator.Consumers.{YieldsList-at, sum_by_from_yields_List, fits_by_from_yields_list}
use Rattle.loops.proofs.Total.{count_le}
use Rattle.bits.specs.Bits.{bit_at, ones_in}
use Rattle.bits.proofs.Counted.{count_words}
use Rattle.bits.proofs.count_set.Goals as goal

pub sum-requires-clause-fits : goal.sum-requires-clause-fits
sum-requires-clause-fits c =
    let bits = c.args.bits.now in
    fits_by_from_yields_list ones_in bits c.map.result _ (YieldsList-from_map _ ones_in (YieldsList-at c.map.ensures.source (YieldsList-from_slice bits c.iter.ensures.rest)) c.map.ensures.closure (λ x r q k. search rules)) (omega (arith, count_words bits c.requires, count_le (bit_at bits) 512))

pub returns : goal.returns
returns c =
    let bits = c.args.bits.now in
    sum_by_from_yields_List ones_in bits c.map.result _ c.sum.ensures.ran (YieldsList-from_map _ ones_in (YieldsList-at c.map.ensures.source (YieldsList-from_slice bits c.iter.ensures.rest)) c.map.ensures.closure (λ x r q k. search rules))
    ∙ count_words bits c.requires
