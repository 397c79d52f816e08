-- A yes is 1 and any other vote 0, and their sum is the number of yes votes, no more than the votes.
use Prim.Native.Nat.{ℕ}
use mathlib.Core.Bool.{Bool}
use mathlib.Core.Path.{◌∙◌}
use native.Mathlib.Omega.{arith}
use borrow.Author.Rules.{rules}
use lib.ListN.{length, get_or}
use Rattle.std.specs.Int.{from_bool}
use Rattle.std.proofs.lemmas.Iterator.{YieldsList-from_slice, YieldsList-from_map}
use Rattle.std.proofs.lemmas.Iterator.Consumers.{YieldsList-at, sum_by_from_yields_List, fits_by_from_yields_list}
use Rattle.loops.proofs.Elements.{count_elements}
use Rattle.loops.proofs.Total.{count_le}
use Rattle.terms.specs.Votes.{vote_of, is_yes}
use Rattle.votes.proofs.count_yes.Goals as goal

abbrev says_yes : ℕ → Bool
says_yes byte = is_yes (vote_of byte)

abbrev yes_bit : ℕ → ℕ
yes_bit byte = from_bool (says_yes byte)

pub sum-requires-clause-fits : goal.sum-requires-clause-fits
sum-requires-clause-fits c =
    let votes = c.args.votes.now in
    fits_by_from_yields_list yes_bit votes c.map.result _ (YieldsList-from_map _ yes_bit (YieldsList-at c.map.ensures.source (YieldsList-from_slice votes c.iter.ensures.rest)) c.map.ensures.closure (λ x r q k. search rules))
    (omega (arith, count_elements says_yes votes, count_le (λ i. says_yes (get_or votes i 0)) (length votes), c.iter.ensures.bound))

pub returns : goal.returns
returns c =
    let votes = c.args.votes.now in
    sum_by_from_yields_List yes_bit votes c.map.result _ c.sum.ensures.ran (YieldsList-from_map _ yes_bit (YieldsList-at c.map.ensures.source (YieldsList-from_slice votes c.iter.ensures.rest)) c.map.ensures.closure (λ x r q k. search rules))
    ∙ count_elements says_yes votes
