-- The closure gives 1 for a chit, and there are no more of them than records.
use Rattle.std.proofs.Common.{ℕ, ◌∙◌, Bool, eqb, List, ap, arith, rules, tests}
use Rattle.loops.specs.Total.{bit, count}
use Rattle.loops.proofs.Chains.{total_over, total_fits}
use Rattle.loops.proofs.Total.{count_le}
use Rattle.rules.specs.Layout.{state_of}
use Rattle.rules.specs.IsSound.{chits}
use Rattle.sound_records.proofs.chits.Goals as goal

is_chit : List ℕ → ℕ → Bool
is_chit w i = eqb (state_of w i) 2

pub sum-requires-clause-fits : goal.sum-requires-clause-fits
unfolding is_chit
sum-requires-clause-fits c =
    let w = c.args.w.now in
    let few = count_le (is_chit w) c.args.n in
    total_fits (λ i. bit (is_chit w i)) c.args.n c.map.result c.map.ensures.source c.map.ensures.closure (λ x r q k. search (rules, tests)) _ (omega arith)

pub returns : goal.returns
unfolding chits is_chit
returns c =
    let w = c.args.w.now in
    total_over (λ i. bit (is_chit w i)) c.args.n c.map.result c.map.ensures.source c.map.ensures.closure (λ x r q k. search (rules, tests)) _ c.sum.ensures.ran
    ∙ ap (count (is_chit w)) c.requires.counts
