-- The closure asks whether a word is 0.
use Rattle.std.proofs.Common.{◌∙◌, eqb, rules, tests}
use Rattle.loops.proofs.Chains.{all_in}
use Rattle.rules.specs.Layout.{record_words, field}
use Rattle.sound_rows.proofs.record.record_zero.Goals as goal

pub returns : goal.returns
returns c =
    all_in _ _ (λ x. eqb x 0) (field c.args.w.now c.args.i) record_words _ c.all.ensures.ran (c.iter.ensures.rest ∙ c.fields.ensures) (λ x b q k. search (rules, tests))
