-- Four numbers behind a count of four are a setting of edition 0, five behind one of five a setting whose edition isn't 0; any other count is none.
use borrow.Author.Rules.{rules}
use Rattle.terms.specs.Setting.{setting_of}
use Rattle.day_judge.proofs.Settings.{FourRead, Laid, rules_asked, first_laid, later_laid, other_count, edition_zero_told}
use Rattle.day_judge.proofs.setting_end.Goals as goal
use Rattle.day_judge.proofs.setting_end.Goals.{in-4, in-5+else-edition-eq-FIRST_EDITION}

pub returns-then-edition-eq-FIRST_EDITION : goal.returns-then-edition-eq-FIRST_EDITION
returns-then-edition-eq-FIRST_EDITION c =
    let four : FourRead c.args.file.now c.number_at.result c.number_at-k.result c.number_at-a.result c.number_at-beta1.result c.number_at-beta2.result = search rules in
    edition_zero_told c.args.file.now four c.in-5.is c.number_at-edition.result (search rules) c.number_at-edition.ensures c.if-edition-eq-FIRST_EDITION.true

pub returns-in_default : goal.returns-in_default
returns-in_default c = other_count c.args.file.now c.number_at.result (search rules) c.number_at.ensures (search rules) (search rules)

pub returns : goal.returns
returns c =
    let four : FourRead c.args.file.now c.number_at.result c.number_at-k.result c.number_at-a.result c.number_at-beta1.result c.number_at-beta2.result = search rules in
    let chosen = c.match-number_at.edition in
    let laid : Laid c.args.file.now (setting_of c.number_at-k.result c.number_at-a.result c.number_at-beta1.result c.number_at-beta2.result chosen.0) chosen.1 =
    elim c.match-number_at.branch [
      | in-4 w ↦ rw w.edition-is (first_laid c.args.file.now four w.in-4.is)
      | in-5+else-edition-eq-FIRST_EDITION w ↦
          rw w.edition-is
          (later_laid c.args.file.now four w.in-5.is w.number_at-edition.result (search rules) w.number_at-edition.ensures w.if-edition-eq-FIRST_EDITION.false)
    ] in
    rw c.then_some.ensures (rules_asked c.args.file.now _ _ laid c.is_good.result c.is_good.ensures)
