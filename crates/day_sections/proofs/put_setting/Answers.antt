-- The count, after it the four numbers that stand beside each other, and then the edition where it is written.
use mathlib.Core.Path.{◌≡◌, sym, ◌∙◌}
use native.Mathlib.Omega.{arith}
use Rattle.terms.specs.declared.setting.Setting.{Setting}
use Rattle.rules.specs.Layout.{setting_in}
use Rattle.put.proofs.Puts.{put_past}
use Rattle.day_file.proofs.Joined.{length_high_first}
use Rattle.day_sections.proofs.Sections.{four, four_past, later_room, first_put, later_put, four_words}
use Rattle.day_sections.proofs.put_setting.Goals as goal

pub put_numbers-end-requires : goal.put_numbers-end-requires
put_numbers-end-requires c = rw (c.setting.ensures ∙ four_words c.args.w.now) (omega (arith, put_past 2 (length_high_first 2 _) c.put_number-next.ensures, c.requires.1))

pub returns-then-edition-eq0 : goal.returns-then-edition-eq0
returns-then-edition-eq0 c =
    let s : Setting = setting_in c.args.w.now in
    let numbers : c.setting.result.now ≡ four s = c.setting.ensures ∙ four_words c.args.w.now in
    first_put s (sym c.header-edition.ensures ∙ c.if-edition-eq0.true) c.setting_numbers.ensures numbers c.put_number-next.ensures c.put_numbers-end.ensures

pub put_number-requires : goal.put_number-requires
put_number-requires c =
    let s : Setting = setting_in c.args.w.now in
    let numbers : c.setting.result.now ≡ four s = c.setting.ensures ∙ four_words c.args.w.now in
    let later : s.edition ≡ 0 → ⊥ = λ e. c.if-edition-eq0.false (c.header-edition.ensures ∙ e) in
    omega (arith, put_past 2 (length_high_first 2 _) c.put_number-next.ensures, four_past s numbers c.put_numbers-end.ensures, later_room s later, c.requires.1)

pub returns : goal.returns
returns c =
    let s : Setting = setting_in c.args.w.now in
    let numbers : c.setting.result.now ≡ four s = c.setting.ensures ∙ four_words c.args.w.now in
    let later : s.edition ≡ 0 → ⊥ = λ e. c.if-edition-eq0.false (c.header-edition.ensures ∙ e) in
    later_put s later c.setting_numbers.ensures numbers c.header-edition.ensures c.put_number-next.ensures c.put_numbers-end.ensures c.put_number.ensures
