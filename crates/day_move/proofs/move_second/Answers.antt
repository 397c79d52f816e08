-- A file that isn't good is refused, and so is one whose marks are not those of the words that its first three sections give. Of the others these words are a ledger, and
-- its first form is the file without its marks.
use mathlib.Core.Path.{sym, ap, ap₂, subst, ◌∙◌}
use mathlib.Core.Bool.{not}
use Rattle.terms.specs.declared.form.Form.TheVariants.{First, Second}
use Rattle.rules.specs.Sound.{Ledger}
use Rattle.day_file.specs.Day.{marks_of}
use Rattle.day_file.specs.Bytes.{encode, file_of}
use Rattle.day_file.specs.Decode.{decode}
use Rattle.day_file.specs.Replay.{same_list}
use Rattle.promises.proofs.Stages.{replayed_day}
use Rattle.promises.proofs.Forms.{good_taken}
use Rattle.day_move.proofs.Moves.{words_are, words_ledger, words_marked, marks_are, bad_second, other_second, written_moved}
use Rattle.day_move.proofs.move_second.Goals as goal

pub returns-in_default : goal.returns-in_default
returns-in_default c = bad_second c.args.file.now c.args.out.now c.in_default.ensures

pub has_same-requires : goal.has_same-requires
has_same-requires c =
    let S = c.in-Some in
    words_marked c.args.file.now S.end S.ensures (words_are c.args.file.now S.end S.ensures c.replay.ensures)

pub returns-then-not-has_same : goal.returns-then-not-has_same
returns-then-not-has_same c =
    let S = c.in-Some in
    let file = c.args.file.now in
    let words = words_are file S.end S.ensures c.replay.ensures in
    let told = c.has_same.ensures ∙ ap₂ (λ v marks. same_list (marks_of v) marks) words (marks_are file S.end S.ensures) in
    other_second file c.args.out.now S.ensures.whole (sym told ∙ c.if-not-has_same.true)

pub write_first-requires : goal.write_first-requires
write_first-requires c =
    let S = c.in-Some in
    let file = c.args.file.now in
    subst Ledger (sym (words_are file S.end S.ensures c.replay.ensures)) (words_ledger file S.end S.ensures)

pub returns : goal.returns
returns c =
    let S = c.in-Some in
    let file = c.args.file.now in
    let words = words_are file S.end S.ensures c.replay.ensures in
    let ledger = subst Ledger (sym words) (words_ledger file S.end S.ensures) in
    let told = c.has_same.ensures ∙ ap₂ (λ v marks. same_list (marks_of v) marks) words (marks_are file S.end S.ensures) in
    let day = replayed_day (decode file) (good_taken Second file S.ensures.whole) in
    written_moved Second file c.args.out.now _ _ _ ledger S.ensures.whole (ap not (sym told ∙ c.if-not-has_same.false))
    (ap (file_of First) words ∙ ap encode day) c.write_first.ensures
