-- A file that isn't good is refused; a good one makes the words of its first three sections, and then its marks stand in place of theirs.
use mathlib.Core.Path.{sym, ap, ap₂, ◌∙◌}
use borrow.Author.Tests.{eq-eqb}
use Rattle.terms.specs.declared.form.Form.TheVariants.{Second}
use Rattle.terms.specs.Answers.{outcome, done}
use Rattle.day_file.specs.Marks.{remarked}
use Rattle.day_file.specs.Calls.{read_file_call}
use Rattle.promises.proofs.Taken.{read_outcome}
use Rattle.day_move.proofs.Moves.{words_are, words_marked, marks_are}
use Rattle.ledger.proofs.take_second.Goals as goal

pub returns-in_default : goal.returns-in_default
unfolding read_file_call
returns-in_default c = simp (eq-eqb _ _ c.requires, c.in_default.ensures)

pub remark-requires : goal.remark-requires
remark-requires c =
    let S = c.in-Some in
    words_marked c.args.file.now S.end S.ensures (words_are c.args.file.now S.end S.ensures c.replay.ensures)

pub returns : goal.returns
returns c =
    let S = c.in-Some in
    let file = c.args.file.now in
    ap (outcome done) (c.remark.ensures ∙ ap₂ remarked (marks_are file S.end S.ensures) (words_are file S.end S.ensures c.replay.ensures))
    ∙ sym (read_outcome Second c.args.w.now file c.requires S.ensures.whole)
