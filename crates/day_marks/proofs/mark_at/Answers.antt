-- Mark a stands behind the count and a numbers.
use mathlib.Core.Path.{sym, ◌∙◌}
use Rattle.day_file.proofs.SecondFile.{mark_read}
use Rattle.day_marks.proofs.mark_at.Goals as goal

pub returns : goal.returns
returns c =
    c.number_at.ensures.0 ∙ sym (mark_read c.args.section.now c.args.a c.requires.0)
