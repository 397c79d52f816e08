-- The filter asked is that of the numbers up to j; a name that is not noted in it is new, and for the others the look back tells.
use mathlib.Core.Path.{sym, ap, ◌∙◌}
use mathlib.Core.Bool.{not}
use Prim.Native.Nat.{◌+◌}
use lib.ListN.{drop}
use Rattle.name_filter.proofs.Names.{is_noted_new}
use Rattle.day_judge.specs.Parts.{name_read}
use Rattle.day_judge.proofs.enter_name.Goals as goal

pub returns : goal.returns
returns c =
    let asked = rw c.requires.2 at c.note.ensures.0 in
    (sym (ap not (is_noted_new (name_read (drop 2 c.args.sections.now)) (c.args.j + 1) c.args.name (sym asked ∙ c.if-note.false))), c.note.ensures.1)
