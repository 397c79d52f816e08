-- The filter asked is that of the lower names; a name that is not noted in it is new, and for the others the look back tells.
use mathlib.Core.Path.{sym, ap, ◌∙◌}
use mathlib.Core.Bool.{not}
use Rattle.rules.specs.Layout.{name_of}
use Rattle.name_filter.proofs.Names.{is_noted_new}
use Rattle.name_filter.proofs.enter.Goals as goal

pub returns : goal.returns
returns c =
    let w = c.args.w.now in
    let asked = rw (c.requires.2, c.name-name.ensures) at c.note.ensures.0 in (
      sym (ap not (is_noted_new (name_of w) c.args.i (name_of w c.args.i) (sym asked ∙ c.if-note.false))),
      c.note.ensures.1 ∙ rw c.name-name.ensures,
    )
