-- The words are those after the turns below j, and the bits say which slots have a mark in them.
use mathlib.Core.Path.{sym, ap, ◌∙◌}
use native.Mathlib.Omega.{arith}
use Rattle.loops.proofs.Turns.{up_to_zero, up_to_more}
use Rattle.rules.specs.Marks.{mark_one}
use Rattle.rule_laws.proofs.Marked.{header_marked_kept}
use Rattle.rule_laws.proofs.MarkedSound.{Ledger_marked_below}
use Rattle.acceptance.proofs.mark_below.Goals as goal

pub loop-j-init : goal.loop-j-init
loop-j-init c = (omega arith, sym (up_to_zero _ _), c.requires.2)

pub mark_one-requires : goal.mark_one-requires
mark_one-requires c =
    let w = c.args.w.now in
    let inv = c.loop-j.invariant in
    let j = c.loop-j.j in (
      rw inv.1 (Ledger_marked_below w c.requires.0 j (omega arith)),
      rw inv.1 (omega (arith, header_marked_kept j w 0 (omega arith))),
      inv.2,
    )

pub loop-j-preserved : goal.loop-j-preserved
loop-j-preserved c =
    let turn = c.mark_one.ensures in
    (omega arith, turn.after ∙ ap (mark_one c.loop-j.j) c.loop-j.invariant.1 ∙ sym (up_to_more _ _ _), turn.slots)
