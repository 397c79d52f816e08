-- The slot is empty exactly if it counts no booking, as in the definition; four words written by name are its row.
use mathlib.Core.Path.{sym, ◌∙◌}
use borrow.Author.Tests.{eq-eqb, ne_eqb}
use Rattle.rules.specs.Book.{entered}
use Rattle.book_writes.proofs.Rows.{sets_entry}
use Rattle.book_writes.proofs.enter_slot.Goals as goal

pub returns-then-held-eq0 : goal.returns-then-held-eq0
unfolding entered
returns-then-held-eq0 c =
    let start = c in
    simp (← c.entry-held.ensures, eq-eqb _ _ c.if-held-eq0.true)
    (c.set_entry-then-held-eq0-3.ensures
    ∙ rw (c.set_entry-then-held-eq0-2.ensures, c.set_entry-then-held-eq0.ensures, c.set_entry.ensures)
    (sym (sets_entry start.args.w.now start.args.s start.args.i start.args.i 0 1)))

pub returns-else-held-eq0 : goal.returns-else-held-eq0
unfolding entered
returns-else-held-eq0 c =
    simp (← c.entry-held.ensures, ne_eqb _ _ c.if-held-eq0.false) c.set_entry-else-held-eq0.ensures
