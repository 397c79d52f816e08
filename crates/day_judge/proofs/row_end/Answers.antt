-- Each test that fails is a rule of the booking that is broken, or bytes that are missing; where none fails the bytes are those of the booking.
use mathlib.Core.Path.{◌≡◌, sym, ◌∙◌}
use mathlib.Core.Bool.{true}
use native.Mathlib.Omega.{arith}
use borrow.Author.Rules.{rules}
use Rattle.day_judge.specs.Parts.{fields_good}
use Rattle.day_judge.proofs.Rows.{row_short, row_fields, row_room, row_asked}
use Rattle.day_judge.proofs.row_end.Goals as goal

pub returns-then-sections-at-lt-PARENTS : goal.returns-then-sections-at-lt-PARENTS
returns-then-sections-at-lt-PARENTS c = row_short c.args.sections.now c.args.at c.args.j (omega arith)

pub returns-then-not-fields_good : goal.returns-then-not-fields_good
returns-then-not-fields_good c =
    row_fields c.args.sections.now c.args.at c.args.j c.number_at-slot.result c.number_at-count.result (search rules) (search rules) c.number_at-slot.ensures c.number_at-count.ensures (sym c.fields_good.ensures ∙ c.if-not-fields_good.true)

pub returns-then-sections-end : goal.returns-then-sections-end
returns-then-sections-end c =
    row_room c.args.sections.now c.args.at c.args.j c.number_at-slot.result c.number_at-count.result (search rules) (search rules) c.number_at-slot.ensures c.number_at-count.ensures (omega arith)

pub returns : goal.returns
returns c =
    let fields : fields_good c.args.j c.number_at-slot.result c.number_at-count.result ≡ true = sym c.fields_good.ensures ∙ c.if-not-fields_good.false in
    rw c.then_some.ensures
    (row_asked c.args.sections.now c.args.at c.args.j c.number_at-slot.result c.number_at-count.result (search rules) (search rules) c.number_at-slot.ensures c.number_at-count.ensures
    c.parents_at-parents.result c.parents_at-parents.ensures.0 fields c.parents_at-parents.ensures.1 (omega arith) c.parents_good.result c.parents_good.ensures)
