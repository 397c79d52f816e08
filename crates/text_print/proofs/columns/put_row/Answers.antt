-- The row of the fields left completes the row, and there is room for it.
use Rattle.std.proofs.Common.{◌<◌, ◌^◌, rules, arith}
use Rattle.text_print.proofs.Rows.{row_more, row_over, field_length}
use Rattle.text_print.proofs.columns.put_row.Goals as goal

pub loop-field-preserved : goal.loop-field-preserved
loop-field-preserved c =
    let v = c.in-Some.field.now in
    let fits : v < 2 ^ 64 = search rules in
    let split = c.in-Some.ensures.cases in (
      omega (arith, c.put_field-next.auto.out),
      omega (arith, split.1, c.put_field-next.auto.out, c.put_field-next.ensures.next, field_length v c.end_of.result fits),
      row_more v c.in-Some.rest.now (rw split.0 at c.loop-field.invariant.2) (rw c.end_of.ensures at c.put_field-next.ensures),
    )

pub returns : goal.returns
returns c = row_over c.loop-field.fields.now c.in_default.ensures.cases c.loop-field.invariant.2
