use Rattle.std.proofs.Common.{◌≡◌, ◌+◌, ◌*◌, ◌≤◌, length}
use Rattle.text_print.specs.Columns.{field_most}
use Rattle.text_print.proofs.Rows.{RowLeft}
use Rattle.text_print.proofs.columns.put_row.Given as goal

abbrev pub invariant-loop-field : goal.invariant-loop-field
invariant-loop-field l =
    (length l.out ≡ length l.initial.out) × (l.next + field_most * length l.fields ≤ length l.out) × RowLeft l.initial.out l.at l.fn.fields l.out l.next l.fields

abbrev pub decreases-loop-field : goal.decreases-loop-field
decreases-loop-field l = length l.fields
