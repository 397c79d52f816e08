-- What is written so far is the count and the marks of the bookings so far; as many marks as there are in all say that the next one has room.
use mathlib.Core.Path.{◌≡◌, refl, ap, ◌∙◌}
use native.Mathlib.Omega.{arith}
use lib.ListN.{length}
use Rattle.rules.specs.Layout.{bookings}
use Rattle.put.proofs.Puts.{put_length, put_past}
use Rattle.day_file.proofs.Joined.{length_high_first}
use Rattle.day_file.proofs.MarksSoFar.{marks_whole, marks_few, mark_within}
use Rattle.day_sections.proofs.Sections.{marks_past, no_mark_put, mark_put, none_put, marks_all}
use Rattle.day_sections.proofs.put_marks.Goals as goal
use Rattle.day_sections.proofs.put_marks.Goals.{then-field-eq1, else-field-eq1}

pub overflow_cast-mark_count : goal.overflow_cast-mark_count
overflow_cast-mark_count c =
    let w = c.args.w.now in
    omega (arith, c.mark_count.ensures, ap length (marks_whole w), marks_few w (bookings w), c.requires.1)

pub loop-i-init : goal.loop-i-init
loop-i-init c =
    (c.wide-n.ensures.0 ∙ c.header.ensures, omega arith, refl, no_mark_put c.args.w.now _ _)

pub put_number-next-requires-then-field-eq1 : goal.put_number-next-requires-then-field-eq1
put_number-next-requires-then-field-eq1 c =
    let w = c.args.w.now in
    omega (
      arith,
      put_past 2 (length_high_first 2 _) c.put_number-next.ensures,
      marks_past w c.loop-i.i c.loop-i.invariant.3,
      mark_within w c.loop-i.i c.field.ensures c.if-field-eq1.true (bookings w) (omega arith),
      ap length (marks_whole w),
      c.requires.2,
    )

pub loop-i-preserved : goal.loop-i-preserved
loop-i-preserved c =
    let w = c.args.w.now in
    let here = c.field.ensures in
    elim c.if-field-eq1.branch [
      | then-field-eq1 v ↦ (
        c.loop-i.invariant.0,
        omega arith,
        ap length v.out-is ∙ put_length v.put_number-next-then-field-eq1.ensures ∙ c.loop-i.invariant.2,
        rw (v.out-is, v.next-is) (mark_put w c.loop-i.i here v.if-field-eq1.true c.loop-i.invariant.3 v.put_number-next-then-field-eq1.ensures),
      )
      | else-field-eq1 v ↦ (
        c.loop-i.invariant.0,
        omega arith,
        ap length v.out-is ∙ c.loop-i.invariant.2,
        rw (v.out-is, v.next-is) (none_put w c.loop-i.i here v.if-field-eq1.false c.loop-i.invariant.3),
      )
    ]

pub returns : goal.returns
returns c =
    let w = c.args.w.now in
    let e : c.loop-i.i ≡ bookings w = omega arith in
    marks_all w c.mark_count.ensures c.put_number-next.ensures (rw e at c.loop-i.invariant.3)
