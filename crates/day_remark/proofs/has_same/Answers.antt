-- The marks met so far are the first of the section, so many as were met.
use mathlib.Core.Path.{sym, subst, ◌∙◌}
use Prim.Native.Nat.{◌+◌, ◌<◌}
use native.Mathlib.Omega.{arith}
use lib.ListN.{length}
use borrow.Author.Rules.{rules}
use Rattle.day_file.specs.Decode.{marks_in}
use Rattle.day_remark.proofs.MarksRead.{count_is, mark_is, length_section, Met, met_none, met_all, met_unmarked, met_more, met_too_many, met_other}
use Rattle.day_remark.proofs.has_same.Goals as goal
use Rattle.day_remark.proofs.has_same.Goals.{then-field-eq1+else-next-count+else-mark-i, else-field-eq1}

pub number_at-count-requires : goal.number_at-count-requires
number_at-count-requires c = omega (arith, length_section c.args.section.now c.requires.2)

pub loop-i-init : goal.loop-i-init
loop-i-init c = (
  c.wide-n.ensures.0 ∙ c.header.ensures,
  count_is c.args.section.now c.number_at-count.result (search rules) c.number_at-count.ensures,
  omega arith,
  met_none c.args.w.now (marks_in c.args.section.now),
)

pub returns-then-next-count : goal.returns-then-next-count
returns-then-next-count c = met_too_many c.args.w.now (marks_in c.args.section.now) c.loop-i.invariant.3 c.field.ensures c.if-field-eq1.true (omega arith) (c.if-next-count.true ∙ c.loop-i.invariant.1)

pub number_at-mark-requires : goal.number_at-mark-requires
number_at-mark-requires c =
    let left : c.loop-i.next < length (marks_in c.args.section.now) = omega (arith, c.if-next-count.false, c.loop-i.invariant.1, c.loop-i.invariant.3.few) in
    omega (arith, left, length_section c.args.section.now c.requires.2)

pub returns-then-mark-i : goal.returns-then-mark-i
returns-then-mark-i c =
    let left : c.loop-i.next < length (marks_in c.args.section.now) = omega (arith, c.if-next-count.false, c.loop-i.invariant.1, c.loop-i.invariant.3.few) in
    let read = mark_is c.args.section.now c.loop-i.next c.number_at-mark.result left (search rules) c.number_at-mark.ensures in
    met_other c.args.w.now (marks_in c.args.section.now) c.loop-i.invariant.3 c.field.ensures c.if-field-eq1.true (omega arith) (λ same. c.if-mark-i.true (read ∙ same))

pub loop-i-preserved : goal.loop-i-preserved
loop-i-preserved c =
    let w = c.args.w.now in
    let section = c.args.section.now in
    let met = c.loop-i.invariant.3 in (
      c.loop-i.invariant.0,
      c.loop-i.invariant.1,
      omega arith,
      elim c.if-field-eq1.branch [
        | then-field-eq1+else-next-count+else-mark-i v ↦
            let read = mark_is section c.loop-i.next v.number_at-mark.result (omega (arith, v.if-next-count.false, c.loop-i.invariant.1, met.few)) (search rules) v.number_at-mark.ensures in
            subst (λ k. Met w (marks_in section) k (c.loop-i.i + 1)) (sym v.next-is) (met_more w (marks_in section) met c.field.ensures v.if-field-eq1.true (omega (arith, v.if-next-count.false, c.loop-i.invariant.1, met.few)) (sym read ∙ v.if-mark-i.false))
        | else-field-eq1 v ↦ subst (λ k. Met w (marks_in section) k (c.loop-i.i + 1)) (sym v.next-is) (met_unmarked w (marks_in section) met c.field.ensures v.if-field-eq1.false)
      ],
    )

pub returns : goal.returns
returns c = met_all c.args.w.now (marks_in c.args.section.now) c.loop-i.invariant.3 (omega arith) c.loop-i.invariant.1
