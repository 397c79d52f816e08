-- The first of the section's bookings, so many, have a mark again.
use mathlib.Core.Path.{◌≡◌, sym, ap, ap₂, ◌∙◌}
use Prim.Native.Nat.{◌<◌}
use native.Mathlib.Omega.{arith}
use lib.ListN.{length, get_or, length-set}
use borrow.Author.Rules.{rules}
use Rattle.loops.proofs.Turns.{up_to_zero, up_to_more}
use Rattle.rules.specs.Layout.{record_at, mark_field, with_field}
use Rattle.day_file.specs.Marks.{mark_again, marked_again, remarked}
use Rattle.day_file.specs.Decode.{marks_in}
use Rattle.day_remark.proofs.MarksRead.{count_is, mark_is, length_section}
use Rattle.day_remark.proofs.remark.Goals as goal

pub number_at-count-requires : goal.number_at-count-requires
number_at-count-requires c = omega (arith, length_section c.args.section.now c.requires.2)

pub loop-a-init : goal.loop-a-init
loop-a-init c =
    let section = c.args.section.now in (
      count_is section c.number_at-count.result (search rules) c.number_at-count.ensures,
      omega arith,
      search rules,
      sym (up_to_zero (mark_again (marks_in section)) _),
    )

pub number_at-i-requires : goal.number_at-i-requires
number_at-i-requires c = omega (arith, length_section c.args.section.now c.requires.2, c.loop-a.invariant.0)

pub set_field-requires : goal.set_field-requires
set_field-requires c =
    let within : c.loop-a.a < length (marks_in c.args.section.now) = omega (arith, c.loop-a.invariant.0, c.loop-a-test.true) in
    let read : c.number_at-i.result ≡ get_or (marks_in c.args.section.now) c.loop-a.a 0 = mark_is c.args.section.now c.loop-a.a c.number_at-i.result within (search rules) c.number_at-i.ensures in
    (c.loop-a.invariant.2, omega (arith, read, c.requires.2.below c.loop-a.a within), omega arith)

pub loop-a-preserved : goal.loop-a-preserved
loop-a-preserved c =
    let within : c.loop-a.a < length (marks_in c.args.section.now) = omega (arith, c.loop-a.invariant.0, c.loop-a-test.true) in
    let read : c.number_at-i.result ≡ get_or (marks_in c.args.section.now) c.loop-a.a 0 = mark_is c.args.section.now c.loop-a.a c.number_at-i.result within (search rules) c.number_at-i.ensures in
    let l = c.loop-a in
    let marks = marks_in c.args.section.now in (
      l.invariant.0,
      omega arith,
      ap length c.set_field.ensures ∙ length-set l.w (record_at c.number_at-i.result mark_field) 1 ∙ l.invariant.2,
      c.set_field.ensures ∙ ap₂ (λ v i. with_field v i mark_field 1) l.invariant.3 read ∙ sym (up_to_more (mark_again marks) l.a _),
    )

pub returns : goal.returns
unfolding remarked
returns c =
    let l = c.loop-a in
    let marks = marks_in c.args.section.now in
    let over : l.a ≡ length marks = omega (arith, l.invariant.0) in
    l.invariant.3 ∙ ap₂ (λ n v. marked_again marks n v) over c.clear.ensures
