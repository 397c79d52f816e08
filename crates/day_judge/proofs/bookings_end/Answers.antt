-- The bookings before j are by the rules and were walked to the offset; the filter has the names of the numbers up to j.
use Prim.Native.Nat.{◌+◌, ◌<◌, ◌^◌}
use mathlib.Core.Path.{◌≡◌, sym, ap, ap₂, ◌∙◌}
use mathlib.Core.Bool.{not}
use native.Mathlib.Omega.{arith}
use lib.ListN.{drop}
use borrow.Author.Rules.{rules}
use borrow.Author.Tests.{eq-eqb, not-false}
use Rattle.loops.proofs.Bools.{and_both}
use Rattle.loops.proofs.Search.{search_start, search_miss, search_over}
use Rattle.name_filter.specs.Names.{with_noted}
use Rattle.name_filter.proofs.Names.{names_noted_more}
use Rattle.day_judge.specs.Parts.{name_read, is_named, row_good}
use Rattle.day_judge.specs.Judged.{Walked, booking_from, RowEnds}
use Rattle.day_judge.proofs.Rows.{name_is}
use Rattle.day_judge.proofs.Bookings.{walked_none, next_rules, walked_more, name_refused, row_refused}
use Rattle.day_judge.proofs.bookings_end.Goals as goal

pub loop-j-init : goal.loop-j-init
loop-j-init c = (omega arith, walked_none c.args.sections.now c.requires.0, c.requires.2, search_start _ _)

pub returns-in_err-end : goal.returns-in_err-end
returns-in_err-end c =
    rw c.from_residual.ensures (row_refused c.args.sections.now c.args.count c.loop-j.j c.loop-j.at (omega arith) c.loop-j.invariant.1 c.in_err-end.ensures)

pub returns-then-not-enter_name : goal.returns-then-not-enter_name
returns-then-not-enter_name c =
    let small : c.name_at-name.result < 2 ^ 64 = search rules in
    name_refused c.args.sections.now c.args.count c.loop-j.j c.loop-j.at (omega arith) c.loop-j.invariant.1 c.name_at-name.result small c.name_at-name.ensures
    (not-false _ (sym c.enter_name.ensures.0 ∙ c.if-not-enter_name.true))

pub loop-j-preserved : goal.loop-j-preserved
loop-j-preserved c =
    let small : c.name_at-name.result < 2 ^ 64 = search rules in
    let T = c.loop-j in
    let row : RowEnds c.args.sections.now c.loop-j.at c.loop-j.j c.in_ok-end.end = c.in_ok-end.ensures in
    let names = name_read (drop 2 c.args.sections.now) in
    let free = sym c.enter_name.ensures.0 ∙ c.if-not-enter_name.false in (
      omega arith,
      walked_more c.args.sections.now c.args.count c.loop-j.j c.loop-j.at (omega arith) T.invariant.1 c.name_at-name.result small c.name_at-name.ensures _ row,
      c.enter_name.ensures.1 ∙ ap₂ with_noted (sym (name_is c.args.sections.now c.loop-j.at c.loop-j.j T.invariant.1.there c.name_at-name.result small c.name_at-name.ensures)) T.invariant.2 ∙ sym (names_noted_more names (c.loop-j.j + 1)),
      search_miss _ _ _ T.invariant.3 (omega arith)
          (ap not (next_rules c.args.sections.now c.args.count c.loop-j.j c.loop-j.at (omega arith) T.invariant.1 c.name_at-name.result small c.name_at-name.ensures
          ∙ and_both (not (is_named (drop 2 c.args.sections.now) (c.loop-j.j + 1) c.name_at-name.result)) (row_good c.loop-j.j (booking_from c.args.sections.now c.loop-j.at)) free row.rules)),
    )

pub returns : goal.returns
returns c =
    let T = c.loop-j in
    let S = c.args in
    let end : T.j ≡ S.count = omega arith in
    let walked : Walked S.sections.now S.count T.at = rw end at T.invariant.1 in
    record {
      good = record { laid = walked.laid; rules = eq-eqb _ _ (search_over _ _ _ T.invariant.3 (omega arith) ∙ end) };
      walked = walked;
    }
