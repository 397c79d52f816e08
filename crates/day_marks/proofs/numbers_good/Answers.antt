-- The marks before place a rise and are below n, and the last of them is at hand.
use mathlib.Core.Path.{◌≡◌, sym, ◌∙◌}
use mathlib.Core.Bool.{Bool, true≢false}
use mathlib.Core.List.{List}
use Prim.Native.Nat.{ℕ, ◌+◌, ◌-◌}
use native.Mathlib.Omega.{arith}
use lib.ListN.{length}
use lib.Dec.{ltb}
use borrow.Author.Tests.{lt-ltb}
use Rattle.loops.proofs.Bools.{and_both}
use Rattle.day_file.proofs.FileBytes.{AreBytes}
use Rattle.day_judge.proofs.Decides.{denied, affirmed}
use Rattle.day_file.specs.Decode.{marks_in}
use Rattle.day_file.proofs.SecondFile.{marks_many}
use Rattle.day_marks.proofs.MarkNumbers.{marks_laid, risen_rules, good_long, good_risen}
use Rattle.day_marks.proofs.numbers_good.Goals as goal

pub returns-then-section-lt-LEAST_MARKS : goal.returns-then-section-lt-LEAST_MARKS
returns-then-section-lt-LEAST_MARKS c =
    let S = c.args in
    denied (λ claim. omega (arith, good_long S.n S.section.now claim, (good_risen S.n S.section.now claim).some))

pub returns-then-section-count : goal.returns-then-section-count
returns-then-section-count c =
    let marks : List ℕ = marks_in c.args.section.now in
    let many : c.number_at-count.result ≡ length marks = c.number_at-count.ensures.0 ∙ sym (marks_many c.args.section.now) in
    denied (λ claim. c.if-section-count.true (omega (arith, many, good_long c.args.n c.args.section.now claim)))

pub mark_at-last-requires : goal.mark_at-last-requires
mark_at-last-requires c =
    let marks : List ℕ = marks_in c.args.section.now in
    let many : c.number_at-count.result ≡ length marks = c.number_at-count.ensures.0 ∙ sym (marks_many c.args.section.now) in
    (omega (arith, many), omega (arith, many))

pub mark_at-m-requires : goal.mark_at-m-requires
mark_at-m-requires c =
    let marks : List ℕ = marks_in c.args.section.now in
    let many : c.number_at-count.result ≡ length marks = c.number_at-count.ensures.0 ∙ sym (marks_many c.args.section.now) in
    (omega (arith, many), omega (arith, many))

pub returns-then-not-last-m : goal.returns-then-not-last-m
returns-then-not-last-m c =
    let marks : List ℕ = marks_in c.args.section.now in
    let many : c.number_at-count.result ≡ length marks = c.number_at-count.ensures.0 ∙ sym (marks_many c.args.section.now) in
    let above : Bool = ltb c.loop-a.last c.mark_at-m.result in
    let under : Bool = ltb c.mark_at-m.result c.args.n in
    let l = c.loop-a in
    let here : c.loop-a.a - 1 + 1 ≡ c.loop-a.a = omega arith in
    denied (λ claim.
    let risen = (good_risen c.args.n c.args.section.now claim).all in
    true≢false (sym (and_both above under
    (lt-ltb l.last c.mark_at-m.result (omega (arith, l.invariant.2, c.mark_at-m.ensures, rw here at (risen.rising (c.loop-a.a - 1) (omega (arith, many))))))
    (lt-ltb c.mark_at-m.result c.args.n (omega (arith, c.mark_at-m.ensures, risen.below c.loop-a.a (omega (arith, many))))))
    ∙ c.if-not-last-m.true))

pub returns : goal.returns
returns c =
    let marks : List ℕ = marks_in c.args.section.now in
    let many : c.number_at-count.result ≡ length marks = c.number_at-count.ensures.0 ∙ sym (marks_many c.args.section.now) in
    let bytes : AreBytes c.args.section.now = λ k. omega (arith, c.type_inv.section k) in
    let end : c.loop-a.a ≡ length marks = omega (arith, many) in
    affirmed (record {
      laid = marks_laid c.args.section.now bytes (omega (arith, many, marks_many c.args.section.now));
      rules = risen_rules c.args.n marks (record {
        some = omega (arith, many);
        genesis = sym c.mark_at-last.ensures ∙ c.if-last-ne0.false;
        all = rw end at c.loop-a.invariant.3;
      });
    })
