-- The next word starts one byte on, and ends within the line.
use mathlib.Core.Path.{sym, ap, ◌∙◌}
use Prim.Native.Nat.{◌+◌}
use native.Mathlib.Omega.{arith}
use lib.ListN.{take, drop}
use lib.Seq.{length-take-le}
use Rattle.line_words.specs.Words.{word_end}
use Rattle.line_number.proofs.Parts.{rest_lent}
use Rattle.line_scan.proofs.Split.{word_end_le, end_after_le}
use Rattle.line_scan.proofs.step.next_word.Goals as goal

pub slice_bounds-result-end : goal.slice_bounds-result-end
slice_bounds-result-end c =
    let a = c.args in
    let rest = rest_lent (a.at + 1) a.line.now in
    let e = c.word_end-len.ensures ∙ ap word_end rest in
    rw rest (sym (length-take-le _ _ (omega (arith, e, word_end_le (drop (a.at + 1) a.line.now)))))

pub overflow_add-result-2 : goal.overflow_add-result-2
overflow_add-result-2 c =
    let a = c.args in
    let e = c.word_end-len.ensures ∙ ap word_end (rest_lent (a.at + 1) a.line.now) in
    omega (arith, e, end_after_le a.line.now a.at c.if-line-at.false)

pub returns : goal.returns
returns c =
    let a = c.args in
    let rest = rest_lent (a.at + 1) a.line.now in
    let e = c.word_end-len.ensures ∙ ap word_end rest in (
      c.if-line-at.false,
      rw rest (ap (λ n. take n (drop (a.at + 1) a.line.now)) e),
      ap (λ n. a.at + 1 + n) e,
      omega (arith, e, end_after_le a.line.now a.at c.if-line-at.false),
    )
