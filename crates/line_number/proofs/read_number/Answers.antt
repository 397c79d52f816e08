-- The bytes so far are digits within the limit; the first that is none, or that takes the value past the limit, settles the word.
use Rattle.std.proofs.Common.{rules, sym, ◌∙◌, arith}
use Rattle.line_number.proofs.Digits.{read_start, read_more, read_refused, read_over, number_none, number_long}
use Rattle.line_number.proofs.read_number.Goals as goal
use Rattle.line_number.proofs.read_number.Goals.{then-is_empty-via-then-is_empty, then-is_empty-via-else-is_empty+then-word-gt-DIGITS_MOST}

pub returns-then-is_empty : goal.returns-then-is_empty
returns-then-is_empty c =
    elim c.then-is_empty.branch [
      | then-is_empty-via-then-is_empty w ↦ sym (number_none _ _ (search rules))
      | then-is_empty-via-else-is_empty+then-word-gt-DIGITS_MOST w ↦ sym (number_long _ _ w.if-word-gt-DIGITS_MOST.true)
    ]

pub loop-byte-init : goal.loop-byte-init
loop-byte-init c = read_start _ _

pub returns-in_err-value : goal.returns-in_err-value
returns-in_err-value c = c.from_residual.ensures ∙ sym (read_refused c.loop-byte.invariant (omega arith) (sym c.in_err-value.ensures))

pub loop-byte-preserved : goal.loop-byte-preserved
loop-byte-preserved c = read_more c.loop-byte.invariant _ (omega arith) (sym c.in_ok-value.ensures)

pub returns : goal.returns
returns c = sym (read_over c.loop-byte.invariant (omega arith) (search rules) (omega arith))
