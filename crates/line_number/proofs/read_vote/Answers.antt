-- A word that begins with a minus sign is the number after it, negated; any other is a number by itself. Either fits a byte.
use Rattle.std.proofs.Common.{◌≡◌, ◌-◌, ◌%◌, Some, None, ap, sym, ◌∙◌, arith}
use Rattle.line_number.proofs.Digits.{number_le, vote_minus, vote_plain}
use Rattle.line_number.specs.Numbers.{vote_most, minus_most}
use Rattle.line_number.proofs.read_vote.Goals as goal

pub returns-in_err-size : goal.returns-in_err-size
returns-in_err-size c = c.from_residual.ensures ∙ c.in_err-size.ensures ∙ vote_plain _ c.in_default.ensures.cases

pub overflow_cast-result : goal.overflow_cast-result
overflow_cast-result c = omega (arith, number_le vote_most _ _ (sym c.in_ok-size.ensures))

pub returns-in_default : goal.returns-in_default
returns-in_default c = c.in_ok-size.ensures ∙ vote_plain _ c.in_default.ensures.cases

pub returns-in_err-size-2 : goal.returns-in_err-size-2
returns-in_err-size-2 c =
    c.from_residual-in_err-size-2.ensures ∙ vote_minus _ _ None c.in-Some.ensures.cases.0 c.in-Some.ensures.cases.1 c.in_err-size-2.ensures

pub overflow_cast-size : goal.overflow_cast-size
overflow_cast-size c = omega (arith, number_le minus_most _ _ (sym c.in_ok-size-2.ensures))

pub returns : goal.returns
returns c =
    let size = c.in_ok-size-2.size in
    let byte : c.wrapping_neg.result ≡ (256 - size % 256) % 256 = omega (arith, c.wrapping_neg.ensures, c.wrapping_neg.type_inv, number_le minus_most _ size (sym c.in_ok-size-2.ensures)) in
    ap Some byte ∙ vote_minus c.args.word.now _ (Some size) c.in-Some.ensures.cases.0 c.in-Some.ensures.cases.1 c.in_ok-size-2.ensures
