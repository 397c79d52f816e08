-- Past the end there is no word; any other is read, and then where it ends is told.
use Rattle.std.proofs.Common.{Some, None, sym, ◌∙◌}
use Rattle.line_number.specs.Numbers.{number_read}
use Rattle.line_scan.proofs.Walk.{step_none, step_made}
use Rattle.line_scan.proofs.step.next_number.Goals as goal

pub returns-in_err-word : goal.returns-in_err-word
returns-in_err-word c = c.from_residual.ensures ∙ sym (step_none (number_read c.args.most) c.args.line.now c.args.at c.in_err-word.ensures)

pub returns-in_err-read_number : goal.returns-in_err-read_number
returns-in_err-read_number c =
    let next = c.in_ok-word.ensures in
    c.from_residual-in_err-read_number.ensures
    ∙ step_made (number_read c.args.most) c.args.line.now c.args.at _ c.in_ok-word.end None next.0 next.1 next.2 c.in_err-read_number.ensures

pub returns : goal.returns
returns c =
    let next = c.in_ok-word.ensures in
    step_made (number_read c.args.most) c.args.line.now c.args.at _ c.in_ok-word.end (Some _) next.0 next.1 next.2 c.in_ok-read_number.ensures
