-- A name and nothing after it, or the line is bad.
use Rattle.std.proofs.Common.{None, sym, ◌∙◌}
use Rattle.line_number.specs.Numbers.{name_read}
use Rattle.line_parse.specs.Line.{read_says}
use Rattle.line_parse.proofs.Grammar.{number_next, number_stop, nothing_end, nothing_more}
use Rattle.line_parse.proofs.line.read_reading.Goals as goal

pub returns-in_err-name : goal.returns-in_err-name
unfolding read_says
returns-in_err-name c =
    let a = c.args in
    c.from_residual.ensures ∙ sym (number_stop name_read a.line.now a.at None _ (sym c.in_err-name.ensures))

pub returns-then-end-line : goal.returns-then-end-line
unfolding read_says
returns-then-end-line c =
    let a = c.args in
    sym (number_next name_read a.line.now a.at None _ _ _ (sym c.in_ok-name.ensures) ∙ nothing_more a.line.now _ None _ c.if-end-line.true)

pub returns : goal.returns
unfolding read_says
returns c =
    let a = c.args in
    sym (number_next name_read a.line.now a.at None _ _ _ (sym c.in_ok-name.ensures) ∙ nothing_end a.line.now _ None _ c.if-end-line.false)
