-- Fewer than four numbers, more than five, or a word that is none make a bad line; where the fifth is left out the array holds what stands for it.
use Rattle.std.proofs.Common.{Some, ap, ◌∙◌}
use Rattle.line_parse.specs.declared.command.Command.TheVariants.{Open}
use Rattle.line_parse.proofs.Opening.{open_short, open_refused, open_few, open_told}
use Rattle.line_parse.proofs.line.read_open.Goals as goal

pub returns-in_err-count : goal.returns-in_err-count
returns-in_err-count c = c.from_residual.ensures ∙ open_refused c.read_numbers.ensures c.in_err-count.was

pub returns-then-count-lt-OPEN_LEAST : goal.returns-then-count-lt-OPEN_LEAST
returns-then-count-lt-OPEN_LEAST c =
    open_few c.read_numbers.ensures _ c.in_ok-count.was c.if-count-lt-OPEN_LEAST.true

pub setting_of-requires : goal.setting_of-requires
setting_of-requires c = open_short c.read_numbers.ensures

pub returns : goal.returns
returns c =
    ap (λ s. Some (Open s)) c.setting_of.ensures ∙ open_told c.read_numbers.ensures _ c.in_ok-count.was c.if-count-lt-OPEN_LEAST.false
