-- A word more makes the line bad.
use mathlib.Core.Path.{sym}
use Rattle.std.proofs.Common.{Some, None}
use Rattle.line_parse.specs.declared.command.Command.TheVariants.{List}
use Rattle.line_parse.proofs.Grammar.{nothing_end, nothing_more}
use Rattle.line_parse.proofs.line.read_list.Goals as goal

pub returns-then-at-line : goal.returns-then-at-line
returns-then-at-line c = let S = c.args in sym (nothing_more S.line.now S.at None (Some List) c.if-at-line.true)

pub returns : goal.returns
returns c = let S = c.args in sym (nothing_end S.line.now S.at None (Some List) c.if-at-line.false)
