-- What is found is below n, so the ledger's reading of it may be asked; where nothing is found the answer is refusal 10.
use Rattle.std.specs.Prelude.{Ok}
use mathlib.Core.Path.{sym, ap, ◌∙◌}
use mir.Syntax.{w64}
use mir.ValLaws.{to_z-of_z}
use borrow.Author.Rules.{rules}
use Rattle.rule_laws.proofs.Lookup.{found_below_lem}
use Rattle.rule_laws.proofs.Tested.{reading_found, reading_absent}
use Rattle.rules.specs.Readings.{reading_of}
use Rattle.known_read.proofs.ask.Goals as goal

pub returns-in_default : goal.returns-in_default
returns-in_default c =
    sym (reading_absent (reading_of c.args.what c.args.w.now) c.args.w.now c.args.name c.requires (sym c.find.ensures ∙ c.in_default.is))

pub value_of-requires : goal.value_of-requires
value_of-requires c =
    (c.requires, found_below_lem c.args.w.now c.args.name _ (sym c.find.ensures ∙ c.in-Some.is))

pub returns : goal.returns
returns c =
    ap Ok (to_z-of_z w64 _ (search rules) ∙ c.value_of.ensures)
    ∙ sym (reading_found (reading_of c.args.what c.args.w.now) c.args.w.now c.args.name c.requires _ (sym c.find.ensures ∙ c.in-Some.is))
