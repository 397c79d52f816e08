-- A good setting opens the ledger, and that it is one is known then; any other is refused, and every word stays.
use mathlib.Core.Path.{sym, ap, subst, ◌∙◌}
use Rattle.terms.specs.Answers.{outcome, done}
use Rattle.rules.specs.Sound.{Ledger}
use Rattle.put.proofs.Puts.{put_none}
use Rattle.line_serve.proofs.Known.{open_good, open_bad, open_keeps}
use Rattle.line_serve.proofs.Serving.{serves_called}
use Rattle.line_serve.proofs.serve_open.Goals as goal

pub returns-then-is_good : goal.returns-then-is_good
returns-then-is_good c =
    let good = sym c.is_good.ensures ∙ c.if-is_good.true in
    serves_called done (ap (outcome done) c.write_open.ensures ∙ sym (open_good c.args.w.now c.requires.whole c.args.s good)) (put_none _ _)
    (subst Ledger (sym c.write_open.ensures) (open_keeps c.args.s good))

pub returns-else-is_good : goal.returns-else-is_good
returns-else-is_good c =
    serves_called _ (sym (open_bad c.args.w.now c.requires.whole c.args.s (sym c.is_good.ensures ∙ c.if-is_good.false)))
    c.put_call-next.ensures c.requires.told
