-- Three ways out: the slot has a mark, the rule is not met, or the mark and the slot's bit are set.
use mathlib.Core.Path.{sym, ◌∙◌}
use Rattle.acceptance.proofs.SlotsNoted.{turn_held, turn_due, turn_undue}
use Rattle.acceptance.proofs.mark_one.Goals as goal

pub returns-then-is_set : goal.returns-then-is_set
returns-then-is_set c =
    turn_held c.args.w.now c.requires.0 c.args.j c.requires.1 c.args.noted.now c.requires.2 _ c.slot_of-s.ensures
    (sym c.is_set.ensures ∙ c.if-is_set.true)

pub returns-then-meets_rule : goal.returns-then-meets_rule
returns-then-meets_rule c =
    turn_due c.args.w.now c.requires.0 c.args.j c.requires.1 c.args.noted.now c.requires.2 _ c.slot_of-s.ensures
    (sym c.is_set.ensures ∙ c.if-is_set.false) (sym c.meets_rule.ensures ∙ c.if-meets_rule.true) c.set_field.ensures c.set_bit.ensures

pub returns-else-meets_rule : goal.returns-else-meets_rule
returns-else-meets_rule c =
    turn_undue c.args.w.now c.requires.0 c.args.j c.requires.1 c.args.noted.now c.requires.2 _ c.slot_of-s.ensures
    (sym c.is_set.ensures ∙ c.if-is_set.false) (sym c.meets_rule.ensures ∙ c.if-meets_rule.false)
