-- Whether the slot has bookings is what the count says.
use mathlib.Core.Path.{sym, ◌∙◌}
use borrow.Author.Tests.{eq-eqb, ne_eqb}
use Rattle.rules.specs.IsSound.{slot_good}
use Rattle.sound_rows.proofs.entry.slot_good.Goals as goal

pub returns-then-held-eq0 : goal.returns-then-held-eq0
unfolding slot_good
returns-then-held-eq0 c =
    rw (eq-eqb _ 0 (sym c.requires.limit_value.1 ∙ c.if-held-eq0.true)) c.entry_empty.ensures

pub returns : goal.returns
unfolding slot_good
returns c =
    rw (ne_eqb _ 0 (λ q. c.if-held-eq0.false (c.requires.limit_value.1 ∙ q))) c.entry_held.ensures
