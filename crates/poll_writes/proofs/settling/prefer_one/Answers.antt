-- The code's comparison is the definition's, of the same two confidences.
use borrow.Author.Tests.{lt-ltb, le-ltb}
use Rattle.rules.specs.Poll.{prefer}
use Rattle.poll_writes.proofs.settling.prefer_one.Goals as goal

pub returns-then-held-own : goal.returns-then-held-own
unfolding prefer
returns-then-held-own c =
    simp (← c.entry.ensures, ← c.wide-preferred.ensures.0, ← c.field-held.ensures, ← c.field-own.ensures, lt-ltb _ _ c.if-held-own.true)
    c.set_entry.ensures

pub returns-else-held-own : goal.returns-else-held-own
unfolding prefer
returns-else-held-own c =
    simp (← c.entry.ensures, ← c.wide-preferred.ensures.0, ← c.field-held.ensures, ← c.field-own.ensures, le-ltb _ _ c.if-held-own.false)
