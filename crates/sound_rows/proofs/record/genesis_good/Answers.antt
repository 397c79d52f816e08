-- The code has the rule's tests in the rule's order: each word read is the word that the rule names.
use Rattle.rules.specs.IsSound.{genesis_good}
use Rattle.sound_rows.proofs.record.genesis_good.Goals as goal

pub returns : goal.returns
unfolding genesis_good
returns c =
    simp (c.name.ensures, c.field.ensures, c.parent.ensures, c.parent-2.ensures, c.parent-3.ensures, c.parent-4.ensures, c.field-2.ensures, c.field-3.ensures, c.field-4.ensures)
