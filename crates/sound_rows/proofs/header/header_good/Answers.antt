-- The code has the rule's tests in the rule's order: each word read is the word that the rule names.
use Rattle.rules.specs.IsSound.{header_good}
use Rattle.sound_rows.proofs.header.header_good.Goals as goal

pub returns : goal.returns
unfolding header_good
returns c =
    simp (c.wide-n.ensures.0, c.header.ensures, c.wide-p.ensures.0, c.header-2.ensures, c.is_good.ensures, c.setting.ensures, c.header-3.ensures)
