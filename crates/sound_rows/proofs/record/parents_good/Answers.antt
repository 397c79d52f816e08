-- The four places are written out, and so is the search among the places before each.
use mathlib.Core.Bool.{and-true}
use Rattle.rules.specs.IsSound.{parents_good}
use Rattle.loops.proofs.Search.{any_none}
use Rattle.sound_rows.proofs.Few.{any_one, any_two, any_three}
use Rattle.sound_rows.proofs.record.parents_good.Goals as goal

pub returns : goal.returns
unfolding parents_good
returns c =
    simp (c.parent-a.ensures, c.parent-b.ensures, c.parent-c.ensures, c.parent-d.ensures, any_none, any_one, any_two, any_three, and-true)
