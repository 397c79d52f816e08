-- The search is over all entries.
use Rattle.std.proofs.Common.{not, refl, arith, rules, tests}
use Rattle.loops.proofs.Chains.{find_over}
use Rattle.rules.specs.Layout.{slots}
use Rattle.rules.specs.IsSound.{slot_good, bad_slot}
use Rattle.sound.proofs.entries.bad_entry.Goals as goal

pub returns : goal.returns
unfolding bad_slot
returns c =
    find_over _ _ (λ s. not (slot_good c.args.w.now s)) 0 slots _ c.find.ensures.ran refl (omega arith) (λ x b q k. search (rules, tests))
