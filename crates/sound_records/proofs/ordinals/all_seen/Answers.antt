-- The count of ones says whether none is missing.
use mathlib.Core.Path.{ap, ◌∙◌}
use Prim.Native.Nat.{ℕ, ◌+◌}
use lib.Dec.{eqb}
use Rattle.sound_records.proofs.Seen.{seen_count_all}
use Rattle.sound_records.proofs.ordinals.all_seen.Goals as goal

pub returns : goal.returns
returns c =
    ap (λ (n : ℕ). eqb n (c.args.p + 1)) c.count_set.ensures ∙ seen_count_all c.args.p c.args.seen.now c.requires
