use Prim.Native.Nat.{◌≤◌, ◌-◌}
use Rattle.name_index.specs.Index.{cells, ends_lookup}
use Rattle.name_index.proofs.Probe.{Probed}
use Rattle.name_probe.proofs.find.Given as goal

abbrev pub invariant-loop-t : goal.invariant-loop-t
invariant-loop-t l = (l.t ≤ cells) × Probed l.index l.h (ends_lookup l.w l.name) l.t

abbrev pub decreases-loop-t : goal.decreases-loop-t
decreases-loop-t l = cells - l.t
