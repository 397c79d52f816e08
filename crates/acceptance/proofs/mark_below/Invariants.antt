use Prim.Native.Nat.{◌≤◌, ◌-◌}
use mathlib.Core.Path.{◌≡◌}
use Rattle.rules.specs.Marks.{marked_below}
use Rattle.acceptance.specs.SlotsNoted.{SlotsNoted}
use Rattle.acceptance.proofs.mark_below.Given as goal

abbrev pub invariant-loop-j : goal.invariant-loop-j
invariant-loop-j l = (l.j ≤ l.n) × (l.w ≡ marked_below l.j l.initial.w) × SlotsNoted l.w l.noted

abbrev pub decreases-loop-j : goal.decreases-loop-j
decreases-loop-j l = l.n - l.j
