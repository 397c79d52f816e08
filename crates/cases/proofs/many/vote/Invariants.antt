use mathlib.Core.Path.{◌≡◌}
use Prim.Native.Nat.{◌≤◌, ◌<◌}
use lib.ListN.{length}
use Rattle.cases.proofs.many.vote.Given as goal

abbrev pub invariant-loop-name : goal.invariant-loop-name
invariant-loop-name l = (0 < l.name) × (l.name ≤ 512) × (l.n < l.name) × (length l.w ≡ length l.initial.w)
