use Prim.Native.Nat.{◌≤◌}
use mathlib.Core.Path.{◌≡◌}
use lib.ListN.{length}
use Rattle.rules.specs.Layout.{size, slots, slot_at}
use Rattle.open_writes.proofs.Begun.{Begun}
use Rattle.open_writes.proofs.write_open.Given as goal

abbrev pub invariant-loop-t : goal.invariant-loop-t
invariant-loop-t l = (1 ≤ l.t) × (l.t ≤ slots) × (length l.w ≡ size) × Begun l.fn.s (slot_at l.t 0) l.w
