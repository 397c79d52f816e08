use mathlib.Core.Path.{◌≡◌}
use Prim.Native.Nat.{◌≤◌}
use lib.ListN.{length}
use Rattle.rules.specs.Layout.{bookings}
use Rattle.day_file.specs.Marks.{unmarked_below}
use Rattle.day_remark.proofs.clear.Given as goal

abbrev pub invariant-loop-i : goal.invariant-loop-i
invariant-loop-i l = (l.n ≡ bookings l.initial.w) × (l.i ≤ bookings l.initial.w) × (length l.w ≡ length l.initial.w) × (l.w ≡ unmarked_below l.i l.initial.w)
