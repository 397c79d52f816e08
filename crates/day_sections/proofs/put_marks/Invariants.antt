use mathlib.Core.Path.{◌≡◌}
use Prim.Native.Nat.{◌≤◌}
use lib.ListN.{length}
use Rattle.rules.specs.Layout.{bookings}
use Rattle.day_sections.proofs.Sections.{marks_put}
use Rattle.day_sections.proofs.put_marks.Given as goal

abbrev pub invariant-loop-i : goal.invariant-loop-i
invariant-loop-i l = (l.n ≡ bookings l.w) × (l.i ≤ bookings l.w) × (length l.out ≡ length l.initial.out) × marks_put l.w l.initial.out l.initial.next l.i l.next l.out
