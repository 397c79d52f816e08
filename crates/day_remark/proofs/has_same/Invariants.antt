use mathlib.Core.Path.{◌≡◌}
use Prim.Native.Nat.{◌≤◌}
use lib.ListN.{length}
use Rattle.rules.specs.Layout.{bookings}
use Rattle.day_file.specs.Decode.{marks_in}
use Rattle.day_remark.proofs.MarksRead.{Met}
use Rattle.day_remark.proofs.has_same.Given as goal

abbrev pub invariant-loop-i : goal.invariant-loop-i
invariant-loop-i l =
    (l.n ≡ bookings l.w) × (l.count ≡ length (marks_in l.section)) × (l.i ≤ bookings l.w) × Met l.w (marks_in l.section) l.next l.i
