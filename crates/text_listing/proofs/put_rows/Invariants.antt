use mathlib.Core.Path.{◌≡◌}
use Prim.Native.Nat.{◌-◌, ◌≤◌}
use lib.ListN.{length}
use Rattle.rules.specs.Layout.{bookings}
use Rattle.put.specs.Put.{Put}
use Rattle.text_listing.specs.Listed.{rows_print}
use Rattle.text_listing.proofs.put_rows.Given as goal

abbrev pub invariant-loop-i : goal.invariant-loop-i
invariant-loop-i l =
    (l.n ≡ bookings l.w) × (l.i ≤ bookings l.w) × (length l.out ≡ length l.initial.out) × Put l.initial.out l.at (rows_print l.w l.i) l.next l.out

abbrev pub decreases-loop-i : goal.decreases-loop-i
decreases-loop-i l = l.n - l.i
