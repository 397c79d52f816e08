use Prim.Native.Nat.{◌-◌, ◌≤◌}
use Rattle.rules.specs.Layout.{bookings}
use Rattle.put.specs.Put.{Put}
use Rattle.day_sections.proofs.Sections.{bookings_so_far}
use Rattle.day_sections.proofs.put_bookings.Given as goal

abbrev pub invariant-loop-i : goal.invariant-loop-i
invariant-loop-i l = (l.i ≤ bookings l.w) × Put l.initial.out l.initial.next (bookings_so_far l.w (l.i - 1)) l.next l.out
