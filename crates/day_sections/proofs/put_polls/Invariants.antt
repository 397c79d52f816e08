use mathlib.Core.Path.{◌≡◌}
use Prim.Native.Nat.{◌≤◌}
use lib.ListN.{length}
use Rattle.loops.specs.Turns.{up_to}
use Rattle.rules.specs.Layout.{bookings}
use Rattle.day_file.specs.InTurn.{pair_at}
use Rattle.day_sections.proofs.put_polls.Given as goal

abbrev pub invariant-loop-i : goal.invariant-loop-i
invariant-loop-i l =
    (l.n ≡ bookings l.w) × (l.i ≤ bookings l.w) × (length l.out ≡ length l.initial.out) × (l.out ≡ up_to (pair_at l.w) l.i l.initial.out)
