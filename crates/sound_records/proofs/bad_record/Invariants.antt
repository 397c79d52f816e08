use Prim.Native.Nat.{◌≤◌, ◌-◌}
use mathlib.Core.Path.{◌≡◌}
use mathlib.Core.Bool.{not}
use Rattle.loops.proofs.Search.{Searched}
use Rattle.rules.specs.IsSound.{record_good}
use Rattle.name_filter.specs.Names.{names_below}
use Rattle.marked_slots.specs.MarkedSlots.{marks_below}
use Rattle.sound_records.specs.Ordinals.{ordinals_below}
use Rattle.sound_records.proofs.bad_record.Given as goal

abbrev pub invariant-loop-i : goal.invariant-loop-i
invariant-loop-i l =
    (l.i ≤ l.n) × (l.seen ≡ ordinals_below l.w l.i) × (l.filter ≡ names_below l.w l.i) × (l.marked ≡ marks_below l.w l.i) × Searched (λ j. not (record_good l.w j)) l.n l.i

abbrev pub decreases-loop-i : goal.decreases-loop-i
decreases-loop-i l = l.n - l.i
