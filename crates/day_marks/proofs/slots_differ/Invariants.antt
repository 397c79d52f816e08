use mathlib.Core.Path.{◌≡◌}
use mathlib.Core.Bool.{Bool, not}
use mathlib.Core.List.{List}
use Prim.Native.Nat.{ℕ, ◌-◌, ◌≤◌}
use lib.ListN.{length, get_or, drop}
use Rattle.loops.proofs.Search.{Searched}
use Rattle.bits.specs.Members.{set_below}
use Rattle.day_file.specs.Decode.{decode, marks_in}
use Rattle.day_file.specs.Marks.{slot_marked}
use Rattle.day_marks.proofs.MarkSlots.{behind, slot_of_mark}
use Rattle.day_marks.proofs.slots_differ.Given as goal

abbrev pub is_twice : List ℕ → List ℕ → ℕ → Bool
is_twice file section a = not (not (slot_marked (decode file).bookings (marks_in section) a))

abbrev pub invariant-loop-a : goal.invariant-loop-a
invariant-loop-a l =
    (1 ≤ l.a) × (l.a ≤ l.count) × (l.at ≤ length l.file) × (drop l.at l.file ≡ behind l.file l.walked) × (l.walked ≤ get_or (marks_in l.section) (l.a - 1) 0)
    × (l.seen ≡ set_below (slot_of_mark (decode l.file).bookings (marks_in l.section)) l.a) × Searched (is_twice l.file l.section) l.count l.a
