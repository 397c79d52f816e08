use mathlib.Core.Path.{◌≡◌}
use Prim.Native.Nat.{◌-◌, ◌≤◌}
use lib.ListN.{get_or}
use Rattle.day_file.specs.Decode.{marks_in}
use Rattle.day_marks.proofs.MarkNumbers.{RisenTo}
use Rattle.day_marks.proofs.numbers_good.Given as goal

abbrev pub invariant-loop-a : goal.invariant-loop-a
invariant-loop-a l =
    (1 ≤ l.a) × (l.a ≤ l.count) × (l.last ≡ get_or (marks_in l.section) (l.a - 1) 0) × RisenTo l.n (marks_in l.section) l.a
