use mathlib.Core.Path.{◌≡◌}
use Prim.Native.Nat.{◌≤◌}
use lib.ListN.{length}
use Rattle.rules.specs.Layout.{size}
use Rattle.day_file.specs.Marks.{marked_again}
use Rattle.day_file.specs.Decode.{marks_in}
use Rattle.day_remark.proofs.remark.Given as goal

abbrev pub invariant-loop-a : goal.invariant-loop-a
invariant-loop-a l =
    (l.count ≡ length (marks_in l.section)) × (l.a ≤ l.count) × (length l.w ≡ size) × (l.w ≡ marked_again (marks_in l.section) l.a l.initial.w)
