use mathlib.Core.Path.{◌≡◌}
use Prim.Native.Nat.{◌≤◌}
use lib.ListN.{length, drop}
use Rattle.day_file.specs.Decode.{read_many, read_booking}
use Rattle.day_marks.proofs.bookings_end.Given as goal

abbrev pub invariant-loop : goal.invariant-loop
invariant-loop l = (l.counter ≤ l.count) × (l.at ≤ length l.file) × (drop l.at l.file ≡ (read_many read_booking l.counter (drop l.start l.file)).rest)
