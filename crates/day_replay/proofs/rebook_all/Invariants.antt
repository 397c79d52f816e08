use mathlib.Core.Path.{◌≡◌}
use lib.ListN.{length}
use Rattle.day_file.specs.Decode.{decode}
use Rattle.day_replay.proofs.GoodFile.{Booking}
use Rattle.day_replay.proofs.rebook_all.Given as goal

abbrev pub invariant-loop : goal.invariant-loop
invariant-loop l = (l.count ≡ length (decode l.file).bookings) × Booking l.file l.w l.at l.counter
