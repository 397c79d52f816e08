use mathlib.Core.Path.{◌≡◌}
use lib.ListN.{length}
use Rattle.day_file.specs.Decode.{decode}
use Rattle.day_replay.proofs.GoodFile.{Polling}
use Rattle.day_replay.proofs.repoll_all.Given as goal

abbrev pub invariant-loop : goal.invariant-loop
invariant-loop l = (l.polls ≡ length (decode l.file).polls) × Polling l.file l.w l.next l.counter
