use mathlib.Core.Path.{◌≡◌}
use Prim.Native.Nat.{◌+◌, ◌*◌, ◌≤◌}
use lib.ListN.{drop}
use Rattle.day_file.specs.InTurn.{places}
use Rattle.day_get.proofs.Got.{numbers_of, Starts}
use Rattle.day_get.proofs.parents_at.Given as goal

abbrev pub invariant-loop-a : goal.invariant-loop-a
invariant-loop-a l =
    (l.a ≤ l.count) × (l.places ≡ places (numbers_of l.a (drop l.at l.file))) × Starts (drop l.at l.file) l.a (drop (l.at + 2 * l.a) l.file)
