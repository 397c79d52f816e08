use Prim.Native.Nat.{ℕ, ◌+◌, ◌≤◌}
use mathlib.Core.Path.{◌≡◌}
use mathlib.Core.Bool.{Bool, not}
use mathlib.Core.List.{List}
use lib.ListN.{drop}
use Rattle.loops.proofs.Search.{Searched}
use Rattle.name_filter.specs.Names.{names_noted}
use Rattle.day_file.specs.Decode.{read_many, read_booking}
use Rattle.day_file.specs.DayRules.{booking_passes}
use Rattle.day_judge.specs.Parts.{name_read}
use Rattle.day_judge.specs.Judged.{Walked}
use Rattle.day_judge.proofs.bookings_end.Given as goal

abbrev pub test : List ℕ → ℕ → ℕ → Bool
test sections count = booking_passes (read_many read_booking count (drop 2 sections)).value

abbrev pub invariant-loop-j : goal.invariant-loop-j
invariant-loop-j l =
    (l.j ≤ l.count) × Walked l.sections l.j l.at × (l.filter ≡ names_noted (name_read (drop 2 l.sections)) (l.j + 1)) × Searched (λ k. not (test l.sections l.count k)) l.count l.j
