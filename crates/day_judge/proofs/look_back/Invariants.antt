use Prim.Native.Nat.{ℕ, ◌+◌, ◌≤◌}
use mathlib.Core.Path.{◌≡◌}
use mathlib.Core.Bool.{Bool}
use mathlib.Core.List.{List}
use lib.Dec.{eqb}
use lib.ListN.{drop}
use Rattle.loops.proofs.Search.{Searched}
use Rattle.day_judge.specs.Parts.{behind, name_read}
use Rattle.day_judge.proofs.look_back.Given as goal

abbrev pub has : List ℕ → ℕ → ℕ → Bool
has sections name k = eqb (name_read (drop 2 sections) k) name

abbrev pub invariant-loop : goal.invariant-loop
invariant-loop l = (l.counter ≤ l.j) × (behind (drop 2 l.sections) l.counter ≡ drop l.at l.sections) × Searched (has l.sections l.name) (l.j + 1) (l.counter + 1)
