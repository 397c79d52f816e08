use Prim.Native.Nat.{ℕ, ◌≤◌}
use mathlib.Core.Path.{◌≡◌}
use mathlib.Core.Bool.{Bool}
use mathlib.Core.List.{List}
use lib.ListN.{length}
use Rattle.loops.proofs.Search.{Searched}
use Rattle.rules.specs.Book.{parent_found, is_absent}
use Rattle.known_book_parents.specs.Parents.{with_numbers}
use Rattle.known_book_parents.proofs.look_parents.Given as goal

abbrev pub is_unknown : List ℕ → List ℕ → ℕ → Bool
is_unknown w parents a = is_absent (parent_found w parents a)

abbrev pub invariant-loop-a : goal.invariant-loop-a
invariant-loop-a l =
    (l.a ≤ length l.parents) × Searched (is_unknown l.w l.parents) (length l.parents) l.a × (l.numbers ≡ with_numbers l.w l.parents l.a l.initial.numbers)
