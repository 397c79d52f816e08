use Prim.Native.Nat.{ℕ, ◌+◌, ◌≤◌}
use mathlib.Core.Path.{◌≡◌}
use mathlib.Core.Bool.{Bool, not, ◌&&◌}
use mathlib.Core.List.{List}
use lib.Dec.{eqb, ltb}
use lib.ListN.{get_or}
use Rattle.loops.specs.Search.{any}
use Rattle.loops.proofs.Search.{Searched}
use Rattle.bits.specs.Members.{set_below}
use Rattle.day_judge.proofs.parents_good.Given as goal

abbrev pub lower : List ℕ → ℕ → ℕ → Bool
lower parents j a = ltb (get_or parents a 0) (j + 1)

abbrev pub test : List ℕ → ℕ → ℕ → Bool
test parents j a = lower parents j a && not (any (λ b. eqb (get_or parents b 0) (get_or parents a 0)) a)

abbrev pub invariant-loop-parent : goal.invariant-loop-parent
invariant-loop-parent l =
    (l.parent-index ≤ l.count) × (l.named ≡ set_below (λ b. get_or l.parents b 0) l.parent-index) × Searched (λ k. not (test l.parents l.j k)) l.count l.parent-index
