-- What a chain over a range of numbers gives: those that pass a test, and the sum of a number for each.
use mathlib.Core.Path.{◌≡◌, refl, sym, ap, ap₂, ◌∙◌}
use mathlib.Core.Bool.{Bool}
use mathlib.Core.List.{[], ◌∷◌, ◌++◌}
use Prim.Native.Nat.{ℕ, zero, suc, ◌+◌}
use native.Mathlib.Nat.{zero-add, add-zero}
use native.Mathlib.Omega.{arith}
use Rattle.std.specs.List.{range_with_len, filter, sum_by}
use Rattle.std.proofs.lemmas.List.Elements.{filter-append}
use Rattle.std.proofs.lemmas.List.Sums.{sum_by-append}
use Rattle.loops.specs.Fill.{chosen}
use Rattle.loops.specs.Total.{total}

-- one number more at the end
range_more : (a n : ℕ) → range_with_len a (suc n) ≡ range_with_len a n ++ ((a + n) ∷ [])
range_more a zero = ap (λ i. i ∷ []) (sym (add-zero a))
range_more a (suc n) =
    let last : a + 1 + n ≡ a + suc n = omega arith in
    ap (λ l. a ∷ l) (range_more (a + 1) n ∙ ap (λ i. range_with_len (a + 1) n ++ (i ∷ [])) last)

pub range_filtered : (p : ℕ → Bool) (n : ℕ) → filter p (range_with_len 0 n) ≡ chosen p n
unfolding chosen
range_filtered p zero = refl
range_filtered p (suc n) =
    ap (filter p) (range_more 0 n ∙ ap (λ i. range_with_len 0 n ++ (i ∷ [])) (zero-add n)) ∙ filter-append p (range_with_len 0 n) (n ∷ [])
    ∙ ap₂ ◌++◌ (range_filtered p n) refl

pub range_summed : (f : ℕ → ℕ) (n : ℕ) → sum_by f (range_with_len 1 n) ≡ total (λ j. f (j + 1)) n
unfolding total
range_summed f zero = refl
range_summed f (suc n) =
    let last : 1 + n ≡ n + 1 = omega arith in
    ap (sum_by f) (range_more 1 n ∙ ap (λ i. range_with_len 1 n ++ (i ∷ [])) last) ∙ sum_by-append f (range_with_len 1 n) ((n + 1) ∷ [])
    ∙ ap₂ ◌+◌ (range_summed f n) (zero-add (f (n + 1)))
