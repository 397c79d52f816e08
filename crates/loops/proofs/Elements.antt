-- What a chain over a list gives: sums, counts and searches over its elements are those over its places.
use mathlib.Core.Path.{◌≡◌, refl, sym, ap, ap₂, ◌∙◌}
use mathlib.Core.Bool.{Bool, true, false}
use mathlib.Core.List.{List, [], ◌∷◌}
use Prim.Native.Nat.{ℕ, suc, ◌+◌}
use native.Mathlib.Nat.{zero-add}
use native.Mathlib.Omega.{arith}
use lib.ListN.{length, get_or}
use Rattle.std.specs.Int.{from_bool}
use Rattle.std.specs.List.{sum_by, list_any}
use Rattle.std.proofs.lemmas.List.Sums.{sum_by-cons}
use Rattle.std.proofs.lemmas.List.Recursion.{or_is}
use Rattle.loops.specs.Search.{any}
use Rattle.loops.specs.Total.{bit, total, count}
use Rattle.loops.proofs.Search.{any→, none→}
use Rattle.loops.proofs.Total.{total_zero, total_more, total_same, total_split}

pub sum_elements : (f : ℕ → ℕ) (xs : List ℕ) → sum_by f xs ≡ total (λ i. f (get_or xs i 0)) (length xs)
sum_elements f [] = sym (total_zero _)
sum_elements f (x ∷ xs) =
    let at : ℕ → ℕ = λ i. f (get_or (x ∷ xs) i 0) in
    let first : total at 1 ≡ f x = total_more at 0 ∙ ap (λ n. n + f x) (total_zero at) ∙ zero-add (f x) in
    let next : 1 + length xs ≡ suc (length xs) = omega arith in
    sum_by-cons f x xs ∙ ap₂ ◌+◌ (sym first) (sum_elements f xs ∙ total_same _ _ (length xs) (λ i l. ap at (suc_one i))) ∙ sym (total_split at 1 (length xs)) ∙ ap (total at) next
  where
    suc_one : (i : ℕ) → suc i ≡ 1 + i
    suc_one i = omega arith

-- a bool as a number
pub as_bit : (b : Bool) → from_bool b ≡ bit b
as_bit true = refl
as_bit false = refl

pub count_elements : (p : ℕ → Bool) (xs : List ℕ) → sum_by (λ x. from_bool (p x)) xs ≡ count (λ i. p (get_or xs i 0)) (length xs)
count_elements p xs = sum_elements _ xs ∙ total_same _ _ (length xs) (λ i l. as_bit (p (get_or xs i 0)))

pub any_elements : (p : ℕ → Bool) (xs : List ℕ) → list_any p xs ≡ any (λ i. p (get_or xs i 0)) (length xs)
any_elements p xs = sym (or_is (list_any p) p refl (λ _ _. refl) xs 0 _ (any→ _ (length xs)) (none→ _ (length xs)))
