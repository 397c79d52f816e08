-- Laws of how many parents a booking has: no more than four, no more than its own number, and which places are used. Assumes nothing.
use mathlib.Core.Path.{◌≡◌, sym, ap, ◌∙◌}
use mathlib.Core.List.{List}
use mathlib.Core.Logic.{◌≢◌, ⊎_elim}
use Prim.Native.Nat.{ℕ, ◌≤◌, ◌<◌}
use native.Mathlib.Nat.{eq-or-lt_of_le}
use native.Mathlib.Omega.{arith}
use lib.Dec.{eqb}
use borrow.Author.Tests.{eqb-true, eqb-false}
use Rattle.loops.proofs.Search.{first_le, first_hit, first_before}
use Rattle.loops.proofs.Total.{distinct_most}
use Rattle.rules.specs.Layout.{most_parents, none, parent_of}
use Rattle.rules.specs.Sound.{Booking}
use Rattle.day_file.specs.Day.{parent_count}

-- a booking has no more than four
pub parent_count_most : (w : List ℕ) (i : ℕ) → parent_count w i ≤ most_parents
unfolding parent_count
parent_count_most w i = first_le (λ a. eqb (parent_of w i a) none) most_parents

-- a place below the count is used
pub parent_used : (w : List ℕ) (i a : ℕ) → a < parent_count w i → parent_of w i a ≢ none
unfolding parent_count
parent_used w i a u = eqb-false (parent_of w i a) none (first_before (λ a. eqb (parent_of w i a) none) most_parents a u)

-- on a sound workspace
module _ (w : List ℕ) (i : ℕ) (b : Booking w i) where
  pub parent_below : (a : ℕ) → a < parent_count w i → parent_of w i a < i
  parent_below a u = b.parents_lower a (omega (arith, parent_count_most w i)) (parent_used w i a u)

  -- no more than there are bookings of lower number: the parents are distinct, and each is one of these
  pub parent_count_lower : parent_count w i ≤ i
  parent_count_lower =
      distinct_most (parent_of w i) (parent_count w i) i parent_below
      (λ a c l u. b.parents_distinct a c l (omega (arith, parent_count_most w i)) (parent_used w i c u))

  -- a place from the count on is not used
  pub parent_unused : (a : ℕ) → parent_count w i ≤ a → a < most_parents → parent_of w i a ≡ none
  unfolding parent_count
  parent_unused a l u =
      let past : ℕ = parent_count w i in
      let here : parent_of w i past ≡ none = eqb-true _ none (first_hit (λ a. eqb (parent_of w i a) none) most_parents (omega arith)) in
      ⊎_elim (λ (e : past ≡ a). ap (parent_of w i) (sym e) ∙ here) (λ (h : past < a). b.unused_after past a h u here) (eq-or-lt_of_le l)
