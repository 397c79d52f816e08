-- CR 5, after each taken poll: a booking that meets the rule of acceptance is marked, unless another in its slot is.
-- The rule is document 01's, with the parents' acceptance read from their marks, and CR 7's. AsRead.antt says it as people read it.
use Rattle.std.specs.Prelude.{ℕ, Bool, ◌&&◌, ◌||◌, not, cond, List, eqb}
use Rattle.loops.specs.Turns.{up_to}
use Rattle.loops.specs.Search.{all, any}
use Rattle.terms.specs.Editions.{enough}
use Rattle.rules.specs.Layout.{most_parents, none, bookings, setting_in, mark_field, slot_of, parent_of, is_marked, counter_in, held_in, with_field}
use Rattle.rules.specs.Readings.{is_preferred, is_last, is_rival}

-- the counter of j's slot is enough for β: above it, or at least by the edition
abbrev pub counter_enough : List ℕ → ℕ → (beta : ℕ) → Bool
counter_enough w j beta = enough (setting_in w).edition beta (counter_in w (slot_of w j))

-- place a of booking j is unused, or holds a parent that is marked
abbrev pub parent_marked : List ℕ → ℕ → ℕ → Bool
parent_marked w j a = eqb (parent_of w j a) none || is_marked w (parent_of w j a)

-- all parents are accepted
abbrev pub parents_marked : List ℕ → ℕ → Bool
parents_marked w j = all (parent_marked w j) most_parents

-- all parents are accepted, the slot has one booking and its counter is enough for β1
abbrev pub first_arm : List ℕ → ℕ → Bool
first_arm w j = parents_marked w j && eqb (held_in w (slot_of w j)) 1 && counter_enough w j (setting_in w).beta1

-- the booking is both preferred and last in its slot and the counter is enough for β2
abbrev pub second_arm : List ℕ → ℕ → Bool
second_arm w j = is_preferred w j && is_last w j && counter_enough w j (setting_in w).beta2

-- the genesis meets the rule; others exactly by one of the arms
abbrev pub meets_rule : List ℕ → ℕ → Bool
meets_rule w j = eqb j 0 || first_arm w j || second_arm w j

-- another booking of j's slot is marked
unfoldable pub another_marked : List ℕ → ℕ → Bool
another_marked w j = any (λ i. is_rival w j i && is_marked w i) (bookings w)

-- j is marked if it meets the rule, unless another in its slot is
unfoldable pub mark_one : ℕ → List ℕ → List ℕ
mark_one j w = cond (meets_rule w j && not (another_marked w j)) (with_field w j mark_field 1) w

-- the bookings below n in rising number: parents are lower, so they have their marks by then
abbrev pub marked_below : ℕ → List ℕ → List ℕ
marked_below n w = up_to mark_one n w

-- all bookings, of the polled ancestry or not
abbrev pub marked : List ℕ → List ℕ
marked w = marked_below (bookings w) w
