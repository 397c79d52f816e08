-- A booking's refusals by its parents, in their order: each case is what is left of the law's call.
use Rattle.std.specs.Prelude.{Err}
use mathlib.Core.Path.{◌≡◌}
use mathlib.Core.Bool.{true, false}
use mathlib.Core.List.{List}
use Prim.Native.Nat.{ℕ, ◌<◌, ◌≤◌}
use native.Mathlib.Omega.{arith}
use lib.Dec.{eqb}
use borrow.Author.Tests.{eqb-false}
use Rattle.terms.specs.declared.answer.Refusal.TheVariants.{UnknownParent, ParentTwice, Full}
use Rattle.rules.specs.Layout.{most_bookings, bookings}
use Rattle.terms.specs.Answers.{outcome, done}
use Rattle.rules.specs.Book.{has_unknown, has_twice, booked}
use Rattle.known_book_parents.specs.Parents.{parents_call}

module _ (w : List ℕ) (name slot : ℕ) (parents : List ℕ) where
  pub parents_unknown : has_unknown w parents ≡ true → outcome (Err UnknownParent) w ≡ parents_call w name slot parents
  unfolding parents_call
  parents_unknown u = rw u

  module _ (known : has_unknown w parents ≡ false) where
    pub parents_twice : has_twice parents ≡ true → outcome (Err ParentTwice) w ≡ parents_call w name slot parents
    unfolding parents_call
    parents_twice t = rw (known, t)

    module _ (once : has_twice parents ≡ false) where
      pub parents_full : eqb (bookings w) most_bookings ≡ true → outcome (Err Full) w ≡ parents_call w name slot parents
      unfolding parents_call
      parents_full f = rw (known, once, f)

      pub parents_taken : eqb (bookings w) most_bookings ≡ false → outcome done (booked w name slot parents) ≡ parents_call w name slot parents
      unfolding parents_call
      parents_taken f = rw (known, once, f)

-- what the last test leaves where it fails
pub not_full : (n : ℕ) → n ≤ most_bookings → eqb n most_bookings ≡ false → n < most_bookings
not_full n h e = omega (arith, eqb-false n most_bookings e)
