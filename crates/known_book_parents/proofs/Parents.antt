-- The parents looked up one after another: where none is unknown, their numbers are those of the booking.
use Rattle.std.specs.Prelude.{Ok, Err, is_err}
use mathlib.Core.Path.{◌≡◌, refl, sym, ap, ◌∙◌}
use mathlib.Core.Bool.{Bool, true, false, cond}
use mathlib.Core.List.{List, [], ◌∷◌}
use Prim.Native.Nat.{ℕ, ◌≤◌}
use native.Mathlib.Omega.{arith}
use lib.ListN.{length, replicate}
use borrow.Author.Tests.{ltb-false}
use Rattle.loops.specs.Turns.{up_to}
use Rattle.loops.proofs.Search.{first_le}
use Rattle.terms.specs.declared.answer.Refusal.{Refusal}
use Rattle.terms.specs.declared.answer.Refusal.TheVariants.{UnknownParent}
use Rattle.rules.specs.Layout.{most_parents, none}
use Rattle.terms.specs.Answers.{Tested}
use Rattle.rules.specs.Book.{is_absent, parent_found, has_unknown}
use Rattle.rules.specs.Book.{parent_numbers}
use Rattle.known_book_parents.specs.Parents.{first_unknown, with_numbers, Looked}

-- four unused places, filled from the first on
pub with_numbers_all : (w parents : List ℕ) → length parents ≤ most_parents → with_numbers w parents (length parents) (replicate most_parents none) ≡ parent_numbers w parents
unfolding up_to
with_numbers_all w [] h = refl
with_numbers_all w (a ∷ []) h = refl
with_numbers_all w (a ∷ b ∷ []) h = refl
with_numbers_all w (a ∷ b ∷ c ∷ []) h = refl
with_numbers_all w (a ∷ b ∷ c ∷ d ∷ []) h = refl
with_numbers_all w (a ∷ b ∷ c ∷ d ∷ e ∷ l) h = absurd (omega arith)

pub first_unknown_none : (w parents : List ℕ) → has_unknown w parents ≡ false → first_unknown w parents ≡ length parents
unfolding has_unknown
first_unknown_none w parents e =
    omega (arith, first_le (λ a. is_absent (parent_found w parents a)) (length parents), ltb-false (first_unknown w parents) (length parents) e)

-- ---- what the answer says of the test

abbrev stopped : Bool → Tested
stopped b = cond b (Err UnknownParent) (Ok tt)

stopped_by : (b : Bool) → is_err (stopped b) ≡ b
stopped_by true = refl
stopped_by false = refl

abbrev reason : Tested → Refusal
reason (Ok u) = UnknownParent
reason (Err r) = r

reason_stopped : (b : Bool) → reason (stopped b) ≡ UnknownParent
reason_stopped true = refl
reason_stopped false = refl

module _ {w parents numbers : List ℕ} {r : Tested} {numbers' : List ℕ} (l : Looked w parents numbers r numbers') where
  looked_test : is_err r ≡ has_unknown w parents
  looked_test = ap is_err l.answer ∙ stopped_by (has_unknown w parents)

  pub looked_known : r ≡ Ok tt → has_unknown w parents ≡ false
  looked_known e = sym looked_test ∙ ap is_err e

  pub looked_unknown : {x : Refusal} → r ≡ Err x → has_unknown w parents ≡ true
  looked_unknown e = sym looked_test ∙ ap is_err e

  pub looked_reason : {x : Refusal} → r ≡ Err x → x ≡ UnknownParent
  looked_reason e = ap reason (sym e ∙ l.answer) ∙ reason_stopped (has_unknown w parents)
