-- The parents of a booking, looked up one after another, and the refusals that are judged of them.
use Rattle.std.specs.Prelude.{ℕ, ◌≡◌, Bool, true, false, cond, List, length, set, Err, Ok}
use Rattle.loops.specs.Search.{first}
use Rattle.loops.specs.Turns.{up_to}
use Rattle.terms.specs.declared.answer.Refusal.TheVariants.{UnknownParent}
use Rattle.terms.specs.Answers.{Outcome, leaves, Tested}
use Rattle.rules.specs.Book.{is_absent, number_of, parent_found, has_unknown, booked}
use Rattle.rules.specs.Calls.{parents_answer}

-- the first parent whose name isn't booked; how many parents there are where each is
abbrev pub first_unknown : List ℕ → List ℕ → ℕ
first_unknown w parents = first (λ a. is_absent (parent_found w parents a)) (length parents)

-- the numbers with that of each parent below n in its place
abbrev pub with_numbers : List ℕ → List ℕ → ℕ → List ℕ → List ℕ
with_numbers w parents n numbers = up_to (λ a p. set p a (number_of (parent_found w parents a))) n numbers

-- what looking the parents up leaves: refusal 7 or none, and the numbers of those that stand before an unknown one
pub record Looked (w parents numbers : List ℕ) (r : Tested) (numbers' : List ℕ) : Type 0 where
  pub answer : r ≡ cond (has_unknown w parents) (Err UnknownParent) (Ok tt)
  pub after : numbers' ≡ with_numbers w parents (first_unknown w parents) numbers

-- what is left of a booking once its name, its slot and the number of its parents pass
unfoldable pub parents_call : List ℕ → ℕ → ℕ → List ℕ → Outcome
parents_call w name slot parents = leaves (parents_answer w parents) w (booked w name slot parents)
