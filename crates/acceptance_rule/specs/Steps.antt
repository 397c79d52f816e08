-- The step of the search over a booking's parents.
use Rattle.std.specs.Prelude.{ℕ, Bool, not, List}
use Rattle.rules.specs.Marks.{parent_marked}

-- place a of booking j holds a parent that is not marked
abbrev pub unmarked_parent : List ℕ → ℕ → ℕ → Bool
unmarked_parent w j a = not (parent_marked w j a)
