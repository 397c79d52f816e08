-- The step of the search that a query makes.
use Rattle.std.specs.Prelude.{ℕ, Bool, not, List}
use Rattle.rules.specs.Readings.{passes_query}

-- j breaks the query of the booking whose ancestry is m: it is a member and not preferred
abbrev pub in_the_way : List ℕ → List ℕ → ℕ → Bool
in_the_way w m j = not (passes_query w m j)
