-- A search over a table of rows of z words that walks the words once: what a search by number finds, computed faster.
use Rattle.std.specs.Prelude.{ℕ, zero, suc, Bool, true, false, List, drop}

-- the first of k rows, counted from i, at which the test of its number and of the words from its first on passes
unfoldable pub walk_from : ℕ → (ℕ → List ℕ → Bool) → ℕ → ℕ → List ℕ → ℕ
walk_from z p i zero l = i
walk_from z p i (suc k) l = elim (p i l) [ true ↦ i | false ↦ walk_from z p (suc i) k (drop z l) ]
