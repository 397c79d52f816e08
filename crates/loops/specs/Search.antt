-- The first number at which a test passes, and what is said by it: that all pass, that some passes.
use Rattle.std.specs.Prelude.{ℕ, zero, suc, Bool, true, false, not, cond, eqb, ltb, Option, Some, None}

-- the first of i, i + 1, .. at which p passes, trying k of them; i + k where none does
unfoldable pub first_from : (ℕ → Bool) → ℕ → ℕ → ℕ
first_from p i zero = i
first_from p i (suc k) = elim (p i) [ true ↦ i | false ↦ first_from p (suc i) k ]

-- the first number below n at which p passes; n where none does
abbrev pub first : (ℕ → Bool) → ℕ → ℕ
first p n = first_from p 0 n

-- p passes at every number below n: the first failure is past the end
abbrev pub all : (ℕ → Bool) → ℕ → Bool
all p n = eqb (first (λ i. not (p i)) n) n

-- p passes at some number below n
abbrev pub any : (ℕ → Bool) → ℕ → Bool
any p n = ltb (first p n) n

-- what a search below the limit found: the number, or nothing where it is not below
abbrev pub found_below : ℕ → ℕ → Option ℕ
found_below limit k = cond (ltb k limit) (Some k) None
