-- Laws of tests: a row of them joined by `&&` gives each and follows from each; what `||`, `not` and `cond` give.
use mathlib.Core.Path.{◌≡◌, refl, sym}
use mathlib.Core.Bool.{Bool, true, false, not, ◌&&◌, ◌||◌, cond, true≢false}
use mathlib.Core.List.{List, [], ◌∷◌}
use mathlib.Core.Logic.{◌⊎◌, inl, inr, ⊎_elim, ◌↔◌}
use Prim.Native.Nat.{ℕ, zero, suc}
use lib.ListN.{get_or}

-- ---- a row of tests: `row (a ∷ b ∷ c ∷ [])` computes to `a && b && c`

abbrev pub row_from : Bool → List Bool → Bool
row_from a [] = a
row_from a (b ∷ l) = row_from (a && b) l

abbrev pub row : List Bool → Bool
row = row_from true

pub and_left : (a b : Bool) → (a && b) ≡ true → a ≡ true
and_left true b e = refl
and_left false b e = e

pub and_right : (a b : Bool) → (a && b) ≡ true → b ≡ true
and_right true b e = e
and_right false b e = absurd (true≢false (sym e))

pub and_both : (a b : Bool) → a ≡ true → b ≡ true → (a && b) ≡ true
and_both a b p q = rw (p, q)

-- a test in the place of one that it agrees with where those before pass
pub and_judged : (a s m n : Bool) → (s ≡ true → m ≡ n) → (a && s && m) ≡ (a && s && n)
and_judged true true m n h = h refl
and_judged true false m n h = refl
and_judged false s m n h = refl

row_from_head : (a : Bool) (l : List Bool) → row_from a l ≡ true → a ≡ true
row_from_head a [] e = e
row_from_head a (b ∷ l) e = and_left a b (row_from_head (a && b) l e)

row_from_at : (a : Bool) (l : List Bool) → row_from a l ≡ true → (i : ℕ) → get_or l i true ≡ true
row_from_at a [] e i = refl
row_from_at a (b ∷ l) e zero = and_right a b (row_from_head (a && b) l e)
row_from_at a (b ∷ l) e (suc i) = row_from_at (a && b) l e i

-- a row that passes gives each of its tests, by its place
pub row_at : (l : List Bool) → row l ≡ true → (i : ℕ) → get_or l i true ≡ true
row_at = row_from_at true

-- what follows where each test of the row passes
abbrev pub Given : List Bool → Type 0 → Type 0
Given [] goal = goal
Given (a ∷ l) goal = a ≡ true → Given l goal

row_from_by : (a : Bool) (l : List Bool) → a ≡ true → Given l (row_from a l ≡ true)
row_from_by a [] p = p
row_from_by a (b ∷ l) p = λ q. row_from_by (a && b) l (and_both a b p q)

-- a row passes by each of its tests, in their order
pub row_by : (l : List Bool) → Given l (row l ≡ true)
row_by l = row_from_by true l refl

-- ---- one that can't pass, either, and one by a test

-- a test that can't pass fails
pub refuted : (t : Bool) → (t ≡ true → ⊥) → t ≡ false
refuted true h = absurd (h refl)
refuted false h = refl

-- where neither passes, both fail
pub neither : (a b : Bool) → (a || b) ≡ false → (a ≡ false) × (b ≡ false)
neither true b e = absurd (true≢false e)
neither false b e = (refl, e)

-- where the first of two fails, the second passes
pub or_right : (a b : Bool) → (a || b) ≡ true → a ≡ false → b ≡ true
or_right true b e f = absurd (true≢false f)
or_right false b e f = e

-- either passes exactly if one does
pub or_either : (a b : Bool) → ((a || b) ≡ true) ↔ ((a ≡ true) ⊎ (b ≡ true))
or_either true b = (λ e. inl refl, λ u. refl)
or_either false b = (inr, ⊎_elim (λ e. absurd (true≢false (sym e))) (λ e. e))

-- either passes where the second does whenever the first fails
pub or_else : (a b : Bool) → (a ≡ false → b ≡ true) → (a || b) ≡ true
or_else true b h = refl
or_else false b h = h refl

-- a test chosen by a test: two that agree
pub cond_agree : (a b : Bool) → cond a b (not b) ≡ true → a ≡ b
cond_agree true b e = sym e
cond_agree false true e = e
cond_agree false false e = refl

pub agree_cond : (a b : Bool) → a ≡ b → cond a b (not b) ≡ true
agree_cond true b e = sym e
agree_cond false true e = e
agree_cond false false e = refl
