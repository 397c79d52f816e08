-- Whether what callers get back, rows of it, or tables of rows are the same: a computed test, so that a case that is off is refused at once.
use mathlib.Core.Path.{◌≡◌, refl, sym, ap₂}
use mathlib.Core.Bool.{Bool, true, false, ◌&&◌, true≢false}
use mathlib.Core.List.{List, [], ◌∷◌}
use Prim.Native.Nat.{ℕ}
use lib.IntN.{ℤ, pos, negsuc}
use lib.Dec.{eqb}
use store.Seg.{eqb→≡}
use Rattle.loops.proofs.Bools.{and_left, and_right}
use Rattle.terms.specs.Answers.{number, value, Answer}

-- what a caller gets back: the number, and the value
abbrev pub Got : Type 0
Got = ℕ × ℤ

abbrev pub got : Answer → Got
got a = (number a, value a)

-- what a test that passes has, and one that fails has not: checked without writing the test out
abbrev pub Passes : Bool → Type 0
Passes true = Unit
Passes false = ⊥

pub passes : (b : Bool) → Passes b → b ≡ true
passes true p = refl
passes false p = absurd p

abbrev same_value : ℤ → ℤ → Bool
same_value (pos m) (pos n) = eqb m n
same_value (pos m) (negsuc n) = false
same_value (negsuc m) (pos n) = false
same_value (negsuc m) (negsuc n) = eqb m n

same_value_lem : (v v' : ℤ) → same_value v v' ≡ true → v ≡ v'
same_value_lem (pos m) (pos n) e = rw (eqb→≡ m n e)
same_value_lem (pos m) (negsuc n) e = absurd (true≢false (sym e))
same_value_lem (negsuc m) (pos n) e = absurd (true≢false (sym e))
same_value_lem (negsuc m) (negsuc n) e = rw (eqb→≡ m n e)

abbrev same_got : Got → Got → Bool
same_got g h = eqb g.0 h.0 && same_value g.1 h.1

same_got_lem : (g h : Got) → same_got g h ≡ true → g ≡ h
same_got_lem g h e = ap₂ (λ n v. (n, v)) (eqb→≡ g.0 h.0 (and_left _ _ e)) (same_value_lem g.1 h.1 (and_right (eqb g.0 h.0) _ e))

abbrev same_row : List Got → List Got → Bool
same_row [] [] = true
same_row [] (y ∷ ys) = false
same_row (x ∷ xs) [] = false
same_row (x ∷ xs) (y ∷ ys) = same_got x y && same_row xs ys

same_row_lem : (xs ys : List Got) → same_row xs ys ≡ true → xs ≡ ys
same_row_lem [] [] e = refl
same_row_lem [] (y ∷ ys) e = absurd (true≢false (sym e))
same_row_lem (x ∷ xs) [] e = absurd (true≢false (sym e))
same_row_lem (x ∷ xs) (y ∷ ys) e = ap₂ ◌∷◌ (same_got_lem x y (and_left _ _ e)) (same_row_lem xs ys (and_right (same_got x y) _ e))

abbrev pub same_table : List (List Got) → List (List Got) → Bool
same_table [] [] = true
same_table [] (r ∷ rs) = false
same_table (r ∷ rs) [] = false
same_table (r ∷ rs) (s ∷ ss) = same_row r s && same_table rs ss

pub same_table_lem : (rs ss : List (List Got)) → same_table rs ss ≡ true → rs ≡ ss
same_table_lem [] [] e = refl
same_table_lem [] (s ∷ ss) e = absurd (true≢false (sym e))
same_table_lem (r ∷ rs) [] e = absurd (true≢false (sym e))
same_table_lem (r ∷ rs) (s ∷ ss) e = ap₂ ◌∷◌ (same_row_lem r s (and_left _ _ e)) (same_table_lem rs ss (and_right (same_row r s) _ e))

-- ---- the same of words or bytes

unfoldable pub same_numbers_lem : List ℕ → List ℕ → Bool
same_numbers_lem [] [] = true
same_numbers_lem [] (y ∷ ys) = false
same_numbers_lem (x ∷ xs) [] = false
same_numbers_lem (x ∷ xs) (y ∷ ys) = eqb x y && same_numbers_lem xs ys

pub same_numbers : (xs ys : List ℕ) → same_numbers_lem xs ys ≡ true → xs ≡ ys
unfolding same_numbers_lem
same_numbers [] [] e = refl
same_numbers [] (y ∷ ys) e = absurd (true≢false (sym e))
same_numbers (x ∷ xs) [] e = absurd (true≢false (sym e))
same_numbers (x ∷ xs) (y ∷ ys) e = ap₂ ◌∷◌ (eqb→≡ x y (and_left _ _ e)) (same_numbers xs ys (and_right (eqb x y) _ e))
