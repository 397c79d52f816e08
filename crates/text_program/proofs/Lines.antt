-- Laws of the lines by their place in the input: where the first ends, and what follows it.
use mathlib.Core.Path.{◌≡◌, refl, ap}
use mathlib.Core.Bool.{Bool, true, false}
use mathlib.Core.List.{List, [], ◌∷◌}
use Prim.Native.Nat.{ℕ, suc, ◌+◌, ◌<◌, ◌≤◌}
use native.Mathlib.Omega.{arith}
use lib.Dec.{eqb}
use lib.ListN.{length, get_or, take, drop}
use lib.Seq.{drop-cons, drop-drop}
use Rattle.text_bytes.specs.Bytes.{line_feed}
use Rattle.line_words.specs.Words.{before}
use Rattle.text_program.specs.Program.{lines}
use Rattle.text_program.specs.Piece.{line_end}

-- ---- where the first line ends

-- what the definitions say of one byte more, by whether it is a line feed
module _ (b : ℕ) (input : List ℕ) where
  abbrev end_by : Bool → ℕ
  end_by t = elim t [ true ↦ 0 | false ↦ suc (line_end input) ]

  abbrev lines_by : Bool → List (List ℕ)
  lines_by t = elim t [ true ↦ [] ∷ lines input | false ↦ before b (lines input) ]

  abbrev Cut : Bool → Type 0
  Cut t = lines_by t ≡ take (end_by t) (b ∷ input) ∷ lines (drop (suc (end_by t)) (b ∷ input))

pub end_le : (input : List ℕ) → line_end input ≤ length input
unfolding line_end
end_le [] = omega arith
end_le (b ∷ input) =
    elim (eqb b line_feed) as (λ t. end_by b input t ≤ suc (length input)) [ true ↦ omega arith | false ↦ omega (arith, end_le input) ]

-- ---- the first line, and those after its line feed

lines_cons : (b : ℕ) (input : List ℕ) → lines (b ∷ input) ≡ take (line_end (b ∷ input)) (b ∷ input) ∷ lines (drop (suc (line_end (b ∷ input))) (b ∷ input))
unfolding lines line_end
lines_cons b [] = elim (eqb b line_feed) as (Cut b []) [ true ↦ refl | false ↦ refl ]
lines_cons b (x ∷ xs) = elim (eqb b line_feed) as (Cut b (x ∷ xs)) [ true ↦ refl | false ↦ ap (before b) (lines_cons x xs) ]

pub lines_at : (input : List ℕ) (at : ℕ) → at < length input
    → lines (drop at input) ≡ take (line_end (drop at input)) (drop at input) ∷ lines (drop (at + suc (line_end (drop at input))) input)
lines_at input at h =
    rw (← drop-drop (suc (line_end (drop at input))) at input, drop-cons input at 0 h) (lines_cons (get_or input at 0) (drop (suc at) input))
