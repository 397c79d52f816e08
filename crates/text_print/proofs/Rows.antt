-- Laws of what is printed: how long a field is, and one field more of a row.
use mathlib.Core.Path.{◌≡◌}
use mathlib.Core.List.{List, [], ◌∷◌}
use Prim.Native.Nat.{ℕ, ◌^◌, ◌<◌, ◌≤◌}
use native.Mathlib.Omega.{arith}
use lib.ListN.{length, length-append}
use Rattle.put.specs.Put.{Put}
use Rattle.text_print.specs.Columns.{field_prints, field_most, end_of, row_prints}
use Rattle.put.proofs.Puts.{put_then, put_none}
use Rattle.text_put.proofs.Decimals.{decimal_length}

pub field_length : (v after : ℕ) → v < 2 ^ 64 → length (field_prints v after) ≤ field_most
field_length v after h = rw length-append (omega (arith, decimal_length v h))

-- ---- the loop over the fields

-- what is left to write, the row of the fields left, completes the row of all
pub record RowLeft (out₀ : List ℕ) (at : ℕ) (fields₀ out : List ℕ) (next : ℕ) (fields : List ℕ) : Type 0 where
  pub rest : (r : ℕ) (o : List ℕ) → Put out next (row_prints fields) r o → Put out₀ at (row_prints fields₀) r o

pub row_start : (out : List ℕ) (at : ℕ) (fields : List ℕ) → RowLeft out at fields out at fields
row_start out at fields = record { rest = λ r o p. p }

module _ {out₀ : List ℕ} {at : ℕ} {fields₀ out : List ℕ} {next : ℕ} where
  pub row_more : {out' : List ℕ} {next' : ℕ} (v : ℕ) (fields : List ℕ) → RowLeft out₀ at fields₀ out next (v ∷ fields)
      → Put out next (field_prints v (end_of fields)) next' out' → RowLeft out₀ at fields₀ out' next' fields
  unfolding row_prints
  row_more v fields left p = record { rest = λ r o q. left.rest r o (put_then p q) }

  pub row_over : (fields : List ℕ) → length fields ≡ 0 → RowLeft out₀ at fields₀ out next fields → Put out₀ at (row_prints fields₀) next out
  unfolding row_prints
  row_over [] h left = left.rest next out (put_none out next)
  row_over (v ∷ fields) h left = absurd (omega arith)
