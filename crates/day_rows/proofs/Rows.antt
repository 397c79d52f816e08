-- A booking's parts, one after the other, are its row; a poll's two numbers at the place of its ordinal are what its record writes.
use mathlib.Core.Path.{◌≡◌, sym, ap, ap₂, ◌∙◌}
use mathlib.Core.Bool.{Bool, true, false, not, cond}
use mathlib.Core.List.{List, ◌++◌}
use mathlib.Core.Logic.{◌≢◌}
use Prim.Native.Nat.{ℕ, zero, suc, ◌+◌}
use native.Mathlib.Nat.{zero-add, add-zero}
use native.Mathlib.Omega.{arith}
use Rattle.std.specs.List.{prefix_len}
use lib.Dec.{eqb}
use borrow.Author.Tests.{eq-eqb, ne_eqb}
use Rattle.loops.specs.Search.{first_from}
use Rattle.loops.specs.Fill.{from}
use Rattle.loops.specs.Total.{bit}
use Rattle.loops.proofs.Fill.{length_from, from_shift}
use Rattle.rules.specs.Layout.{most_parents, none, parents_field, field, name_of, slot_of, parent_of, state_of, ordinal_of}
use Rattle.put.specs.Put.{Put}
use Rattle.put.proofs.Puts.{put_then}
use Rattle.day_file.specs.Day.{parent_count, booking_at}
use Rattle.day_file.specs.Bytes.{number_bytes, name_bytes, joined, booking_bytes}
use Rattle.day_file.specs.InTurn.{poll_at, pair_at}

-- ---- how many parents

-- the elements before the first that fails are as many as the numbers before the first at which the test passes
first_of : (p : ℕ → Bool) (f : ℕ → ℕ) (i n : ℕ) → i + prefix_len (λ x. not (p x)) (from f i n) ≡ first_from (λ a. p (f a)) i n
unfolding from first_from
first_of p f i zero = add-zero i
first_of p f i (suc n) = step (p (f i)) _ _ (first_of p f (suc i) n)
  where
    step : (b : Bool) (k m : ℕ) → suc i + k ≡ m → i + cond (not b) (1 + k) 0 ≡ elim b [ true ↦ i | false ↦ m ]
    step true k m e = add-zero i
    step false k m e = omega arith

pub parents_counted : (w : List ℕ) (i : ℕ) {places : List ℕ} → places ≡ from (field w i) parents_field most_parents
    → prefix_len (λ p. not (eqb p none)) places ≡ parent_count w i
unfolding parent_count
parents_counted w i same =
    ap (prefix_len (λ p. not (eqb p none))) (same ∙ sym (from_shift (field w i) parents_field 0 most_parents))
    ∙ sym (zero-add (prefix_len (λ p. not (eqb p none)) (from (parent_of w i) 0 most_parents))) ∙ first_of (λ p. eqb p none) (parent_of w i) 0 most_parents

-- ---- a booking

module _ (w : List ℕ) (i : ℕ) where
  parts : name_bytes (name_of w i) ++ number_bytes (slot_of w i) ++ (number_bytes (parent_count w i) ++ joined number_bytes (from (field w i) parents_field (parent_count w i)))
      ≡ booking_bytes (booking_at w i)
  parts =
      ap₂ (λ n l. name_bytes (name_of w i) ++ number_bytes (slot_of w i) ++ (number_bytes n ++ joined number_bytes l))
      (sym (length_from (parent_of w i) 0 (parent_count w i)))
      (sym (from_shift (field w i) parents_field 0 (parent_count w i)))

  pub booking_put : {name slot count : ℕ} {numbers : List ℕ} {out out₁ out₂ out₃ out₄ : List ℕ} {at k l m n : ℕ}
      → name ≡ name_of w i → slot ≡ slot_of w i → count ≡ parent_count w i → numbers ≡ from (field w i) parents_field count
      → Put out at (name_bytes name) k out₁ → Put out₁ k (number_bytes slot) l out₂ → Put out₂ l (number_bytes count) m out₃
      → Put out₃ m (joined number_bytes numbers) n out₄ → Put out at (booking_bytes (booking_at w i)) n out₄
  booking_put named placed counted parents p q r s =
      rw (← parts, ← named, ← placed, ← counted, ← parents) (put_then (put_then p q) (put_then r s))

  -- ---- a poll

  pub poll_put : {ordinal success : ℕ} {out out₁ out₂ : List ℕ} {m n : ℕ} → ordinal ≡ ordinal_of w i → success ≡ bit (eqb (state_of w i) 2) → ordinal ≢ 0
      → Put out (poll_at ordinal) (number_bytes i) m out₁ → Put out₁ m (number_bytes success) n out₂ → out₂ ≡ pair_at w i out
  unfolding pair_at
  poll_put {ordinal} counted told polled p q =
      rw (← counted, ← told, ne_eqb ordinal 0 polled) (put_then p q).after

  pub poll_none : {ordinal : ℕ} {out : List ℕ} → ordinal ≡ ordinal_of w i → ordinal ≡ 0 → out ≡ pair_at w i out
  unfolding pair_at
  poll_none {ordinal} counted waiting = rw (← counted, eq-eqb ordinal 0 waiting)
