-- Bits that are set one after the other in eight words: one is set exactly if it is one of them.
use mathlib.Core.Path.{◌≡◌, ◌∙◌}
use Prim.Native.Nat.{ℕ, zero, suc, ◌+◌, ◌*◌, ◌<◌}
use native.Mathlib.Numerals.{add-one}
use native.Mathlib.Omega.{arith}
use lib.Dec.{eqb}
use lib.ListN.{length, length-replicate}
use Rattle.loops.specs.Search.{any}
use Rattle.loops.proofs.Search.{any_none, any_suc}
use Rattle.loops.proofs.Turns.{up_to_zero, up_to_more, up_to_kept}
use Rattle.bits.specs.Bits.{bit_at, with_bit}
use Rattle.bits.specs.Members.{bit_words, no_bits, set_below}
use Rattle.bits.proofs.Bits.{with_bit_length, bit_at_with_bit, bit_at_zeros}

module _ (f : ℕ → ℕ) where
  pub set_below_length : (i : ℕ) → length (set_below f i) ≡ bit_words
  unfolding set_below
  set_below_length i =
      up_to_kept (λ j. with_bit (f j)) (λ m. length m ≡ bit_words) i (λ j l m e. with_bit_length (f j) m ∙ e) no_bits (length-replicate {A = ℕ} bit_words 0)

  -- the turns of the loop that sets
  pub set_below_zero : set_below f 0 ≡ no_bits
  unfolding set_below
  set_below_zero = up_to_zero _ _

  pub set_below_more : (i : ℕ) → set_below f (i + 1) ≡ with_bit (f i) (set_below f i)
  unfolding set_below
  set_below_more i = up_to_more _ i _

  -- a bit is set exactly if one of them is it
  pub bit_at_set_below : (i o : ℕ) → o < 64 * bit_words → bit_at (set_below f i) o ≡ any (λ j. eqb (f j) o) i
  bit_at_set_below zero o h = rw (set_below_zero, bit_at_zeros bit_words o h, any_none)
  bit_at_set_below (suc i) o h =
      rw (← add-one i, set_below_more i, bit_at_with_bit (set_below f i) (f i) o (omega (arith, set_below_length i)), bit_at_set_below i o h, add-one, any_suc)
