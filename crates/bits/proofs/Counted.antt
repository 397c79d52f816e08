-- The language's count of ones is the number of bits that are set, of one word and of a row of words.
use mathlib.Core.Path.{◌≡◌, refl, sym, ap, ap₂, ◌∙◌}
use mathlib.Core.List.{List}
use Prim.Native.Nat.{ℕ, zero, suc, ◌+◌, ◌*◌, ◌/◌, ◌%◌, ◌^◌, ◌<◌}
use native.Mathlib.Nat.{div-one, zero-add, pow-suc}
use native.Mathlib.Omega.{arith}
use lib.Arith.{lt-one}
use lib.Count.{ones, ones_step}
use lib.Dec.{eqb}
use lib.ListN.{length, get_or}
use Rattle.std.specs.List.{sum_by}
use lib.Pow.{shr-shr}
use Rattle.loops.specs.Total.{bit, total, count}
use Rattle.loops.proofs.Elements.{sum_elements}
use Rattle.loops.proofs.Total.{total_zero, total_same, total_split}
use Rattle.bits.specs.Bits.{bit_in, bit_at, ones_in}
use Rattle.bits.proofs.Bits.{bit_at_place}

-- ---- one word

-- a bit is 0 or 1, and so is whether it is set
pub bit_below_two : (b : ℕ) → b < 2 → bit (eqb b 1) ≡ b
bit_below_two zero h = refl
bit_below_two (suc zero) h = refl
bit_below_two (suc (suc b)) h = absurd (omega arith)

-- bit k + 1 of a number is bit k of its half
pub bit_in_half : (x k : ℕ) → bit_in x (1 + k) ≡ bit_in (x / 2) k
bit_in_half x k = ap (λ (y : ℕ). y % 2) (sym (shr-shr x 1 k))

-- the lowest bit
pub bit_in_zero : (x : ℕ) → bit_in x 0 ≡ x % 2
bit_in_zero x = ap (λ (y : ℕ). y % 2) (div-one x)

first_bit_lem : (x : ℕ) → total (λ k. bit (eqb (bit_in x k) 1)) 1 ≡ x % 2
unfolding total
first_bit_lem x = zero-add _ ∙ bit_below_two (bit_in x 0) (omega arith) ∙ bit_in_zero x

-- the ones of a number of d digits are its bits that are set
pub ones_bits : (d x : ℕ) → x < 2 ^ d → ones x ≡ count (λ k. eqb (bit_in x k) 1) d
unfolding ones
ones_bits zero x h = ap ones (lt-one h) ∙ sym (total_zero _)
ones_bits (suc d) x h =
    let next : 1 + d ≡ suc d = omega arith in
    ones_step x
    ∙ ap₂ ◌+◌ (sym (first_bit_lem x))
    (ones_bits d (x / 2) (omega (arith, pow-suc 2 d)) ∙ total_same _ _ d (λ i l. ap (λ (y : ℕ). bit (eqb y 1)) (sym (bit_in_half x i))))
    ∙ sym (total_split (λ k. bit (eqb (bit_in x k) 1)) 1 d) ∙ ap (count (λ k. eqb (bit_in x k) 1)) next

-- ---- a row of words

-- the bits of one word more
pub count_word : (m : List ℕ) (q : ℕ) → count (bit_at m) (64 * (q + 1)) ≡ count (bit_at m) (64 * q) + ones_in (get_or m q 0)
count_word m q =
    let next : 64 * (q + 1) ≡ 64 * q + 64 = omega arith in
    ap (count (bit_at m)) next ∙ total_split (λ j. bit (bit_at m j)) (64 * q) 64
    ∙ ap (λ (n : ℕ). count (bit_at m) (64 * q) + n) (total_same _ _ 64 (λ k l. ap bit (bit_at_place m q k l)))

-- the ones of n words, summed
count_rows : (m : List ℕ) (n : ℕ) → total (λ q. ones_in (get_or m q 0)) n ≡ count (bit_at m) (64 * n)
unfolding total
count_rows m zero = refl
count_rows m (suc n) =
    let next : 64 * (n + 1) ≡ 64 * suc n = omega arith in
    ap (λ (x : ℕ). x + ones_in (get_or m n 0)) (count_rows m n) ∙ sym (count_word m n) ∙ ap (count (bit_at m)) next

pub count_words : (m : List ℕ) {n : ℕ} → length m ≡ n → sum_by ones_in m ≡ count (bit_at m) (64 * n)
count_words m e = sum_elements ones_in m ∙ rw e (count_rows m _)
