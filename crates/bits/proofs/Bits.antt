-- After bit q is set, bit j is set if it was or if it is bit q; past the last word none is; in words of zeros none is.
use mathlib.Core.Path.{◌≡◌, refl, sym, ap, ◌∙◌}
use mathlib.Core.Bool.{true, false, ◌||◌, or-true, or-false}
use mathlib.Core.List.{List}
use mathlib.Core.Logic.{◌≢◌}
use Prim.Native.Nat.{ℕ, zero, suc, ◌+◌, ◌*◌, ◌-◌, ◌%◌, ◌/◌, ◌^◌, ◌<◌, ◌≤◌}
use native.Mathlib.Nat.{div_self, div-eq_of_lt, mul-mod_left, pow-suc, zero-div}
use native.Mathlib.Decide.{ℕ_discrete, dec_lt}
use native.Mathlib.Omega.{arith}
use lib.Bits.{bit_or, or_shr, or_mod, or_zero_r}
use lib.Dec.{eqb}
use lib.ListN.{length, get_or, replicate, length-set, get_or-replicate, get_or-eq_default}
use lib.Pow.{pow-lt, pow-add, shl-shr, pow_pos}
use lib.Seq.{get_or-set_same, get_or-set_other}
use borrow.Author.Tests.{eq-eqb, ne_eqb}
use Rattle.bits.specs.Bits.{bit_in, bit_at, with_bit}

-- ---- one word

-- the one bit of a power of two
bit_in_power_same : (r : ℕ) → bit_in (2 ^ r) r ≡ 1
bit_in_power_same r = rw (div_self {n = 2 ^ r} (pow_pos r))

bit_in_power_other : (r k : ℕ) → k ≢ r → bit_in (2 ^ r) k ≡ 0
bit_in_power_other r k d = go (dec_lt r k)
  where
    go : Dec (r < k) → bit_in (2 ^ r) k ≡ 0
    go (yes h) = ap (λ (x : ℕ). x % 2) (div-eq_of_lt (pow-lt h))
    go (no h) =
        let e : r ≡ suc (r - k - 1) + k = omega arith in
        ap (λ (x : ℕ). 2 ^ x / 2 ^ k % 2) e ∙ rw (pow-add 2 (suc (r - k - 1)) k, shl-shr (2 ^ suc (r - k - 1)) k, pow-suc 2 (r - k - 1)) (mul-mod_left (2 ^ (r - k - 1)) 2)

bit_in_or : (a b k : ℕ) → bit_in (bit_or a b) k ≡ bit_or (bit_in a k) (bit_in b k)
bit_in_or a b k = ap (λ (x : ℕ). x % 2) (or_shr a b k) ∙ or_mod (a / 2 ^ k) (b / 2 ^ k) 1

or_one : (n : ℕ) → n < 2 → bit_or n 1 ≡ 1
or_one zero h = refl
or_one (suc zero) h = refl
or_one (suc (suc n)) h = absurd (omega arith)

bit_in_set_same : (a r : ℕ) → bit_in (bit_or a (2 ^ r)) r ≡ 1
bit_in_set_same a r = bit_in_or a (2 ^ r) r ∙ ap (bit_or (bit_in a r)) (bit_in_power_same r) ∙ or_one (bit_in a r) (omega arith)

bit_in_set_other : (a r k : ℕ) → k ≢ r → bit_in (bit_or a (2 ^ r)) k ≡ bit_in a k
bit_in_set_other a r k d = bit_in_or a (2 ^ r) k ∙ ap (bit_or (bit_in a k)) (bit_in_power_other r k d) ∙ or_zero_r (bit_in a k)

-- ---- a row of words

pub with_bit_length : (q : ℕ) (m : List ℕ) → length (with_bit q m) ≡ length m
unfolding with_bit
with_bit_length q m = length-set m (q / 64) _

pub bit_at_with_bit_same : (m : List ℕ) (j : ℕ) → j < 64 * length m → bit_at (with_bit j m) j ≡ true
unfolding with_bit bit_at
bit_at_with_bit_same m j h =
    rw (get_or-set_same m (j / 64) (bit_or (get_or m (j / 64) 0) (2 ^ (j % 64))) 0 (omega arith)) (eq-eqb _ 1 (bit_in_set_same (get_or m (j / 64) 0) (j % 64)))

pub bit_at_with_bit_other : (m : List ℕ) (q j : ℕ) → j < 64 * length m → j ≢ q → bit_at (with_bit q m) j ≡ bit_at m j
unfolding with_bit bit_at
bit_at_with_bit_other m q j h d = go (ℕ_discrete (j / 64) (q / 64))
  where
    go : Dec (j / 64 ≡ q / 64) → bit_at (with_bit q m) j ≡ bit_at m j
    go (yes e) =
        rw (e, get_or-set_same m (q / 64) (bit_or (get_or m (q / 64) 0) (2 ^ (q % 64))) 0 (omega arith), bit_in_set_other (get_or m (q / 64) 0) (q % 64) (j % 64) (λ s. d (omega arith)))
    go (no n) = rw (get_or-set_other m (q / 64) (j / 64) (bit_or (get_or m (q / 64) 0) (2 ^ (q % 64))) 0 n)

pub bit_at_with_bit : (m : List ℕ) (q j : ℕ) → j < 64 * length m → bit_at (with_bit q m) j ≡ bit_at m j || eqb q j
bit_at_with_bit m q j h = go (ℕ_discrete q j)
  where
    go : Dec (q ≡ j) → bit_at (with_bit q m) j ≡ bit_at m j || eqb q j
    go (yes e) = rw (e, bit_at_with_bit_same m j h, eq-eqb j j refl, or-true)
    go (no n) = rw (bit_at_with_bit_other m q j h (λ e. n (sym e)), ne_eqb q j n, or-false)

-- a bit that is set stays set
pub bit_at_with_bit_kept : (m : List ℕ) (q j : ℕ) → j < 64 * length m → bit_at m j ≡ true → bit_at (with_bit q m) j ≡ true
bit_at_with_bit_kept m q j h e = rw (bit_at_with_bit m q j h, e)

pub bit_at_zeros : (k j : ℕ) → j < 64 * k → bit_at (replicate k 0) j ≡ false
unfolding bit_at
bit_at_zeros k j h = rw (get_or-replicate {A = ℕ} k (j / 64) 0 0 (omega arith), zero-div (2 ^ (j % 64)))

pub bit_at_past : (m : List ℕ) (j : ℕ) → length m ≤ j / 64 → bit_at m j ≡ false
unfolding bit_at
bit_at_past m j h = rw (get_or-eq_default m 0 {n = j / 64} h, zero-div (2 ^ (j % 64)))

-- bit k of word q
pub bit_at_place : (m : List ℕ) (q k : ℕ) → k < 64 → bit_at m (64 * q + k) ≡ eqb (bit_in (get_or m q 0) k) 1
unfolding bit_at
bit_at_place m q k l =
    let word : (64 * q + k) / 64 ≡ q = omega arith in
    let place : (64 * q + k) % 64 ≡ k = omega arith in
    rw (word, place)
