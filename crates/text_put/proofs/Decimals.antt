-- Laws of decimal digits: one digit below ten, else those of the tenth and the last; a number of the widest type has at most twenty.
use mathlib.Core.Path.{◌≡◌, refl, sym, ap, ◌∙◌}
use mathlib.Core.List.{[], ◌∷◌, ◌++◌}
use Prim.Native.Nat.{ℕ, zero, suc, ◌+◌, ◌/◌, ◌%◌, ◌^◌, ◌<◌, ◌≤◌}
use native.Mathlib.Nat.{pow-suc}
use native.Mathlib.Decide.{dec_lt}
use native.Mathlib.Omega.{arith}
use lib.ListN.{length, length-append}
use borrow.Author.Tests.{lt-ltb, le-ltb}
use Rattle.text_bytes.specs.Bytes.{digit}
use Rattle.text_put.specs.Decimal.{digits_of, decimal}

digits_of_low : (f n : ℕ) → n < 10 → digits_of f n ≡ digit n ∷ []
unfolding digits_of
digits_of_low zero n h = refl
digits_of_low (suc f) n h = rw (digits_of, lt-ltb n 10 h)

digits_of_high : (f n : ℕ) → 10 ≤ n → digits_of (suc f) n ≡ digits_of f (n / 10) ++ (digit (n % 10) ∷ [])
unfolding digits_of
digits_of_high f n h = rw (digits_of, le-ltb n 10 h)

-- any bound that is large enough gives the same digits
digits_of_same : (f g n : ℕ) → n ≤ f → n ≤ g → digits_of f n ≡ digits_of g n
digits_of_same zero g n hf hg = digits_of_low zero n (omega arith) ∙ sym (digits_of_low g n (omega arith))
digits_of_same (suc f) zero n hf hg = digits_of_low (suc f) n (omega arith) ∙ sym (digits_of_low zero n (omega arith))
digits_of_same (suc f) (suc g) n hf hg = go (dec_lt n 10) (λ l. digits_of_same f g (n / 10) (omega arith) (omega arith))
  where
    go : Dec (n < 10) → (10 ≤ n → digits_of f (n / 10) ≡ digits_of g (n / 10)) → digits_of (suc f) n ≡ digits_of (suc g) n
    go (yes l) tenth = digits_of_low (suc f) n l ∙ sym (digits_of_low (suc g) n l)
    go (no l) tenth =
        digits_of_high f n (omega arith) ∙ ap (λ ds. ds ++ (digit (n % 10) ∷ [])) (tenth (omega arith)) ∙ sym (digits_of_high g n (omega arith))

pub decimal_low : (n : ℕ) → n < 10 → decimal n ≡ digit n ∷ []
unfolding decimal
decimal_low n h = digits_of_low n n h

pub decimal_high : (n : ℕ) → 10 ≤ n → decimal n ≡ decimal (n / 10) ++ (digit (n % 10) ∷ [])
unfolding decimal
decimal_high zero h = absurd (omega arith)
decimal_high (suc m) h =
    digits_of_high m (suc m) h ∙ ap (λ ds. ds ++ (digit (suc m % 10) ∷ [])) (digits_of_same m (suc m / 10) (suc m / 10) (omega arith) (omega arith))

-- ---- how long

-- a number below 10 ^ m has at most m digits, where m is at least 1
digits_of_length : (m f n : ℕ) → n < 10 ^ suc m → length (digits_of f n) ≤ suc m
unfolding digits_of
digits_of_length m zero n h = omega arith
digits_of_length zero (suc f) n h = rw (digits_of_low (suc f) n (omega arith)) (omega arith)
digits_of_length (suc m) (suc f) n h = go (dec_lt n 10) (digits_of_length m f (n / 10) (omega (arith, pow-suc 10 (suc m))))
  where
    go : Dec (n < 10) → length (digits_of f (n / 10)) ≤ suc m → length (digits_of (suc f) n) ≤ suc (suc m)
    go (yes l) tenth = rw (digits_of_low (suc f) n l) (omega arith)
    go (no l) tenth = rw (digits_of_high f n (omega arith), length-append) (omega arith)

pub decimal_length : (n : ℕ) → n < 2 ^ 64 → length (decimal n) ≤ 20
unfolding decimal
decimal_length n h = digits_of_length 19 n n (omega arith)

-- the digits of a tenth are one fewer
pub decimal_high_length : (n : ℕ) → 10 ≤ n → length (decimal n) ≡ length (decimal (n / 10)) + 1
decimal_high_length n h = rw (decimal_high n h, length-append)

-- a smaller number has no more digits
digits_of_le : (f m n : ℕ) → m ≤ n → length (digits_of f m) ≤ length (digits_of f n)
unfolding digits_of
digits_of_le zero m n h = omega arith
digits_of_le (suc f) m n h = go (dec_lt m 10) (dec_lt n 10) (digits_of_le f (m / 10) (n / 10) (omega arith))
  where
    go : Dec (m < 10) → Dec (n < 10) → length (digits_of f (m / 10)) ≤ length (digits_of f (n / 10)) → length (digits_of (suc f) m) ≤ length (digits_of (suc f) n)
    go (yes l) (yes k) tenths = rw (digits_of_low (suc f) m l, digits_of_low (suc f) n k) (omega arith)
    go (yes l) (no k) tenths = rw (digits_of_low (suc f) m l, digits_of_high f n (omega arith), length-append) (omega arith)
    go (no l) (yes k) tenths = absurd (omega arith)
    go (no l) (no k) tenths = rw (digits_of_high f m (omega arith), digits_of_high f n (omega arith)) (simp length-append (omega arith))

pub decimal_length_le : (m n : ℕ) → m ≤ n → length (decimal m) ≤ length (decimal n)
unfolding decimal
decimal_length_le m n h = rw (digits_of_same m n m (omega arith) h) (digits_of_le n m n h)

pub decimal_fits : (at k m n : ℕ) → m ≤ n → at + length (decimal n) ≤ k → at + length (decimal m) ≤ k
decimal_fits at k m n h r = omega (arith, decimal_length_le m n h)
