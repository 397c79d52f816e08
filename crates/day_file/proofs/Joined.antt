-- Laws of bytes one after the other: how many there are, one more, and where those of each stand. Assumes nothing.
use mathlib.Core.Path.{◌≡◌, refl, sym, ap, ◌∙◌}
use mathlib.Core.List.{List, [], ◌∷◌, ◌++◌, append_assoc, append-nil}
use Prim.Native.Nat.{ℕ, zero, suc, ◌+◌, ◌*◌, ◌<◌}
use native.Mathlib.Nat.{add-zero}
use native.Mathlib.Numerals.{add-one}
use native.Mathlib.Omega.{arith}
use lib.ListN.{length, get_or, length-append, get_or-append}
use lib.Seq.{get_or-append-add}
use Rattle.loops.specs.Fill.{from}
use Rattle.loops.specs.Total.{total}
use Rattle.loops.proofs.Fill.{from_more}
use Rattle.day_file.specs.Bytes.{high_first, number_bytes, joined, counted}

-- so many bytes were asked for, so many there are
pub length_high_first : (b n : ℕ) → length (high_first b n) ≡ b
unfolding high_first
length_high_first zero n = refl
length_high_first (suc b) n = ap suc (length_high_first b n)

module _ {A : Type 0} (bytes : A → List ℕ) where
  -- a count of two bytes, and then each
  pub length_counted : (xs : List A) → length (counted bytes xs) ≡ 2 + length (joined bytes xs)
  length_counted xs = omega (arith, length-append (number_bytes (length xs)) (joined bytes xs), length_high_first 2 (length xs))

  pub joined_append : (xs ys : List A) → joined bytes (xs ++ ys) ≡ joined bytes xs ++ joined bytes ys
  unfolding joined
  joined_append [] ys = refl
  joined_append (x ∷ xs) ys = rw (joined_append xs ys) (sym (append_assoc (bytes x) (joined bytes xs) (joined bytes ys)))

  -- ---- elements that are written from their numbers

  module _ (f : ℕ → A) (i : ℕ) where
    -- one more, as a loop that counts has it
    pub joined_more : (n : ℕ) → joined bytes (from f i (n + 1)) ≡ joined bytes (from f i n) ++ bytes (f (i + n))
    unfolding joined
    joined_more n =
        ap (joined bytes) (from_more f i n) ∙ joined_append (from f i n) (f (i + n) ∷ [])
        ∙ ap (λ l. joined bytes (from f i n) ++ l) (append-nil (bytes (f (i + n))))

    pub length_joined : (n : ℕ) → length (joined bytes (from f i n)) ≡ total (λ j. length (bytes (f (i + j)))) n
    unfolding joined total from
    length_joined zero = refl
    length_joined (suc n) =
        ap (λ m. length (joined bytes (from f i m))) (sym (add-one n))
        ∙ omega (arith, ap length (joined_more n), length-append (joined bytes (from f i n)) (bytes (f (i + n))), length_joined n)

  -- ---- elements that all have the same number of bytes

  module _ (z : ℕ) (long : (x : A) → length (bytes x) ≡ z) where
    pub length_joined_even : (xs : List A) → length (joined bytes xs) ≡ z * length xs
    unfolding joined
    length_joined_even [] = omega arith
    length_joined_even (x ∷ xs) = omega (arith, length-append (bytes x) (joined bytes xs), long x, length_joined_even xs)

    -- byte r of element q
    pub get_d_joined_even : (f : ℕ → A) (i n q r : ℕ) → q < n → r < z → get_or (joined bytes (from f i n)) (z * q + r) 0 ≡ get_or (bytes (f (i + q))) r 0
    unfolding joined from
    get_d_joined_even f i zero q r l u = absurd (omega arith)
    get_d_joined_even f i (suc n) zero r l u =
        let here : z * 0 + r ≡ r = omega arith in
        rw (here, add-zero i) (get_or-append (bytes (f i)) (joined bytes (from f (suc i) n)) 0 r (omega (arith, long (f i))))
    get_d_joined_even f i (suc n) (suc q) r l u =
        let there : z * suc q + r ≡ length (bytes (f i)) + (z * q + r) = omega (arith, long (f i)) in
        let number : i + suc q ≡ suc i + q = omega arith in
        rw (there, number)
        (get_or-append-add (bytes (f i)) (joined bytes (from f (suc i) n)) (z * q + r) 0 ∙ get_d_joined_even f (suc i) n q r (omega arith) u)
