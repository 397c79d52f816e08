-- The digits that are printed for a number are read as that number: each is a digit, and one digit more is ten times the value and the digit.
use mathlib.Core.Path.{◌≡◌, sym, ap, ◌∙◌}
use mathlib.Core.Bool.{true}
use mathlib.Core.List.{List, [], ◌∷◌, ◌++◌}
use Prim.Native.Nat.{ℕ, zero, suc, ◌+◌, ◌*◌, ◌/◌, ◌%◌, ◌^◌, ◌<◌, ◌≤◌}
use native.Mathlib.Numerals.{add-one}
use native.Mathlib.Decide.{dec_lt}
use native.Mathlib.Omega.{arith}
use lib.ListN.{length, get_or, length-append, get_or-append}
use lib.Seq.{get_or-append_seam}
use borrow.Author.Tests.{le-leb}
use Rattle.loops.proofs.Search.{→all}
use Rattle.text_bytes.specs.Bytes.{digit}
use Rattle.text_put.specs.Decimal.{decimal}
use Rattle.text_put.proofs.Decimals.{decimal_low, decimal_high, decimal_length}
use Rattle.std.proofs.Common.{Some}
use Rattle.line_number.specs.Numbers.{digits_most, is_digit, value_of, is_number, number_read}
use Rattle.line_number.proofs.Digits.{value_of_zero, value_of_more}

-- a word of digits, not empty, and its value
record ReadsBack (word : List ℕ) (n : ℕ) : Type 0 where
  some : 1 ≤ length word
  digits : (i : ℕ) → i < length word → is_digit (get_or word i 0) ≡ true
  value : value_of word (length word) ≡ n

digit_is_digit : (d : ℕ) → d < 10 → is_digit (digit d) ≡ true
digit_is_digit d h = simp (le-leb (digit 0) (digit d) (omega arith), le-leb (digit d) (digit 9) (omega arith))

-- the value of the first k digits is not changed by what follows them
value_of_before : (word more : List ℕ) (k : ℕ) → k ≤ length word → value_of (word ++ more) k ≡ value_of word k
value_of_before word more zero h = value_of_zero (word ++ more) ∙ sym (value_of_zero word)
value_of_before word more (suc k) h =
    rw (← add-one k, value_of_more (word ++ more) k, value_of_more word k, value_of_before word more k (omega arith), get_or-append word more 0 k (omega arith))

module _ (word : List ℕ) (d : ℕ) (h : d < 10) where
  last_digit : (i : ℕ) → ReadsBack word i → (j : ℕ) → j < length word + 1 → is_digit (get_or (word ++ digit d ∷ []) j 0) ≡ true
  last_digit i r j l = go (dec_lt j (length word))
    where
      go : Dec (j < length word) → is_digit (get_or (word ++ digit d ∷ []) j 0) ≡ true
      go (yes b) = rw (get_or-append word (digit d ∷ []) 0 j b) (r.digits j b)
      go (no b) = let e : j ≡ length word = omega arith in rw (e, get_or-append_seam word (digit d) [] 0) (digit_is_digit d h)

  reads_more : (m : ℕ) → ReadsBack word m → ReadsBack (word ++ digit d ∷ []) (m * 10 + d)
  reads_more m r =
      let n : length (word ++ digit d ∷ []) ≡ length word + 1 = length-append word (digit d ∷ []) in
      record {
        some = omega (arith, n);
        digits = rw n (last_digit m r);
        value =
            ap (value_of (word ++ digit d ∷ [])) n ∙ value_of_more (word ++ digit d ∷ []) (length word)
            ∙ rw (value_of_before word (digit d ∷ []) (length word) (omega arith), get_or-append_seam word (digit d) [] 0, r.value) (omega arith);
      }

reads_none : (d : ℕ) → d < 10 → ReadsBack (digit d ∷ []) d
reads_none d h =
    record {
      some = omega arith;
      digits = λ i l. let e : i ≡ 0 = omega arith in rw e (digit_is_digit d h);
      value = value_of_more (digit d ∷ []) 0 ∙ rw (value_of_zero (digit d ∷ [])) (omega arith);
    }

-- f bounds how often a tenth is taken
decimal_reads : (f n : ℕ) → n ≤ f → ReadsBack (decimal n) n
decimal_reads zero n h = rw (decimal_low n (omega arith)) (reads_none n (omega arith))
decimal_reads (suc f) n h = go (dec_lt n 10) (λ (l : 10 ≤ n). decimal_reads f (n / 10) (omega arith))
  where
    go : Dec (n < 10) → (10 ≤ n → ReadsBack (decimal (n / 10)) (n / 10)) → ReadsBack (decimal n) n
    go (yes l) tenth = rw (decimal_low n l) (reads_none n l)
    go (no l) tenth =
        let e : n / 10 * 10 + n % 10 ≡ n = omega arith in
        rw (decimal_high n (omega arith)) (rw e at (reads_more (decimal (n / 10)) (n % 10) (omega arith) (n / 10) (tenth (omega arith))))

-- a number printed reads back the same, wherever it is within the limit
pub decimal_read : (most n : ℕ) → n ≤ most → n < 2 ^ 64 → number_read most (decimal n) ≡ Some n
unfolding number_read is_number
decimal_read most n h w =
    let r = decimal_reads n n (omega arith) in
    let all_digits = →all (λ i. is_digit (get_or (decimal n) i 0)) (length (decimal n)) r.digits in
    simp (le-leb 1 (length (decimal n)) r.some, le-leb (length (decimal n)) digits_most (decimal_length n w), all_digits, r.value, le-leb n most h)
