-- Laws of a word read digit by digit: a value that is past the limit stays past it, so reading may stop there.
use mathlib.Core.Path.{◌≡◌, refl, sym, ap, ◌∙◌}
use mathlib.Core.Bool.{Bool, true, false, not, ◌&&◌, cond, and-false, and-true}
use mathlib.Core.List.{List, [], ◌∷◌}
use mathlib.Core.Logic.{◌⊎◌, ⊎_elim, inl, inr}
use Prim.Native.Nat.{ℕ, zero, suc, ◌+◌, ◌*◌, ◌-◌, ◌%◌, ◌<◌, ◌≤◌}
use native.Mathlib.Nat.{add-zero}
use native.Mathlib.Omega.{arith}
use lib.ListN.{length, get_or, take, drop}
use lib.Dec.{eqb, leb}
use borrow.Author.Tests.{eq-eqb, le-leb, lt-leb, leb-true, leb-false}
use Rattle.loops.specs.Search.{all}
use Rattle.loops.proofs.Bools.{and_right}
use Rattle.loops.proofs.Search.{Searched, search_start, search_miss, search_over, all_fails}
use Rattle.loops.proofs.Turns.{up_to_zero, up_to_more}
use Rattle.text_bytes.specs.Bytes.{digit, minus}
use Rattle.std.proofs.Common.{Option, Some, None}
use Rattle.std.specs.Cmp.Lexicographic.{pointwise}
use Rattle.line_number.specs.Numbers.{digits_most, is_digit, value_of, is_number, number_read, more_of, vote_most, minus_most, negated_of, vote_read}

-- ---- a digit more

module _ (most v b : ℕ) where
  -- a value with a digit more
  abbrev pub next : ℕ
  next = v * 10 + (b - digit 0)

  -- what the two tests say of a digit that is taken, and of one that is not
  pub record Taken (u : ℕ) : Type 0 where
    pub is_one : is_digit b ≡ true
    pub value : u ≡ next
    pub within : u ≤ most

  pub more_taken : (u : ℕ) → more_of most v b ≡ Some u → Taken u
  more_taken u e = go (is_digit b) (leb next most) refl refl e
    where
      go : (d l : Bool) → is_digit b ≡ d → leb next most ≡ l → cond (d && l) (Some next) None ≡ Some u → Taken u
      go true true p q e = let h : next ≡ u = cc in record { is_one = p; value = sym h; within = omega (arith, leb-true next most q) }
      go true false p q e = absurd (let z : ◌≡◌ {A = ℕ} 0 1 = cc in omega arith)
      go false l p q e = absurd (let z : ◌≡◌ {A = ℕ} 0 1 = cc in omega arith)

  pub more_refused : more_of most v b ≡ None → (is_digit b ≡ false) ⊎ (most < next)
  more_refused e = go (is_digit b) (leb next most) refl refl e
    where
      go : (d l : Bool) → is_digit b ≡ d → leb next most ≡ l → cond (d && l) (Some next) None ≡ None → (is_digit b ≡ false) ⊎ (most < next)
      go true true p q e = absurd (let z : ◌≡◌ {A = ℕ} 0 1 = cc in omega arith)
      go true false p q e = inr (leb-false next most q)
      go false l p q e = inl p

-- ---- the value of the first digits

pub value_of_zero : (word : List ℕ) → value_of word 0 ≡ 0
unfolding value_of
value_of_zero word = up_to_zero _ _

pub value_of_more : (word : List ℕ) (i : ℕ) → value_of word (i + 1) ≡ value_of word i * 10 + (get_or word i 0 - digit 0)
unfolding value_of
value_of_more word i = up_to_more _ _ _

value_of_grows : (word : List ℕ) (i k : ℕ) → value_of word i ≤ value_of word (i + k)
value_of_grows word i zero = rw add-zero (omega arith)
value_of_grows word i (suc k) =
    let e : i + suc k ≡ i + k + 1 = omega arith in
    rw (e, value_of_more word (i + k)) (omega (arith, value_of_grows word i k))

-- ---- the loop over the digits

-- the bytes before i are digits, with this value, within the limit
pub record Read (most : ℕ) (word : List ℕ) (i value : ℕ) : Type 0 where
  pub so_far : value ≡ value_of word i
  pub within : value ≤ most
  pub digits : Searched (λ j. not (is_digit (get_or word j 0))) (length word) i

pub read_start : (most : ℕ) (word : List ℕ) → Read most word 0 0
read_start most word = record { so_far = sym (value_of_zero word); within = omega arith; digits = search_start _ _ }

module _ {most : ℕ} {word : List ℕ} {i value : ℕ} (r : Read most word i value) where
  pub read_more : (u : ℕ) → i < length word → more_of most value (get_or word i 0) ≡ Some u → Read most word (i + 1) u
  read_more u h e =
      let t = more_taken most value (get_or word i 0) u e in
      record {
        so_far = rw (value_of_more word i, ← r.so_far) t.value;
        within = t.within;
        digits = search_miss _ _ _ r.digits h (ap not t.is_one);
      }

  -- past the limit with one digit more, past it with all
  past : i < length word → most < next most value (get_or word i 0) → most < value_of word (length word)
  past h q =
      let e : i + 1 + (length word - (i + 1)) ≡ length word = omega arith in
      let g : value_of word (i + 1) ≤ value_of word (length word) = rw (← e) (value_of_grows word (i + 1) (length word - (i + 1))) in
      omega (arith, value_of_more word i, r.so_far)

  pub read_refused : i < length word → more_of most value (get_or word i 0) ≡ None → number_read most word ≡ None
  unfolding number_read is_number
  read_refused h e =
      ⊎_elim
      (λ (q : is_digit (get_or word i 0) ≡ false). simp (all_fails (λ j. is_digit (get_or word j 0)) (length word) i h q, and-false))
      (λ (q : most < next most value (get_or word i 0)). simp (lt-leb (value_of word (length word)) most (past h q), and-false))
      (more_refused most value (get_or word i 0) e)

  pub read_over : i ≡ length word → 1 ≤ length word → length word ≤ digits_most → number_read most word ≡ Some value
  unfolding number_read is_number
  read_over e l m =
      let digits : all (λ j. is_digit (get_or word j 0)) (length word) ≡ true = eq-eqb _ _ (search_over _ _ _ r.digits (omega arith) ∙ e) in
      let v : value_of word (length word) ≡ value = ap (value_of word) (sym e) ∙ sym r.so_far in
      simp (le-leb 1 (length word) l, le-leb (length word) digits_most m, digits, v, le-leb value most r.within)

-- ---- words that are too short or too long

pub number_none : (most : ℕ) (word : List ℕ) → length word < 1 → number_read most word ≡ None
unfolding number_read is_number
number_none most word h = simp (lt-leb 1 (length word) h)

pub number_long : (most : ℕ) (word : List ℕ) → digits_most < length word → number_read most word ≡ None
unfolding number_read is_number
number_long most word h = simp (lt-leb (length word) digits_most h, and-false)

-- ---- the sign of a vote

-- whether a word begins with it
signed_is : (word : List ℕ) → pointwise eqb (take 1 word) (minus ∷ []) ≡ eqb (get_or word 0 0) minus
signed_is [] = refl
signed_is (b ∷ word) = and-true (eqb b minus)

pub vote_minus : (word rest : List ℕ) (n : Option ℕ) → pointwise eqb (take 1 word) (minus ∷ []) ≡ true → rest ≡ drop 1 word
    → n ≡ number_read minus_most rest → negated_of n ≡ vote_read word
unfolding vote_read
vote_minus word rest n e r q = rw (sym (signed_is word) ∙ e) (ap negated_of (q ∙ ap (number_read minus_most) r))

pub vote_plain : (word : List ℕ) → pointwise eqb (take 1 word) (minus ∷ []) ≡ false → number_read vote_most word ≡ vote_read word
unfolding vote_read
vote_plain word e = rw (sym (signed_is word) ∙ e)

-- ---- bounds

pub number_le : (most : ℕ) (word : List ℕ) (v : ℕ) → number_read most word ≡ Some v → v ≤ most
unfolding number_read is_number
number_le most word v e = go (is_number most word) refl e
  where
    go : (t : Bool) → is_number most word ≡ t → cond t (Some (value_of word (length word))) None ≡ Some v → v ≤ most
    go true q e =
        let h : value_of word (length word) ≡ v = cc in
        omega (arith, leb-true (value_of word (length word)) most (and_right (leb 1 (length word) && leb (length word) digits_most && all (λ i. is_digit (get_or word i 0)) (length word)) (leb (value_of word (length word)) most) q))
    go false q e = absurd (let z : ◌≡◌ {A = ℕ} 0 1 = cc in omega arith)
