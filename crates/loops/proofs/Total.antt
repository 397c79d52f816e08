-- Laws of sums, counts and the greatest: one turn more, bounds, and sums of equal or growing parts.
use mathlib.Core.Path.{◌≡◌, refl, sym, ap, ap₂, ◌∙◌}
use mathlib.Core.Bool.{Bool, true, false, not, ◌||◌, or-false}
use mathlib.Core.Logic.{◌≢◌, ◌⊎◌, inl, inr, ⊎_elim}
use Prim.Native.Nat.{ℕ, zero, suc, ◌+◌, max, ◌<◌, ◌≤◌}
use native.Mathlib.Numerals.{add-one}
use native.Mathlib.Nat.{add-zero, eq-or-lt_of_le, le_of_suc-le-suc}
use native.Mathlib.Decide.{dec_lt, ℕ_discrete}
use native.Mathlib.Omega.{arith}
use lib.Dec.{ltb, eqb}
use borrow.Author.Tests.{lt-ltb, eq-eqb, ne_eqb, not-true}
use Rattle.loops.specs.Search.{first, all}
use Rattle.loops.specs.Total.{bit, total, count, greatest}
use Rattle.loops.proofs.Search.{first_unique, all→, any→, not_all}

-- ---- bits

pub bit_le : (b : Bool) → bit b ≤ 1
bit_le true = omega arith
bit_le false = omega arith

-- ---- one turn more, as a loop that counts has it

pub total_zero : (f : ℕ → ℕ) → total f 0 ≡ 0
unfolding total
total_zero f = refl

pub total_suc : (f : ℕ → ℕ) (n : ℕ) → total f (suc n) ≡ total f n + f n
unfolding total
total_suc f n = refl

pub total_more : (f : ℕ → ℕ) (n : ℕ) → total f (n + 1) ≡ total f n + f n
unfolding total
total_more f n = rw add-one

pub greatest_zero : (f : ℕ → ℕ) → greatest f 0 ≡ 0
unfolding greatest
greatest_zero f = refl

-- ---- sums

-- equal parts, equal sums
pub total_same : (f g : ℕ → ℕ) (n : ℕ) → ((i : ℕ) → i < n → f i ≡ g i) → total f n ≡ total g n
unfolding total
total_same f g zero h = refl
total_same f g (suc n) h = ap₂ ◌+◌ (total_same f g n (λ i l. h i (omega arith))) (h n (omega arith))

-- the sum of two sums
pub total_plus : (f g : ℕ → ℕ) (n : ℕ) → total (λ i. f i + g i) n ≡ total f n + total g n
unfolding total
total_plus f g zero = refl
total_plus f g (suc n) = omega (arith, total_plus f g n)

-- a sum of zeros
pub total_zeros : (f : ℕ → ℕ) (n : ℕ) → ((i : ℕ) → i < n → f i ≡ 0) → total f n ≡ 0
unfolding total
total_zeros f zero h = refl
total_zeros f (suc n) h = omega (arith, total_zeros f n (λ i l. h i (omega arith)), h n (omega arith))

-- smaller parts, smaller sum
pub total_le : (f g : ℕ → ℕ) (n : ℕ) → ((i : ℕ) → i < n → f i ≤ g i) → total f n ≤ total g n
unfolding total
total_le f g zero h = omega arith
total_le f g (suc n) h = omega (arith, total_le f g n (λ i l. h i (omega arith)), h n (omega arith))

-- a sum so far, with its next number, is no more than the whole
pub total_within : (f : ℕ → ℕ) (n j : ℕ) → j < n → total f j + f j ≤ total f n
unfolding total
total_within f zero j l = absurd (omega arith)
total_within f (suc n) j l =
    ⊎_elim
    (λ (q : j ≡ n). rw q (omega arith))
    (λ (q : j < n). omega (arith, total_within f n j q))
    (eq-or-lt_of_le (le_of_suc-le-suc l))

-- the parts below m, and then k more
pub total_split : (f : ℕ → ℕ) (m k : ℕ) → total f (m + k) ≡ total f m + total (λ i. f (m + i)) k
unfolding total
total_split f m zero = ap (total f) (add-zero m) ∙ sym (add-zero (total f m))
total_split f m (suc k) = let e : m + suc k ≡ suc (m + k) = omega arith in ap (total f) e ∙ omega (arith, total_split f m k)

-- parts past m that are 0 add nothing
pub total_cut : (f : ℕ → ℕ) (m k : ℕ) → ((i : ℕ) → m ≤ i → i < m + k → f i ≡ 0) → total f (m + k) ≡ total f m
unfolding total
total_cut f m zero h = ap (total f) (add-zero m)
total_cut f m (suc k) h =
    let e : m + suc k ≡ suc (m + k) = omega arith in
    ap (total f) e ∙ omega (arith, total_cut f m k (λ i l u. h i l (omega arith)), h (m + k) (omega arith) (omega arith))

-- one part that differs
pub total_other : (f g : ℕ → ℕ) (n j d : ℕ) → j < n → g j ≡ f j + d → ((i : ℕ) → i < n → i ≢ j → g i ≡ f i) → total g n ≡ total f n + d
unfolding total
total_other f g zero j d l e h = absurd (omega arith)
total_other f g (suc n) j d l e h =
    ⊎_elim
    (λ (q : j ≡ n). omega (arith, total_same g f n (λ i u. h i (omega arith) (λ r. omega arith)), ap f q, ap g q))
    (λ (q : j < n). omega (arith, total_other f g n j d q e (λ i u. h i (omega arith)), h n (omega arith) (λ r. omega arith)))
    (eq-or-lt_of_le (le_of_suc-le-suc l))

-- ---- counts

pub count_le : (p : ℕ → Bool) (n : ℕ) → count p n ≤ n
unfolding total
count_le p zero = omega arith
count_le p (suc n) = omega (arith, count_le p n, bit_le (p n))

-- one that passes is counted
pub count_some : (p : ℕ → Bool) (n j : ℕ) → j < n → p j ≡ true → 1 ≤ count p n
unfolding total
count_some p zero j l t = absurd (omega arith)
count_some p (suc n) j l t =
    ⊎_elim
    (λ (q : j ≡ n). let e : bit (p n) ≡ 1 = ap bit (ap p (sym q) ∙ t) in omega arith)
    (λ (q : j < n). omega (arith, count_some p n j q t))
    (eq-or-lt_of_le (le_of_suc-le-suc l))

-- one that fails is missing
pub count_lt : (p : ℕ → Bool) (n j : ℕ) → j < n → p j ≡ false → count p n < n
unfolding total
count_lt p zero j l t = absurd (omega arith)
count_lt p (suc n) j l t =
    ⊎_elim
    (λ (q : j ≡ n). let e : bit (p n) ≡ 0 = ap bit (ap p (sym q) ∙ t) in omega (arith, count_le p n))
    (λ (q : j < n). omega (arith, count_lt p n j q t, bit_le (p n)))
    (eq-or-lt_of_le (le_of_suc-le-suc l))

-- all are counted exactly if all pass
pub count_all : (p : ℕ → Bool) (n : ℕ) → eqb (count p n) n ≡ all p n
unfolding total
count_all p n = go (all p n) refl
  where
    ones : (k : ℕ) → total (λ i. 1) k ≡ k
    ones zero = refl
    ones (suc k) = omega (arith, ones k)

    go : (t : Bool) → all p n ≡ t → eqb (count p n) n ≡ t
    go true e = eq-eqb _ n (total_same (λ i. bit (p i)) (λ i. 1) n (λ i l. ap bit (all→ p n e i l)) ∙ ones n)
    go false e =
        let f = any→ (λ i. not (p i)) n (not_all p n ∙ ap not e) in
        ne_eqb (count p n) n (λ q. omega (arith, count_lt p n f.0 f.1 (not-true (p f.0) f.2)))

-- none passes
pub count_none : (p : ℕ → Bool) (n : ℕ) → ((i : ℕ) → i < n → p i ≡ false) → count p n ≡ 0
count_none p n h = total_zeros (λ i. bit (p i)) n (λ i l. ap bit (h i l))

-- a count of one: two that pass are the same
pub count_one : (p : ℕ → Bool) (n i j : ℕ) → count p n ≡ 1 → i < n → j < n → p i ≡ true → p j ≡ true → i ≡ j
unfolding total
count_one p zero i j e li lj ti tj = absurd (omega arith)
count_one p (suc n) i j e li lj ti tj =
    ⊎_elim
    (λ (qi : i ≡ n).
    ⊎_elim
    (λ (qj : j ≡ n). omega arith)
    (λ (qj : j < n). let b : bit (p n) ≡ 1 = ap bit (ap p (sym qi) ∙ ti) in absurd (omega (arith, count_some p n j qj tj)))
    (eq-or-lt_of_le (le_of_suc-le-suc lj)))
    (λ (qi : i < n).
    ⊎_elim
    (λ (qj : j ≡ n). let b : bit (p n) ≡ 1 = ap bit (ap p (sym qj) ∙ tj) in absurd (omega (arith, count_some p n i qi ti)))
    (λ (qj : j < n). count_one p n i j (omega (arith, count_some p n i qi ti)) qi qj ti tj)
    (eq-or-lt_of_le (le_of_suc-le-suc lj)))
    (eq-or-lt_of_le (le_of_suc-le-suc li))

-- two that fail are missing
pub count_lt_two : (p : ℕ → Bool) (n i j : ℕ) → i < n → j < n → i ≢ j → p i ≡ false → p j ≡ false → suc (count p n) < n
count_lt_two p n i j li lj d fi fj =
    let q : ℕ → Bool = λ k. p k || eqb k i in
    let more : count q n ≡ count p n + 1 =
    total_other (λ k. bit (p k)) (λ k. bit (q k)) n i 1 li (rw (fi, eq-eqb i i refl)) (λ k l e. rw (ne_eqb k i e, or-false)) in
    omega (arith, count_lt q n j lj (rw (fj, ne_eqb j i (λ e. d (sym e)))))

-- ---- numbers that have a value: no fewer than the values

-- x is one of 1 to m at most once, and then it is above 0
value_once : (x m : ℕ) → count (λ o. eqb x (suc o)) m ≤ bit (ltb 0 x)
unfolding total
value_once x zero = omega arith
value_once x (suc m) = go (ℕ_discrete x (suc m)) (value_once x m)
  where
    go : Dec (x ≡ suc m) → count (λ o. eqb x (suc o)) m ≤ bit (ltb 0 x) → count (λ o. eqb x (suc o)) m + bit (eqb x (suc m)) ≤ bit (ltb 0 x)
    go (yes e) h =
        rw (lt-ltb 0 x (omega arith))
        (omega (arith, count_none (λ o. eqb x (suc o)) m (λ o l. ne_eqb x (suc o) (λ q. omega arith)), bit_le (eqb x (suc m))))
    go (no d) h = rw (ne_eqb x (suc m) d, add-zero) h

values_total : (f : ℕ → ℕ) (n m : ℕ) → ((o : ℕ) → o < m → (i : ℕ) × (i < n) × (f i ≡ suc o)) → m ≤ total (λ i. count (λ o. eqb (f i) (suc o)) m) n
values_total f n zero h = omega arith
values_total f n (suc m) h =
    let had = h m (omega arith) in
    omega (
      arith,
      values_total f n m (λ o l. h o (omega arith)),
      total_same (λ i. count (λ o. eqb (f i) (suc o)) (suc m)) (λ i. count (λ o. eqb (f i) (suc o)) m + bit (eqb (f i) (suc m))) n (λ i l. total_suc (λ o. bit (eqb (f i) (suc o))) m),
      total_plus (λ i. count (λ o. eqb (f i) (suc o)) m) (λ i. bit (eqb (f i) (suc m))) n,
      count_some (λ i. eqb (f i) (suc m)) n had.0 had.1 (eq-eqb (f had.0) (suc m) had.2),
    )

-- where each of 1 to m is the value of a number below n, at least m of these have a value above 0
pub count_values : (f : ℕ → ℕ) (n m : ℕ) → ((o : ℕ) → o < m → (i : ℕ) × (i < n) × (f i ≡ suc o)) → m ≤ count (λ i. ltb 0 (f i)) n
count_values f n m h =
    omega (
      arith,
      values_total f n m h,
      total_le (λ i. count (λ o. eqb (f i) (suc o)) m) (λ i. bit (ltb 0 (f i))) n (λ i l. value_once (f i) m),
    )

-- so distinct values below m are no more than m
pub distinct_most : (f : ℕ → ℕ) (n m : ℕ) → ((i : ℕ) → i < n → f i < m) → ((i j : ℕ) → i < j → j < n → f i ≢ f j) → n ≤ m
distinct_most f n m below differ =
    -- one more than the number that has the value
    let g : ℕ → ℕ = λ v. suc (first (λ i. eqb (f i) v) n) in
    omega (
      arith,
      count_values g m n (λ i u. (f i, below i u, ap suc (first_unique (λ j. eqb (f j) (f i)) n i u (eq-eqb (f i) (f i) refl) (λ j l. ne_eqb (f j) (f i) (differ j i l u))))),
      count_le (λ v. ltb 0 (g v)) m,
    )

-- ---- the greatest

pub greatest_le : (f : ℕ → ℕ) (n m : ℕ) → ((i : ℕ) → i < n → f i ≤ m) → greatest f n ≤ m
unfolding greatest
greatest_le f zero m h = omega arith
greatest_le f (suc n) m h = omega (arith, greatest_le f n m (λ i l. h i (omega arith)), h n (omega arith))

pub greatest_above : (f : ℕ → ℕ) (n i : ℕ) → i < n → f i ≤ greatest f n
unfolding greatest
greatest_above f zero i l = absurd (omega arith)
greatest_above f (suc n) i l =
    ⊎_elim
    (λ (q : i ≡ n). let e : f i ≡ f n = ap f q in omega arith)
    (λ (q : i < n). omega (arith, greatest_above f n i q))
    (eq-or-lt_of_le (le_of_suc-le-suc l))

-- the greatest is 0 or one of the parts
pub greatest_held : (f : ℕ → ℕ) (n : ℕ) → (greatest f n ≡ 0) ⊎ ((i : ℕ) × (i < n) × (f i ≡ greatest f n))
unfolding greatest
greatest_held f zero = inl refl
greatest_held f (suc n) = go (dec_lt (greatest f n) (f n)) (greatest_held f n)
  where
    go : Dec (greatest f n < f n) → (greatest f n ≡ 0) ⊎ ((i : ℕ) × (i < n) × (f i ≡ greatest f n))
        → (max (greatest f n) (f n) ≡ 0) ⊎ ((i : ℕ) × (i < suc n) × (f i ≡ max (greatest f n) (f n)))
    go (yes h) u = inr (n, omega arith, omega arith)
    go (no h) (inl e) = inl (omega arith)
    go (no h) (inr u) = inr (u.0, omega (arith, u.1), omega (arith, u.2))
