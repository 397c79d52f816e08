-- Laws of a search that counts up: what is left to search at i, that what is found is the first, and what `all` and `any` say.
use mathlib.Core.Path.{◌≡◌, refl, sym, ap, ◌∙◌}
use mathlib.Core.Bool.{Bool, true, false, not, ◌&&◌, ◌||◌, true≢false, false≢true}
use mathlib.Core.Logic.{⊎_elim}
use Prim.Native.Nat.{ℕ, zero, suc, ◌+◌, ◌-◌, ◌<◌, ◌≤◌}
use native.Mathlib.Numerals.{add-one}
use native.Mathlib.Nat.{sub-zero, eq-or-lt_of_le, le_of_suc-le-suc}
use native.Mathlib.Decide.{dec_lt}
use native.Mathlib.Omega.{arith}
use lib.Dec.{eqb, ltb}
use borrow.Author.Tests.{eqb-true, eq-eqb, ne_eqb, ltb-true, lt-ltb, le-ltb, ltb-false, not-true, not-false}
use Rattle.std.specs.Prelude.{Some, None}
use Rattle.loops.specs.Search.{first_from, first, all, any, found_below}
use Rattle.loops.proofs.Bools.{and_left, and_right, and_both, refuted}

-- ---- one step, as a loop that counts has it

sub_more : (n i : ℕ) → i < n → n - i ≡ suc (n - (i + 1))
sub_more n i h = omega arith

first_here : (p : ℕ → Bool) (n i : ℕ) → i < n → p i ≡ true → first_from p i (n - i) ≡ i
unfolding first_from
first_here p n i h t = rw (sub_more n i h, first_from, t)

first_next : (p : ℕ → Bool) (n i : ℕ) → i < n → p i ≡ false → first_from p i (n - i) ≡ first_from p (i + 1) (n - (i + 1))
unfolding first_from
first_next p n i h t = rw (sub_more n i h, first_from, t, add-one)

first_end : (p : ℕ → Bool) (n i : ℕ) → n ≤ i → first_from p i (n - i) ≡ i
unfolding first_from
first_end p n i h = let e : n - i ≡ 0 = omega arith in rw e

-- ---- the invariant of every search: the search of all n is what is left to search from i on

unfoldable pub Searched : (ℕ → Bool) → ℕ → ℕ → Type 0
Searched p n i = first_from p 0 n ≡ first_from p i (n - i)

pub search_start : (p : ℕ → Bool) (n : ℕ) → Searched p n 0
unfolding Searched
search_start p n = rw sub-zero

module _ (p : ℕ → Bool) (n i : ℕ) (s : Searched p n i) where
  pub search_hit : i < n → p i ≡ true → first p n ≡ i
  unfolding Searched
  search_hit h t = s ∙ first_here p n i h t

  pub search_miss : i < n → p i ≡ false → Searched p n (i + 1)
  unfolding Searched
  search_miss h t = s ∙ first_next p n i h t

  pub search_over : n ≤ i → first p n ≡ i
  unfolding Searched
  search_over h = s ∙ first_end p n i h

-- ---- what is found

first_from_le : (p : ℕ → Bool) (i k : ℕ) → (i ≤ first_from p i k) × (first_from p i k ≤ i + k)
unfolding first_from
first_from_le p i zero = omega arith
first_from_le p i (suc k) = go (p i) (first_from_le p (suc i) k)
  where
    go : (b : Bool) → (suc i ≤ first_from p (suc i) k) × (first_from p (suc i) k ≤ suc i + k)
        → (i ≤ (elim b [ true ↦ i | false ↦ first_from p (suc i) k ])) × ((elim b [ true ↦ i | false ↦ first_from p (suc i) k ]) ≤ i + suc k)
    go true h = omega arith
    go false h = omega arith

-- a search that finds one below the end passes there
first_from_hit : (p : ℕ → Bool) (i k : ℕ) → first_from p i k < i + k → p (first_from p i k) ≡ true
unfolding first_from
first_from_hit p i zero h = absurd (omega arith)
first_from_hit p i (suc k) h = go (p i) refl h (first_from_hit p (suc i) k)
  where
    go : (b : Bool) → p i ≡ b → (elim b [ true ↦ i | false ↦ first_from p (suc i) k ]) < i + suc k
        → (first_from p (suc i) k < suc i + k → p (first_from p (suc i) k) ≡ true)
        → p (elim b [ true ↦ i | false ↦ first_from p (suc i) k ]) ≡ true
    go true q u ih = q
    go false q u ih = ih (omega arith)

-- and fails at every number before
first_from_before : (p : ℕ → Bool) (i k j : ℕ) → i ≤ j → j < first_from p i k → p j ≡ false
unfolding first_from
first_from_before p i zero j l h = absurd (omega arith)
first_from_before p i (suc k) j l h = go (p i) refl h (first_from_before p (suc i) k j)
  where
    go : (b : Bool) → p i ≡ b → j < (elim b [ true ↦ i | false ↦ first_from p (suc i) k ])
        → (suc i ≤ j → j < first_from p (suc i) k → p j ≡ false) → p j ≡ false
    go true q u ih = absurd (omega arith)
    go false q u ih = ⊎_elim (λ e. ap p (sym e) ∙ q) (λ r. ih r u) (eq-or-lt_of_le l)

pub first_le : (p : ℕ → Bool) (n : ℕ) → first p n ≤ n
first_le p n = omega (arith, (first_from_le p 0 n).1)

pub first_hit : (p : ℕ → Bool) (n : ℕ) → first p n < n → p (first p n) ≡ true
first_hit p n h = first_from_hit p 0 n (omega arith)

pub first_before : (p : ℕ → Bool) (n j : ℕ) → j < first p n → p j ≡ false
first_before p n j h = first_from_before p 0 n j (omega arith) h

-- where one below n passes, the first is not past it
pub first_reaches : (p : ℕ → Bool) (n j : ℕ) → p j ≡ true → first p n ≤ j
first_reaches p n j t = go (dec_lt j (first p n))
  where
    go : Dec (j < first p n) → first p n ≤ j
    go (yes h) = absurd (true≢false (sym t ∙ first_before p n j h))
    go (no h) = omega arith

-- the first is the one that passes after those that fail
pub first_unique : (p : ℕ → Bool) (n i : ℕ) → i < n → p i ≡ true → ((j : ℕ) → j < i → p j ≡ false) → first p n ≡ i
first_unique p n i h t before = go (dec_lt (first p n) i)
  where
    go : Dec (first p n < i) → first p n ≡ i
    go (yes l) = absurd (true≢false (sym (first_hit p n (omega arith)) ∙ before (first p n) l))
    go (no l) = omega (arith, first_reaches p n i t)

-- tests that agree find the same
pub first_from_same : (p q : ℕ → Bool) (i k : ℕ) → ((j : ℕ) → i ≤ j → j < i + k → p j ≡ q j) → first_from p i k ≡ first_from q i k
unfolding first_from
first_from_same p q i zero h = refl
first_from_same p q i (suc k) h =
    go (p i) (q i) (h i (omega arith) (omega arith)) (first_from_same p q (suc i) k (λ j l u. h j (omega arith) (omega arith)))
  where
    go : (a b : Bool) {x y : ℕ} → a ≡ b → x ≡ y → ◌≡◌ {A = ℕ} (elim a [ true ↦ i | false ↦ x ]) (elim b [ true ↦ i | false ↦ y ])
    go true true e r = refl
    go true false e r = absurd (true≢false e)
    go false true e r = absurd (false≢true e)
    go false false e r = r

-- ---- all, any

pub all→ : (p : ℕ → Bool) (n : ℕ) → all p n ≡ true → (j : ℕ) → j < n → p j ≡ true
all→ p n e j h = not-false (p j) (first_before (λ i. not (p i)) n j (omega (arith, eqb-true (first (λ i. not (p i)) n) n e)))

pub →all : (p : ℕ → Bool) (n : ℕ) → ((j : ℕ) → j < n → p j ≡ true) → all p n ≡ true
→all p n h = eq-eqb _ _ (go (dec_lt (first (λ i. not (p i)) n) n))
  where
    go : Dec (first (λ i. not (p i)) n < n) → first (λ i. not (p i)) n ≡ n
    go (yes l) = absurd (true≢false (sym (h _ l) ∙ not-true _ (first_hit (λ i. not (p i)) n l)))
    go (no l) = omega (arith, first_le (λ i. not (p i)) n)

-- one that fails is enough
pub all_fails : (p : ℕ → Bool) (n j : ℕ) → j < n → p j ≡ false → all p n ≡ false
all_fails p n j h f =
    ne_eqb (first (λ i. not (p i)) n) n (λ e. omega (arith, first_reaches (λ i. not (p i)) n j (ap not f)))

pub any→ : (p : ℕ → Bool) (n : ℕ) → any p n ≡ true → (j : ℕ) × (j < n) × (p j ≡ true)
any→ p n e = (first p n, ltb-true _ _ e, first_hit p n (ltb-true _ _ e))

pub →any : (p : ℕ → Bool) (n j : ℕ) → j < n → p j ≡ true → any p n ≡ true
→any p n j h t = lt-ltb (first p n) n (omega (arith, first_reaches p n j t))

pub none→ : (p : ℕ → Bool) (n : ℕ) → any p n ≡ false → (j : ℕ) → j < n → p j ≡ false
none→ p n e j h = first_before p n j (omega (arith, ltb-false (first p n) n e))

pub →none : (p : ℕ → Bool) (n : ℕ) → ((j : ℕ) → j < n → p j ≡ false) → any p n ≡ false
→none p n h = go (dec_lt (first p n) n)
  where
    go : Dec (first p n < n) → any p n ≡ false
    go (yes l) = absurd (true≢false (sym (first_hit p n l) ∙ h _ l))
    go (no l) = le-ltb (first p n) n (omega arith)

not_not : (b : Bool) → not (not b) ≡ b
not_not true = refl
not_not false = refl

-- not all pass exactly if some fails
pub not_all : (p : ℕ → Bool) (n : ℕ) → any (λ i. not (p i)) n ≡ not (all p n)
not_all p n = go (dec_lt (first (λ i. not (p i)) n) n)
  where
    go : Dec (first (λ i. not (p i)) n < n) → any (λ i. not (p i)) n ≡ not (all p n)
    go (yes l) = lt-ltb (first (λ i. not (p i)) n) n l ∙ sym (ap not (ne_eqb (first (λ i. not (p i)) n) n (λ e. omega arith)))
    go (no l) =
        le-ltb (first (λ i. not (p i)) n) n (omega arith)
        ∙ sym (ap not (eq-eqb (first (λ i. not (p i)) n) n (omega (arith, first_le (λ i. not (p i)) n))))

-- and all pass exactly if none fails
pub none_fails : (p : ℕ → Bool) (n : ℕ) → not (any (λ i. not (p i)) n) ≡ all p n
none_fails p n = ap not (not_all p n) ∙ not_not (all p n)

-- ---- over one number more, and tests that agree

pub any_none : (p : ℕ → Bool) → any p 0 ≡ false
unfolding first_from
any_none p = refl

pub any_suc : (p : ℕ → Bool) (n : ℕ) → any p (suc n) ≡ any p n || p n
any_suc p n = go (any p n) refl
  where
    last : (t : Bool) → p n ≡ t → any p n ≡ false → any p (suc n) ≡ t
    last true e none = →any p (suc n) n (omega arith) e
    last false e none =
        →none p (suc n) (λ j h. ⊎_elim (λ (q : j ≡ n). ap p q ∙ e) (λ (q : j < n). none→ p n none j q) (eq-or-lt_of_le (le_of_suc-le-suc h)))

    go : (t : Bool) → any p n ≡ t → any p (suc n) ≡ t || p n
    go true e = let f = any→ p n e in →any p (suc n) f.0 (omega (arith, f.1)) f.2
    go false e = last (p n) refl e

-- tests that agree below n all pass alike
pub all_same : (p q : ℕ → Bool) (n : ℕ) → ((j : ℕ) → j < n → p j ≡ q j) → all p n ≡ all q n
all_same p q n h =
    ap (λ (k : ℕ). eqb k n) (first_from_same (λ j. not (p j)) (λ j. not (q j)) 0 n (λ j l u. ap not (h j (omega arith))))

-- and some passes alike
pub any_same : (p q : ℕ → Bool) (n : ℕ) → ((j : ℕ) → j < n → p j ≡ q j) → any p n ≡ any q n
any_same p q n h = ap (λ (k : ℕ). ltb k n) (first_from_same p q 0 n (λ j l u. h j (omega arith)))

-- each passes one test and fails another exactly if all pass the one and none passes the other
pub all_but : (p q : ℕ → Bool) (n : ℕ) → all (λ a. p a && not (q a)) n ≡ all p n && not (any q n)
all_but p q n = go (all p n) (any q n) refl refl
  where
    both : ℕ → Bool
    both a = p a && not (q a)

    go : (s t : Bool) → all p n ≡ s → any q n ≡ t → all both n ≡ s && not t
    go true false e f = →all both n (λ a u. and_both (p a) (not (q a)) (all→ p n e a u) (ap not (none→ q n f a u)))
    go true true e f =
        let hit = any→ q n f in
        refuted (all both n) (λ g. true≢false (sym (and_right (p hit.0) (not (q hit.0)) (all→ both n g hit.0 hit.1)) ∙ ap not hit.2))
    go false t e f = refuted (all both n) (λ g. true≢false (sym (→all p n (λ a u. and_left (p a) (not (q a)) (all→ both n g a u))) ∙ e))

-- a search ends at m where every number below m fails, and m passes unless it is the end
pub first_ends : (p : ℕ → Bool) (n m : ℕ) → m ≤ n → ((j : ℕ) → j < m → p j ≡ false) → (m < n → p m ≡ true) → first p n ≡ m
first_ends p n m l before hit = go (dec_lt m n)
  where
    go : Dec (m < n) → first p n ≡ m
    go (yes u) = first_unique p n m u (hit u) before
    go (no u) = omega (arith, first_le p n, ltb-false (first p n) n (→none p n (λ j h. before j (omega arith))))

-- ---- what was found below a limit

pub found_some : (limit k : ℕ) → k < limit → found_below limit k ≡ Some k
found_some limit k l = rw (lt-ltb k limit l)

pub found_none : (limit k : ℕ) → limit ≤ k → found_below limit k ≡ None
found_none limit k l = rw (le-ltb k limit l)

pub found_some→ : (limit k i : ℕ) → Some i ≡ found_below limit k → (i ≡ k) × (k < limit)
found_some→ limit k i e = go (dec_lt k limit)
  where
    go : Dec (k < limit) → (i ≡ k) × (k < limit)
    go (yes l) = let q : Some i ≡ Some k = e ∙ found_some limit k l in (cc, l)
    go (no l) = let q : Some i ≡ None = e ∙ found_none limit k (omega arith) in cc

pub found_none→ : (limit k : ℕ) → None ≡ found_below limit k → limit ≤ k
found_none→ limit k e = go (dec_lt k limit)
  where
    go : Dec (k < limit) → limit ≤ k
    go (yes l) = let q : None ≡ Some k = e ∙ found_some limit k l in cc
    go (no l) = omega arith

-- where p fails below a and from m on, a search by it for all n is one from a to m, by a test that agrees with it there
pub found_between : (p q : ℕ → Bool) (a m n : ℕ) → a ≤ m → m ≤ n → ((j : ℕ) → j < a → p j ≡ false) → ((j : ℕ) → a ≤ j → j < m → q j ≡ p j)
    → ((j : ℕ) → m ≤ j → j < n → p j ≡ false) → found_below m (first_from q a (m - a)) ≡ found_below n (first p n)
found_between p q a m n am mn before same after = go (dec_lt k m)
  where
    k : ℕ
    k = first_from q a (m - a)

    -- none below k passes
    fails : (j : ℕ) → j < k → p j ≡ false
    fails j l = below (dec_lt j a)
      where
        below : Dec (j < a) → p j ≡ false
        below (yes u) = before j u
        below (no u) =
            sym (same j (omega arith) (omega (arith, (first_from_le q a (m - a)).1))) ∙ first_from_before q a (m - a) j (omega arith) l

    go : Dec (k < m) → found_below m k ≡ found_below n (first p n)
    go (yes l) =
        let hit : q k ≡ true = first_from_hit q a (m - a) (omega arith) in
        let e : first p n ≡ k = first_unique p n k (omega arith) (sym (same k (first_from_le q a (m - a)).0 l) ∙ hit) fails in
        found_some m k l ∙ sym (ap (found_below n) e ∙ found_some n k (omega arith))
    go (no l) =
        let e : first p n ≡ n = first_ends p n n (omega arith) (λ j u. rest j u (dec_lt j m)) (λ u. absurd (omega arith)) in
        found_none m k (omega arith) ∙ sym (ap (found_below n) e ∙ found_none n n (omega arith))
      where
        rest : (j : ℕ) → j < n → Dec (j < m) → p j ≡ false
        rest j u (yes v) = fails j (omega arith)
        rest j u (no v) = after j (omega arith) u
