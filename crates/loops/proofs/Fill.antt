-- Laws of a list written from its numbers: its length, its elements, one element more, two that are equal, and a part of a list written so. And of the numbers
-- chosen by a test: how many, which, and that a rising list of them is all of them.
use mathlib.Core.Path.{◌≡◌, refl, sym, ap, ap₂, ◌∙◌}
use mathlib.Core.Bool.{Bool, true, false, cond, true≢false}
use mathlib.Core.List.{List, [], ◌∷◌, ◌++◌, append-nil}
use Prim.Native.Nat.{ℕ, zero, suc, ◌+◌, ◌-◌, ◌<◌, ◌≤◌}
use native.Mathlib.Nat.{zero-add, add-zero, add-suc, suc-add, le_of_suc-le-suc, not-suc-le-zero}
use native.Mathlib.Numerals.{add-one}
use native.Mathlib.Decide.{dec_lt, ℕ_discrete}
use native.Mathlib.Omega.{arith}
use lib.ListN.{length, get_or, take, drop, length-append, get_or-append}
use lib.Seq.{drop-cons, ext_get_or, get_or-append-add}
use Rattle.loops.specs.Total.{bit, total, count}
use Rattle.loops.specs.Fill.{from, chosen}
use Rattle.loops.proofs.Total.{total_suc, total_within, total_split}

module _ {ℓ} {A : Type ℓ} (f : ℕ → A) where
  pub length_from : (i n : ℕ) → length (from f i n) ≡ n
  unfolding from
  length_from i zero = refl
  length_from i (suc n) = ap suc (length_from (suc i) n)

  -- whatever is read past the end
  pub element_from : (d : A) (i n j : ℕ) → j < n → get_or (from f i n) j d ≡ f (i + j)
  unfolding from
  element_from d i zero j h = absurd (not-suc-le-zero h)
  element_from d i (suc n) zero h = rw add-zero
  element_from d i (suc n) (suc j) h = rw (add-suc, ← suc-add) (element_from d (suc i) n j (le_of_suc-le-suc h))

  -- one element more, as a loop that counts has it
  pub from_more : (i n : ℕ) → from f i (n + 1) ≡ from f i n ++ (f (i + n) ∷ [])
  unfolding from
  from_more i zero = rw (add-zero i)
  from_more i (suc n) =
      let more : suc n + 1 ≡ suc (n + 1) = suc-add n 1 in
      let last : i + suc n ≡ suc i + n = add-suc i n ∙ sym (suc-add i n) in
      rw (more, from, last) (ap (λ l. f i ∷ l) (from_more (suc i) n))

-- two such lists that are equal have as many elements, and the same ones
module _ {ℓ} {A : Type ℓ} (f g : ℕ → A) (i n m : ℕ) (e : from f i n ≡ from g i m) where
  pub from_same_count : n ≡ m
  from_same_count = sym (length_from f i n) ∙ ap length e ∙ length_from g i m

  pub from_same : (j : ℕ) → i ≤ j → j < i + n → f j ≡ g j
  from_same j l u =
      let place : j ≡ i + (j - i) = omega arith in
      ap f place ∙ sym (element_from f (f 0) i n (j - i) (omega arith)) ∙ ap (λ l. get_or l (j - i) (f 0)) e
      ∙ element_from g (f 0) i m (j - i) (omega (arith, from_same_count)) ∙ ap g (sym place)

-- the same elements give the same list
pub from_agree {ℓ} : {A : Type ℓ} (f g : ℕ → A) (i n : ℕ) → ((j : ℕ) → i ≤ j → j < i + n → f j ≡ g j) → from f i n ≡ from g i n
unfolding from
from_agree f g i zero h = refl
from_agree f g i (suc n) h = ap₂ ◌∷◌ (h i (omega arith) (omega arith)) (from_agree f g (suc i) n (λ j l u. h j (omega arith) (omega arith)))

-- of numbers
pub get_d_from : (f : ℕ → ℕ) (i n j : ℕ) → j < n → get_or (from f i n) j 0 ≡ f (i + j)
get_d_from f = element_from f 0

-- a part of a list, from element s + f on
pub from_part : (l : List ℕ) (s f c : ℕ) → s + f + c ≤ length l → take c (drop (s + f) l) ≡ from (λ g. get_or l (s + g) 0) f c
unfolding from
from_part l s f zero h = refl
from_part l s f (suc c) h =
    rw (drop-cons l (s + f) 0 (omega arith)) (ap (λ r. get_or l (s + f) 0 ∷ r) (rw (← add-suc s f) (from_part l s (suc f) c (omega arith))))

-- numbered from elsewhere
pub from_shift {ℓ} : {A : Type ℓ} (f : ℕ → A) (s i n : ℕ) → from (λ j. f (s + j)) i n ≡ from f (s + i) n
unfolding from
from_shift f s i zero = refl
from_shift f s i (suc n) = ap (λ l. f (s + i) ∷ l) (rw (← add-suc s i) (from_shift f s (suc i) n))

-- a list is written from its own elements
pub from_elements : (l : List ℕ) → from (λ a. get_or l a 0) 0 (length l) ≡ l
from_elements l =
    let long : length (from (λ a. get_or l a 0) 0 (length l)) ≡ length l = length_from (λ a. get_or l a 0) 0 (length l) in
    ext_get_or 0 (from (λ a. get_or l a 0) 0 (length l)) l long (λ i h. rw zero-add at (get_d_from (λ a. get_or l a 0) 0 (length l) i (omega arith)))

-- ---- numbers chosen by a test

count_grows : (p : ℕ → Bool) (i j : ℕ) → i ≤ j → count p i ≤ count p j
count_grows p i j h = let split = total_split (λ k. bit (p k)) i (j - i) in let whole : i + (j - i) ≡ j = omega arith in omega (arith, rw whole at split)

module _ (p : ℕ → Bool) where
  -- one number more, as a loop that counts has it
  pub chosen_taken : (n : ℕ) → p n ≡ true → chosen p (n + 1) ≡ chosen p n ++ (n ∷ [])
  unfolding chosen
  chosen_taken n e = rw add-one (ap (λ b. chosen p n ++ cond b (n ∷ []) []) e)

  pub chosen_left : (n : ℕ) → p n ≡ false → chosen p (n + 1) ≡ chosen p n
  unfolding chosen
  chosen_left n e = rw add-one (ap (λ b. chosen p n ++ cond b (n ∷ []) []) e ∙ append-nil (chosen p n))

  pub length_chosen : (n : ℕ) → length (chosen p n) ≡ count p n
  unfolding chosen total
  length_chosen zero = refl
  length_chosen (suc n) =
      length-append (chosen p n) (cond (p n) (n ∷ []) []) ∙ ap₂ ◌+◌ (length_chosen n) (one (p n)) ∙ sym (total_suc (λ i. bit (p i)) n)
    where
      one : (b : Bool) → length (cond b (n ∷ []) []) ≡ bit b
      one true = refl
      one false = refl

  -- a chosen number stands behind as many as are chosen below it
  pub chosen_at : (n j : ℕ) → j < n → p j ≡ true → get_or (chosen p n) (count p j) 0 ≡ j
  unfolding chosen
  chosen_at zero j u e = absurd (omega arith)
  chosen_at (suc n) j u e = go (λ v. chosen_at n j v e) (ℕ_discrete j n)
    where
      go : (j < n → get_or (chosen p n) (count p j) 0 ≡ j) → Dec (j ≡ n) → get_or (chosen p n ++ cond (p n) (n ∷ []) []) (count p j) 0 ≡ j
      go before (yes same) =
          let here : p n ≡ true = ap p (sym same) ∙ e in
          let place : count p j ≡ length (chosen p n) + 0 = omega (arith, length_chosen n, ap (count p) same) in
          rw (here, place) (get_or-append-add (chosen p n) (n ∷ []) 0 0 ∙ sym same)
      go before (no other) =
          let inside : count p j < length (chosen p n) = omega (arith, length_chosen n, total_within (λ i. bit (p i)) n j (omega arith), ap bit e) in
          get_or-append (chosen p n) (cond (p n) (n ∷ []) []) 0 (count p j) inside ∙ before (omega arith)

  -- what stands at a place: a number below n that passes, behind as many
  pub record Chosen (n a v : ℕ) : Type 0 where
    pub below : v < n
    pub passes : p v ≡ true
    pub behind : count p v ≡ a

  pub chosen_is : (n a : ℕ) → a < length (chosen p n) → Chosen n a (get_or (chosen p n) a 0)
  unfolding chosen
  chosen_is zero a u = absurd (omega arith)
  chosen_is (suc n) a u = go (chosen_is n a) (dec_lt a (length (chosen p n)))
    where
      last : (b : Bool) → p n ≡ b → length (chosen p n) ≤ a → Chosen (suc n) a (get_or (chosen p n ++ cond b (n ∷ []) []) a 0)
      last true e l =
          let place : a ≡ length (chosen p n) + 0 = omega (arith, u, length-append (chosen p n) (cond (p n) (n ∷ []) []), ap (λ b. length (cond b (n ∷ []) [])) e) in
          rw place (rw (get_or-append-add (chosen p n) (n ∷ []) 0 0) (record { below = omega arith; passes = e; behind = omega (arith, length_chosen n) }))
      last false e l = absurd (omega (arith, u, length-append (chosen p n) (cond (p n) (n ∷ []) []), ap (λ b. length (cond b (n ∷ []) [])) e))

      go : (a < length (chosen p n) → Chosen n a (get_or (chosen p n) a 0)) → Dec (a < length (chosen p n))
          → Chosen (suc n) a (get_or (chosen p n ++ cond (p n) (n ∷ []) []) a 0)
      go before (yes h) =
          let c = before h in
          rw (get_or-append (chosen p n) (cond (p n) (n ∷ []) []) 0 a h) (record { below = omega (arith, c.below); passes = c.passes; behind = c.behind })
      go before (no h) = last (p n) refl (omega arith)

  -- they rise
  pub chosen_rising : (n a b : ℕ) → a < b → b < length (chosen p n) → get_or (chosen p n) a 0 < get_or (chosen p n) b 0
  chosen_rising n a b l u = go (dec_lt (get_or (chosen p n) a 0) (get_or (chosen p n) b 0))
    where
      one : Chosen n a (get_or (chosen p n) a 0)
      one = chosen_is n a (omega arith)

      other : Chosen n b (get_or (chosen p n) b 0)
      other = chosen_is n b u

      go : Dec (get_or (chosen p n) a 0 < get_or (chosen p n) b 0) → get_or (chosen p n) a 0 < get_or (chosen p n) b 0
      go (yes h) = h
      go (no h) = absurd (omega (arith, one.behind, other.behind, count_grows p (get_or (chosen p n) b 0) (get_or (chosen p n) a 0) (omega arith)))

  -- a rising list of numbers below n that pass, with each that does, is theirs
  module _ (n : ℕ) (l : List ℕ) (rising : (a b : ℕ) → a < b → b < length l → get_or l a 0 < get_or l b 0) (below : (a : ℕ) → a < length l → get_or l a 0 < n)
      (passing : (a : ℕ) → a < length l → p (get_or l a 0) ≡ true) (whole : (j : ℕ) → j < n → p j ≡ true → (a : ℕ) × (a < length l) × (get_or l a 0 ≡ j)) where
    -- as many as pass below j stand below it, at the front
    record Cut (j : ℕ) : Type 0 where
      within : count p j ≤ length l
      front : (a : ℕ) → a < count p j → get_or l a 0 < j
      back : (a : ℕ) → count p j ≤ a → a < length l → j ≤ get_or l a 0

    module _ (j : ℕ) (u : j < n) (c : Cut j) where
      -- it stands where the cut is
      held_first : (a : ℕ) → a < length l → get_or l a 0 ≡ j → a ≡ count p j
      held_first a h q = by (dec_lt a (count p j)) (dec_lt (count p j) a)
        where
          by : Dec (a < count p j) → Dec (count p j < a) → a ≡ count p j
          by (yes x) y = absurd (omega (arith, c.front a x))
          by (no x) (yes y) = absurd (omega (arith, rising (count p j) a y h, c.back (count p j) (omega arith) (omega arith)))
          by (no x) (no y) = omega arith

      front_more : (m : ℕ) → get_or l m 0 ≡ j → m ≡ count p j → (a : ℕ) → a < count p j + 1 → get_or l a 0 < suc j
      front_more m q here a h = by (dec_lt a (count p j))
        where
          by : Dec (a < count p j) → get_or l a 0 < suc j
          by (yes x) = omega (arith, c.front a x)
          by (no x) = let same : a ≡ m = omega arith in omega (arith, ap (λ i. get_or l i 0) same)

      above : (a : ℕ) → a < length l → p j ≡ false → Dec (get_or l a 0 ≡ j) → j ≤ get_or l a 0 → suc j ≤ get_or l a 0
      above a q e (yes x) h = absurd (true≢false (sym (ap p (sym x) ∙ passing a q) ∙ e))
      above a q e (no x) h = omega arith

      cut_more : (b : Bool) → p j ≡ b → Cut (suc j)
      cut_more true e =
          let held = whole j u e in
          let k : ℕ = count p j in
          let more : count p (suc j) ≡ k + 1 = total_suc (λ i. bit (p i)) j ∙ ap (λ b. k + bit b) e in
          let here : held.0 ≡ k = held_first held.0 held.1 held.2 in
          record {
            within = omega (arith, here, held.1, more);
            front = λ a h. front_more held.0 held.2 here a (omega (arith, more));
            back = λ a h q. omega (arith, rising held.0 a (omega (arith, here, more)) q, held.2);
          }
      cut_more false e =
          let k : ℕ = count p j in
          let same : count p (suc j) ≡ k = total_suc (λ i. bit (p i)) j ∙ ap (λ b. k + bit b) e ∙ add-zero k in
          record {
            within = omega (arith, c.within, same);
            front = λ a h. omega (arith, c.front a (omega (arith, same)));
            back = λ a h q. above a q e (ℕ_discrete (get_or l a 0) j) (c.back a (omega (arith, same)) q);
          }

    cut : (j : ℕ) → j ≤ n → Cut j
    unfolding total
    cut zero u = record { within = omega arith; front = λ a h. absurd (omega arith); back = λ a h k. omega arith }
    cut (suc j) u = cut_more j u (cut j (omega arith)) (p j) refl

    pub chosen_all : chosen p n ≡ l
    chosen_all =
        ext_get_or 0 (chosen p n) l (length_chosen n ∙ long) (λ a u.
        let h : a < length l = omega (arith, length_chosen n, long) in
        ap (λ k. get_or (chosen p n) k 0) (sym (place a h)) ∙ chosen_at n (get_or l a 0) (below a h) (passing a h))
      where
        long : count p n ≡ length l
        long = go (dec_lt (count p n) (length l))
          where
            c : Cut n
            c = cut n (omega arith)

            go : Dec (count p n < length l) → count p n ≡ length l
            go (yes x) = absurd (omega (arith, c.back (count p n) (omega arith) x, below (count p n) x))
            go (no x) = omega (arith, c.within)

        place : (a : ℕ) → a < length l → count p (get_or l a 0) ≡ a
        place a h = go (dec_lt (count p (get_or l a 0)) a) (dec_lt a (count p (get_or l a 0)))
          where
            c : Cut (get_or l a 0)
            c = cut (get_or l a 0) (omega (arith, below a h))

            go : Dec (count p (get_or l a 0) < a) → Dec (a < count p (get_or l a 0)) → count p (get_or l a 0) ≡ a
            go (yes x) y = absurd (omega (arith, c.back (count p (get_or l a 0)) (omega arith) (omega arith), rising (count p (get_or l a 0)) a x h))
            go (no x) (yes y) = absurd (omega (arith, c.front a y))
            go (no x) (no y) = omega arith

-- tests that agree choose the same numbers
pub chosen_same : (p q : ℕ → Bool) (n : ℕ) → ((j : ℕ) → j < n → p j ≡ q j) → chosen p n ≡ chosen q n
unfolding chosen
chosen_same p q zero h = refl
chosen_same p q (suc n) h = ap₂ ◌++◌ (chosen_same p q n (λ j u. h j (omega arith))) (ap (λ b. cond b (n ∷ []) []) (h n (omega arith)))
