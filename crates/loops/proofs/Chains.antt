-- What a chain over a range gives, in the words of specs/: `any`, `all`, `find`, `sum` and `fold` over the numbers from a to b are searches, sums and the greatest.
use mathlib.Core.Path.{◌≡◌, refl, sym, ap, ◌∙◌}
use mathlib.Core.Bool.{Bool, true, false, not, cond, ◌&&◌, ◌||◌}
use mathlib.Core.List.{List, map}
use Prim.Native.Nat.{ℕ, zero, suc, ◌+◌, ◌-◌, ◌<◌, ◌≤◌, max}
use native.Mathlib.Numerals.{add-one}
use native.Mathlib.Nat.{add-zero, zero-add}
use native.Mathlib.Omega.{arith}
use lib.Dec.{eqb, ltb}
use lib.ListN.{length, get_or, take}
use denote.Param.Members.{Mut}
use denote.Ref.{Bor}
use borrow.Author.Tests.{eq-eqb, ne_eqb, lt-ltb, le-ltb}
use Rattle.std.specs.declared.iter.Map.{Map}
use Rattle.std.specs.declared.ops.Range.{Range}
use Rattle.std.specs.declared.slice.Iter.{Iter}
use Rattle.std.specs.Prelude.{Option, Some}
use Rattle.std.specs.Option.{MatchOption, option_map}
use Rattle.std.specs.Bool.{⊤}
use Rattle.std.specs.Fn.{Called, CalledAt}
use Rattle.std.specs.Iterator.{YieldsThen, Drains}
use Rattle.std.specs.Iterator.Adapters.{map_source, map_callee}
use Rattle.std.specs.Iterator.Runs.{EachRunFrom}
use Rattle.std.specs.List.{range_with_len, list_any, list_all, find, sum_by, fold, FoldsTo}
use Rattle.std.specs.Slice.Iter.{iter_rest}
use Rattle.std.proofs.iter.Yields.{fronts, nat_range_steps}
use Rattle.std.proofs.lemmas.Iterator.{YieldsList, maps, YieldsList-from_range, YieldsList-from_slice, YieldsList-from_map}
use Rattle.std.proofs.lemmas.Iterator.Search.{any_from_yields_List, all_from_yields_List, find_from_yields_List}
use Rattle.std.proofs.lemmas.Iterator.Adapters.{option_map_id}
use Rattle.std.proofs.lemmas.Iterator.Consumers.{sum_by_from_yields_List, fits_by_from_yields_list, fold_from_yields_List}
use Rattle.loops.specs.Search.{first_from, first, all, any, found_below}
use Rattle.loops.specs.Fill.{from}
use Rattle.loops.specs.Total.{total, greatest}
use Rattle.loops.proofs.Fill.{from_part, from_shift}
use Rattle.loops.proofs.Total.{total_zero, greatest_zero}

-- ---- the lists of a range

-- a list that is written from its numbers
any_written : (p : ℕ → Bool) (f : ℕ → ℕ) (i n : ℕ) → list_any p (from f i n) ≡ list_any (λ j. p (f j)) (range_with_len i n)
unfolding from
any_written p f i zero = refl
any_written p f i (suc n) = ap (λ t. p (f i) || t) (any_written p f (suc i) n ∙ ap (λ k. list_any (λ j. p (f j)) (range_with_len k n)) (sym (add-one i)))

any_listed : (p : ℕ → Bool) (a k : ℕ) → list_any p (range_with_len a k) ≡ ltb (first_from p a k) (a + k)
unfolding first_from
any_listed p a zero = sym (le-ltb a (a + 0) (omega arith))
any_listed p a (suc k) = go (p a) (any_listed p (suc a) k)
  where
    go : (t : Bool) → list_any p (range_with_len (suc a) k) ≡ ltb (first_from p (suc a) k) (suc a + k)
        → t || list_any p (range_with_len (a + 1) k) ≡ ltb (elim t [ true ↦ a | false ↦ first_from p (suc a) k ]) (a + suc k)
    go true h = sym (lt-ltb a (a + suc k) (omega arith))
    go false h = let e : suc a + k ≡ a + suc k = omega arith in rw (add-one, ← e) h

all_listed : (p : ℕ → Bool) (a k : ℕ) → list_all p (range_with_len a k) ≡ eqb (first_from (λ i. not (p i)) a k) (a + k)
unfolding first_from
all_listed p a zero = sym (eq-eqb a (a + 0) (omega arith))
all_listed p a (suc k) = go (p a) (all_listed p (suc a) k)
  where
    go : (t : Bool) → list_all p (range_with_len (suc a) k) ≡ eqb (first_from (λ i. not (p i)) (suc a) k) (suc a + k)
        → t && list_all p (range_with_len (a + 1) k) ≡ eqb (elim (not t) [ true ↦ a | false ↦ first_from (λ i. not (p i)) (suc a) k ]) (a + suc k)
    go true h = let e : suc a + k ≡ a + suc k = omega arith in rw (add-one, ← e) h
    go false h = sym (ne_eqb a (a + suc k) (λ e. omega arith))

-- a list that is written from its numbers
all_written : (p : ℕ → Bool) (f : ℕ → ℕ) (i n : ℕ) → list_all p (from f i n) ≡ list_all (λ j. p (f j)) (range_with_len i n)
unfolding from
all_written p f i zero = refl
all_written p f i (suc n) = ap (λ t. p (f i) && t) (all_written p f (suc i) n ∙ ap (λ k. list_all (λ j. p (f j)) (range_with_len k n)) (sym (add-one i)))

find_listed : (p : ℕ → Bool) (a k : ℕ) → find p (range_with_len a k) ≡ found_below (a + k) (first_from p a k)
unfolding first_from
find_listed p a zero = rw (le-ltb a (a + 0) (omega arith))
find_listed p a (suc k) = go (p a) (find_listed p (suc a) k)
  where
    go : (t : Bool) → find p (range_with_len (suc a) k) ≡ found_below (suc a + k) (first_from p (suc a) k)
        → cond t (Some a) (find p (range_with_len (a + 1) k)) ≡ found_below (a + suc k) (elim t [ true ↦ a | false ↦ first_from p (suc a) k ])
    go true h = rw (lt-ltb a (a + suc k) (omega arith))
    go false h = let e : suc a + k ≡ a + suc k = omega arith in rw (add-one, ← e) h

-- of what h makes of the numbers
find_made : (p : ℕ → Bool) (h : ℕ → ℕ) (a k : ℕ) → find p (map h (range_with_len a k)) ≡ option_map h (find (λ i. p (h i)) (range_with_len a k))
find_made p h a zero = refl
find_made p h a (suc k) = go (p (h a)) (find_made p h (a + 1) k)
  where
    go : (t : Bool) → find p (map h (range_with_len (a + 1) k)) ≡ option_map h (find (λ i. p (h i)) (range_with_len (a + 1) k))
        → cond t (Some (h a)) (find p (map h (range_with_len (a + 1) k))) ≡ option_map h (cond t (Some a) (find (λ i. p (h i)) (range_with_len (a + 1) k)))
    go true e = refl
    go false e = e

total_listed : (f : ℕ → ℕ) (a k : ℕ) → total f (a + k) ≡ fold (λ x i. x + f i) (total f a) (range_with_len a k)
unfolding total
total_listed f a zero = ap (total f) (add-zero a)
total_listed f a (suc k) =
    let e : a + suc k ≡ suc a + k = omega arith in
    ap (total f) e ∙ total_listed f (suc a) k ∙ rw (add-one a)

greatest_listed : (f : ℕ → ℕ) (a k : ℕ) → greatest f (a + k) ≡ fold max (greatest f a) (map f (range_with_len a k))
unfolding greatest
greatest_listed f a zero = ap (greatest f) (add-zero a)
greatest_listed f a (suc k) =
    let e : a + suc k ≡ suc a + k = omega arith in
    ap (greatest f) e ∙ greatest_listed f (suc a) k ∙ rw (add-one a)

-- ---- what a chain over a range gives, where the closure leaves what it captures and computes p or f

module _ {F : Type 0} {s : Range ℕ} (u : Range ℕ) (f : F) where
  module _ {g : Mut F (ℕ × Unit {0}) Bool} (p : ℕ → Bool) (n : ℕ) (r : Bool) where
    pub any_over : (xs : List ℕ) × (o : Option ℕ) × (j : F) × YieldsThen nat_range_steps s xs o u × FoldsTo (λ p x q. Called g p (x, tt) false q) f xs j
        × MatchOption o (r ≡ false) (λ x. (r ≡ true) × ((h : F) × Called g j (x, tt) true h))
        → s ≡ record { start = 0; end = n } → ((x : ℕ) (b : Bool) (q : F) → Called g f (x, tt) b q → (q ≡ f) × (b ≡ p x)) → r ≡ any p n
    any_over ran e closure = any_from_yields_List p u f r ran (YieldsList-from_range 0 n n e (omega arith)) closure ∙ any_listed p 0 n ∙ ap (ltb (first p n)) (zero-add n)

  -- the search begins at a
  module _ {g : Mut F (Bor ℕ × Unit {0}) Bool} (p : ℕ → Bool) (a n : ℕ) (r : Option ℕ) where
    pub find_over : (xs : List ℕ) × (j : F) × YieldsThen nat_range_steps s xs r u × FoldsTo (λ p x q. CalledAt g p x false q) f xs j
        × MatchOption r ⊤ (λ x. (h : F) × CalledAt g j x true h)
        → s ≡ record { start = a; end = n } → a ≤ n → ((x : ℕ) (b : Bool) (q : F) → CalledAt g f x b q → (q ≡ f) × (b ≡ p x)) → r ≡ found_below n (first_from p a (n - a))
    find_over ran e below closure =
        let whole : a + (n - a) ≡ n = omega arith in
        sym (option_map_id r) ∙ find_from_yields_List p u f r ran (YieldsList-from_range a n (n - a) e refl) closure ∙ find_listed p a (n - a)
        ∙ ap (λ k. found_below k (first_from p a (n - a))) whole

-- the first n elements of a list
pub any_taken : (p : ℕ → Bool) (l : List ℕ) (n : ℕ) → n ≤ length l → list_any p (take n l) ≡ any (λ j. p (get_or l j 0)) n
any_taken p l n h =
    ap (list_any p) (from_part l 0 0 n (omega arith) ∙ from_shift (λ j. get_or l j 0) 0 0 n)
    ∙ any_written p (λ j. get_or l j 0) 0 n ∙ any_listed (λ j. p (get_or l j 0)) 0 n ∙ ap (ltb (first (λ j. p (get_or l j 0)) n)) (zero-add n)

-- ---- the same where the closure of a `map` computes h

module _ {F : Type 0} {g : Mut F (ℕ × Unit {0}) ℕ} (h : ℕ → ℕ) (n : ℕ) (s : Map (Range ℕ) F) {f : F}
    (source : map_source s ≡ record { start = 0; end = n }) (callee : map_callee s ≡ f)
    (closure : (x r : ℕ) (q : F) → Called g f (x, tt) r q → (q ≡ f) × (r ≡ h x)) where
  mapped : YieldsList (maps nat_range_steps g) (λ r. r) s (map h (range_with_len 0 n))
  mapped = YieldsList-from_map g h (YieldsList-from_range 0 n n source (omega arith)) callee closure

  summed : sum_by h (range_with_len 0 n) ≡ total h n
  summed = sym (ap (total h) (sym (zero-add n)) ∙ total_listed h 0 n ∙ ap (λ z. fold (λ x i. x + h i) z (range_with_len 0 n)) (total_zero h))

  pub find_mapped : (p : ℕ → Bool) {E : Type 0} {k : Mut E (Bor ℕ × Unit {0}) Bool} (u : Map (Range ℕ) F) (e : E) (r : Option ℕ)
      → ((xs : List ℕ) × (j : E) × YieldsThen (maps nat_range_steps g) s xs r u × FoldsTo (λ p x q. CalledAt k p x false q) e xs j
      × MatchOption r ⊤ (λ x. (h : E) × CalledAt k j x true h))
      → ((x : ℕ) (b : Bool) (q : E) → CalledAt k e x b q → (q ≡ e) × (b ≡ p x)) → r ≡ option_map h (found_below n (first (λ i. p (h i)) n))
  find_mapped p u e r ran test =
      sym (option_map_id r) ∙ find_from_yields_List p u e r ran mapped test ∙ find_made p h 0 n
      ∙ ap (option_map h) (find_listed (λ i. p (h i)) 0 n ∙ ap (λ m. found_below m (first (λ i. p (h i)) n)) (zero-add n))

  pub total_over : (r : ℕ) → ((xs : List ℕ) × (⊤ → Drains (maps nat_range_steps g) s xs) × (r ≡ fold (λ a x. a + x) 0 xs)) → r ≡ total h n
  total_over r ran = sum_by_from_yields_List h (range_with_len 0 n) s r ran mapped ∙ summed

  pub total_fits : (top : ℕ) → total h n < top → EachRunFrom (maps nat_range_steps g) s (λ p. fold (λ a x. a + x) 0 p.items < top)
  total_fits top l = fits_by_from_yields_list h (range_with_len 0 n) s top mapped (omega (arith, summed))

  -- folded by a closure that gives the greater
  pub greatest_over : {E : Type 0} {k : Mut E (ℕ × (ℕ × Unit {0})) ℕ} {e : E} (r : ℕ)
      → ((xs : List ℕ) × (q : E) × Drains (maps nat_range_steps g) s xs × FoldsTo {P = E × ℕ} (λ a x b. Called k a.0 (a.1, (x, tt)) b.1 b.0) (e, 0) xs (q, r))
      → ((a x b : ℕ) (q : E) → Called k e (a, (x, tt)) b q → (q ≡ e) × (b ≡ max a x)) → r ≡ greatest h n
  greatest_over {k = k} r ran greater =
      fold_from_yields_List k max 0 r ran mapped greater
      ∙ sym (ap (greatest h) (sym (zero-add n)) ∙ greatest_listed h 0 n ∙ ap (λ z. fold max z (map h (range_with_len 0 n))) (greatest_zero h))

-- ---- what a chain over the elements of a list gives that is written from its numbers

pub all_in : {F : Type 0} {s : Iter ℕ} (u : Iter ℕ) (f : F) {g : Mut F (Bor ℕ × Unit {0}) Bool} (p : ℕ → Bool) (h : ℕ → ℕ) (n : ℕ) (r : Bool)
    → ((xs : List (Bor ℕ)) × (o : Option (Bor ℕ)) × (j : F) × YieldsThen fronts s xs o u × FoldsTo (λ p x q. Called g p (x, tt) true q) f xs j
    × MatchOption o (r ≡ true) (λ x. (r ≡ false) × ((h : F) × Called g j (x, tt) false h)))
    → iter_rest s ≡ from h 0 n → ((x : Bor ℕ) (b : Bool) (q : F) → Called g f (x, tt) b q → (q ≡ f) × (b ≡ p x.now)) → r ≡ all (λ j. p (h j)) n
all_in u f p h n r ran e closure =
    all_from_yields_List p u f r ran (YieldsList-from_slice (from h 0 n) e) closure ∙ all_written p h 0 n ∙ all_listed (λ j. p (h j)) 0 n
    ∙ ap (eqb (first (λ i. not (p (h i))) n)) (zero-add n)
