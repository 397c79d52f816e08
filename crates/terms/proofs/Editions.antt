-- Laws of where the editions differ, for any edition. Each edition is told apart here, and laws of polls and of acceptance cite these.
use mathlib.Core.Path.{◌≡◌, refl}
use mathlib.Core.Bool.{Bool, true, false, cond}
use mathlib.Core.Logic.{◌≢◌, ◌↔◌}
use Prim.Native.Nat.{ℕ, ◌≤◌, ◌<◌}
use native.Mathlib.Omega.{arith}
use lib.Dec.{ltb, leb}
use borrow.Author.Tests.{eqb-true, eqb-false, ltb-true, leb-true, lt-ltb, le-leb}
use Rattle.terms.specs.Editions.{is_later, restart, enough, failure_clears}

-- a counter that starts anew counts no more than the poll that starts it
pub restart_most : (edition : ℕ) → restart edition ≤ 1
unfolding restart
restart_most edition = elim (is_later edition) as (λ b. cond b 1 0 ≤ 1) [ true ↦ omega arith | false ↦ omega arith ]

-- what is enough for a β is enough for a lower one
pub enough_lower : (edition beta beta' counter : ℕ) → beta' ≤ beta → enough edition beta counter ≡ true → enough edition beta' counter ≡ true
unfolding enough
enough_lower edition beta beta' counter h = go (is_later edition)
  where
    go : (b : Bool) → cond b (leb beta counter) (ltb beta counter) ≡ true → cond b (leb beta' counter) (ltb beta' counter) ≡ true
    go true e = le-leb beta' counter (omega (arith, leb-true beta counter e))
    go false e = lt-ltb beta' counter (omega (arith, ltb-true beta counter e))

-- what is enough, in words: above β, and in edition 1 at least β
pub enough_is : (edition beta counter : ℕ) → (enough edition beta counter ≡ true) ↔ ((edition ≢ 1 → beta < counter) × (edition ≡ 1 → beta ≤ counter))
unfolding enough
enough_is edition beta counter = (to (is_later edition) refl, from (is_later edition) refl)
  where
    to : (b : Bool) → is_later edition ≡ b → cond b (leb beta counter) (ltb beta counter) ≡ true
        → (edition ≢ 1 → beta < counter) × (edition ≡ 1 → beta ≤ counter)
    to true q e = (λ d. absurd (d (eqb-true edition 1 q)), λ l. leb-true beta counter e)
    to false q e = (λ d. ltb-true beta counter e, λ l. absurd (eqb-false edition 1 q l))

    from : (b : Bool) → is_later edition ≡ b → (edition ≢ 1 → beta < counter) × (edition ≡ 1 → beta ≤ counter)
        → cond b (leb beta counter) (ltb beta counter) ≡ true
    from true q h = le-leb beta counter (h.1 (eqb-true edition 1 q))
    from false q h = lt-ltb beta counter (h.0 (eqb-false edition 1 q))

-- what each edition has
pub restart_first : restart 0 ≡ 0
unfolding restart
restart_first = refl

pub restart_later : restart 1 ≡ 1
unfolding restart
restart_later = refl

pub clears_not : failure_clears 0 ≡ false
unfolding failure_clears
clears_not = refl

pub clears : failure_clears 1 ≡ true
unfolding failure_clears
clears = refl
