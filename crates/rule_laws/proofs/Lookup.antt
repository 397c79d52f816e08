-- Laws of the lookup of a name: what is found, and that on a sound workspace it is the one booking with the name.
use Rattle.std.specs.Prelude.{None, Option, Some}
use mathlib.Core.Path.{◌≡◌, refl}
use mathlib.Core.Bool.{Bool, true, false, cond, true≢false}
use mathlib.Core.List.{List}
use mathlib.Core.Logic.{◌≢◌}
use Prim.Native.Nat.{ℕ, ◌+◌, ◌<◌, ◌≤◌}
use native.Mathlib.Omega.{arith}
use lib.ListN.{length, get_or}
use lib.Dec.{eqb, ltb}
use borrow.Author.Tests.{eqb-true, eqb-false, eq-eqb, ne_eqb, ltb-true, ltb-false, lt-ltb, le-ltb}
use Rattle.loops.specs.Search.{first}
use Rattle.loops.proofs.Search.{none→, Searched, search_start, search_hit, search_miss, search_over, first_hit, first_before, first_unique}
use Rattle.rules.specs.Layout.{bookings, name_of}
use Rattle.rules.specs.Book.{look_up, is_found, is_absent, number_of, parent_found, has_unknown}
use Rattle.rules.specs.Sound.{Sound}

-- booking i has the name
abbrev pub is_named : List ℕ → ℕ → ℕ → Bool
is_named w name i = eqb (name_of w i) name

-- ---- what is found

-- the answer is the number itself where it is below n
found_below_some : (b : Bool) (n j i : ℕ) → ltb j n ≡ b → cond b (Some j) None ≡ Some i → (j ≡ i) × (j < n)
found_below_some true n j i t e = (cc, ltb-true j n t)
found_below_some false n j i t e = let z : ◌≡◌ {A = ℕ} 0 1 = cc in absurd (omega arith)

found_below_none : (b : Bool) (n j : ℕ) → ltb j n ≡ b → cond b (Some j) None ≡ None → n ≤ j
found_below_none true n j t e = let z : ◌≡◌ {A = ℕ} 0 1 = cc in absurd (omega arith)
found_below_none false n j t e = ltb-false j n t

module _ (w : List ℕ) (name i : ℕ) (e : look_up w name ≡ Some i) where
  found_first : (first (is_named w name) (bookings w) ≡ i) × (first (is_named w name) (bookings w) < bookings w)
  unfolding look_up
  found_first = found_below_some _ (bookings w) (first (is_named w name) (bookings w)) i refl e

  pub found_below_lem : i < bookings w
  found_below_lem = rw found_first.0 at found_first.1

  pub found_name : name_of w i ≡ name
  found_name = eqb-true (name_of w i) name (rw found_first.0 at (first_hit (is_named w name) (bookings w) found_first.1))

pub absent_name : (w : List ℕ) (name : ℕ) → look_up w name ≡ None → (i : ℕ) → i < bookings w → name_of w i ≢ name
unfolding look_up
absent_name w name e i h =
    eqb-false (name_of w i) name
    (first_before (is_named w name) (bookings w) i (omega (arith, found_below_none _ (bookings w) (first (is_named w name) (bookings w)) refl e)))

-- ---- what a test of the answer says

pub is_found_false : (f : Option ℕ) → is_found f ≡ false → f ≡ None
is_found_false (Some i) e = absurd (true≢false e)
is_found_false None e = refl

pub is_absent_false : (f : Option ℕ) → is_absent f ≡ false → f ≡ Some (number_of f)
is_absent_false (Some i) e = refl
is_absent_false None e = absurd (true≢false e)

-- where no parent is unknown, each is found, below n
module _ (w parents : List ℕ) (e : has_unknown w parents ≡ false) (a : ℕ) (u : a < length parents) where
  pub parent_found_lem : parent_found w parents a ≡ Some (number_of (parent_found w parents a))
  unfolding has_unknown
  parent_found_lem = is_absent_false _ (none→ (λ a. is_absent (parent_found w parents a)) (length parents) e a u)

  pub parent_below : number_of (parent_found w parents a) < bookings w
  parent_below = found_below_lem w (get_or parents a 0) (number_of (parent_found w parents a)) parent_found_lem

-- ---- on a sound workspace a name is found at the one booking that has it

pub found_is : (w : List ℕ) → Sound w → (i : ℕ) → i < bookings w → look_up w (name_of w i) ≡ Some i
unfolding look_up
found_is w sound i h =
    let lower : (j : ℕ) → j < i → is_named w (name_of w i) j ≡ false = λ j l. ne_eqb _ _ (sound.name_alone j i (omega arith) h (omega arith)) in
    rw (first_unique (is_named w (name_of w i)) (bookings w) i h (eq-eqb (name_of w i) _ refl) lower, lt-ltb i (bookings w) h)
