-- Laws of probing, over any index: every cell is tried, where probing ends, what a lookup finds there, and which cell entering takes.
use Rattle.std.specs.Prelude.{None, Some}
use mathlib.Core.Path.{◌≡◌, refl, sym, ap, ◌∙◌}
use mathlib.Core.Bool.{Bool, true, false, not, true≢false}
use mathlib.Core.List.{List}
use mathlib.Core.Logic.{⊎_elim}
use Prim.Native.Nat.{ℕ, ◌+◌, ◌-◌, ◌%◌, ◌<◌, ◌≤◌}
use native.Mathlib.Nat.{eq-or-lt_of_le}
use native.Mathlib.Decide.{dec_lt}
use native.Mathlib.Omega.{arith}
use lib.ListN.{length, get_or-eq_default}
use lib.Dec.{eqb, ltb}
use borrow.Author.Tests.{eqb-true, eqb-false, eq-eqb, ne_eqb, ltb-true, lt-ltb, le-ltb, not-true}
use Rattle.loops.proofs.Search.{first_le, first_hit, first_before, first_reaches, first_unique, all→, →all, any→, not_all}
use Rattle.loops.proofs.Bools.{and_left, and_right, and_both, neither, or_right, or_else}
use Rattle.rules.specs.Layout.{most_bookings, bookings, name_of}
use Rattle.rules.specs.Book.{look_up, is_found, number_of}
use Rattle.rules.specs.Sound.{Sound}
use Rattle.rule_laws.proofs.Lookup.{found_is}
use Rattle.name_index.specs.Index.{cells, empty, cell, is_empty, home, tried, passed, probe, is_of, ends_lookup, held_number, look_up_in, is_full}
use Rattle.name_index.specs.AsRead.{NameMet, FirstEmpty, NoneEmpty}

-- ---- probing reaches every cell

-- how many cells are tried before cell c
abbrev turn : ℕ → ℕ → ℕ
turn h c = (c + (cells - h)) % cells

tried_turn : (h c : ℕ) → h < cells → c < cells → tried h (turn h c) ≡ c
tried_turn h c l k = omega arith

-- where some cell passes, probing ends within the index
pub passed_within : (ends : ℕ → Bool) (index : List ℕ) (h c : ℕ) → h < cells → c < cells → ends (cell index c) ≡ true → passed ends index h < cells
passed_within ends index h c l k e =
    omega (arith, first_reaches (λ t. ends (cell index (tried h t))) cells (turn h c) (ap (λ x. ends (cell index x)) (tried_turn h c l k) ∙ e))

pub probe_met : (ends : ℕ → Bool) (index : List ℕ) (h : ℕ) → passed ends index h < cells → probe ends index h ≡ tried h (passed ends index h)
unfolding probe
probe_met ends index h l = rw (lt-ltb (passed ends index h) cells l)

pub probe_over : (ends : ℕ → Bool) (index : List ℕ) (h : ℕ) → cells ≤ passed ends index h → probe ends index h ≡ cells
unfolding probe
probe_over ends index h l = rw (le-ltb (passed ends index h) cells l)

-- ---- empty cells

-- cell c has a number
abbrev pub is_held : List ℕ → ℕ → Bool
is_held index c = not (is_empty (cell index c))

not_not : (b : Bool) → not (not b) ≡ true → b ≡ true
not_not true e = refl
not_not false e = e

-- an index that isn't full has an empty cell
free : (index : List ℕ) → is_full index ≡ false → (c : ℕ) × (c < cells) × (is_empty (cell index c) ≡ true)
free index e =
    let some = any→ (λ c. not (is_held index c)) cells (not_all (is_held index) cells ∙ ap not e) in
    (some.0, some.1, not_not (is_empty (cell index some.0)) some.2)

-- and probing from anywhere meets it
pub free_within : (index : List ℕ) (h : ℕ) → h < cells → is_full index ≡ false → passed is_empty index h < cells
free_within index h l e = let c = free index e in passed_within is_empty index h c.0 l c.1 c.2

-- a full index is one where probing from anywhere tries every cell
pub full_over : (index : List ℕ) (h : ℕ) → is_full index ≡ true → passed is_empty index h ≡ cells
full_over index h e = go (dec_lt (passed is_empty index h) cells)
  where
    go : Dec (passed is_empty index h < cells) → passed is_empty index h ≡ cells
    go (yes l) =
        absurd (true≢false
        (sym (all→ (is_held index) cells e (tried h (passed is_empty index h)) (omega arith)) ∙ ap not (first_hit (λ s. is_empty (cell index (tried h s))) cells l)))
    go (no l) = omega (arith, first_le (λ s. is_empty (cell index (tried h s))) cells)

-- so where probing ends tells whether the index is full
pub full_probed : (index : List ℕ) (h : ℕ) → h < cells → is_full index ≡ eqb (probe is_empty index h) cells
full_probed index h l = go (is_full index) refl
  where
    go : (b : Bool) → is_full index ≡ b → b ≡ eqb (probe is_empty index h) cells
    go true e = sym (eq-eqb _ cells (probe_over is_empty index h (omega (arith, full_over index h e))))
    go false e = let m = probe_met is_empty index h (free_within index h l e) in sym (ne_eqb (probe is_empty index h) cells (omega (arith, m)))

-- the cell that entering takes
pub first_empty : (index : List ℕ) (h : ℕ) → h < cells → is_full index ≡ false → FirstEmpty index h (probe is_empty index h)
first_empty index h l e =
    let t = passed is_empty index h in
    let u : t < cells = free_within index h l e in
    let m = probe_met is_empty index h u in
    record {
      others = t;
      within = u;
      there = m;
      free = ap (cell index) m ∙ eqb-true (cell index (tried h t)) empty (first_hit (λ s. is_empty (cell index (tried h s))) cells u);
      before = λ s v. eqb-false (cell index (tried h s)) empty (first_before (λ s. is_empty (cell index (tried h s))) cells s v);
    }

-- and no other is one
pub first_empty_is : (index : List ℕ) (h c : ℕ) → FirstEmpty index h c → c ≡ probe is_empty index h
first_empty_is index h c f =
    let p : ℕ → Bool = λ s. is_empty (cell index (tried h s)) in
    let here : passed is_empty index h ≡ f.others =
    first_unique p cells f.others f.within (ap (λ x. is_empty (cell index x)) (sym f.there) ∙ eq-eqb (cell index c) empty f.free)
    (λ s u. ne_eqb (cell index (tried h s)) empty (f.before s u)) in
    f.there ∙ ap (tried h) (sym here) ∙ sym (probe_met is_empty index h (omega (arith, here, f.within)))

-- in words
pub full→none : (index : List ℕ) → is_full index ≡ true → NoneEmpty index
full→none index e c l = eqb-false (cell index c) empty (not-true (is_empty (cell index c)) (all→ (is_held index) cells e c l))

pub none→full : (index : List ℕ) → NoneEmpty index → is_full index ≡ true
none→full index none = →all (is_held index) cells (λ c l. ap not (ne_eqb (cell index c) empty (none c l)))

-- ---- what a lookup finds

-- past the end of an index there is nothing
cell_past : (index : List ℕ) → length index ≡ cells → cell index cells ≡ empty
cell_past index e = get_or-eq_default index empty (omega (arith, e))

held_number_empty : (held : ℕ) → is_empty held ≡ true → held_number held ≡ None
held_number_empty held e = rw e

held_number_held : (held : ℕ) → is_empty held ≡ false → held_number held ≡ Some held
held_number_held held e = rw e

-- what a lookup ends at, by any index: an empty cell, or the number of a booking that has the name
pub record Looked (w index : List ℕ) (name : ℕ) : Type 0 where
  pub held : ℕ
  pub found : look_up_in w index name ≡ held_number held
  pub ends : ends_lookup w name held ≡ true

module _ (w index : List ℕ) (name : ℕ) where
  abbrev ending : ℕ → Bool
  ending t = ends_lookup w name (cell index (tried (home name) t))

  abbrev last : ℕ
  last = passed (ends_lookup w name) index (home name)

  -- probing ends within the index
  found_within : last < cells → look_up_in w index name ≡ held_number (cell index (tried (home name) last))
  unfolding look_up_in
  found_within l = ap (λ c. held_number (cell index c)) (probe_met (ends_lookup w name) index (home name) l)

  -- or every cell was tried
  found_past : length index ≡ cells → cells ≤ last → look_up_in w index name ≡ None
  unfolding look_up_in
  found_past whole l =
      ap (λ c. held_number (cell index c)) (probe_over (ends_lookup w name) index (home name) l)
      ∙ ap held_number (cell_past index whole)

  pub looked : length index ≡ cells → Looked w index name
  looked e = go (dec_lt last cells)
    where
      go : Dec (last < cells) → Looked w index name
      go (yes l) = record { held = cell index (tried (home name) last); found = found_within l; ends = first_hit ending cells l }
      go (no l) = record { held = empty; found = found_past e (omega arith); ends = refl }

-- what is found is something
pub some_none : (i : ℕ) → Some i ≡ None → ⊥
some_none i e = true≢false (ap is_found e)

held_number_same : (held i : ℕ) → held_number held ≡ Some i → held ≡ i
held_number_same held i e = go (is_empty held) refl
  where
    go : (b : Bool) → is_empty held ≡ b → held ≡ i
    go true q = absurd (some_none i (sym e ∙ held_number_empty held q))
    go false q = ap number_of (sym (held_number_held held q) ∙ e)

-- the number found, by any index, is that of a booking with the name
pub found_of : (w index : List ℕ) (name i : ℕ) → length index ≡ cells → look_up_in w index name ≡ Some i → (i < bookings w) × (name_of w i ≡ name)
found_of w index name i whole e = let k = looked w index name whole in go k (is_empty k.held) refl
  where
    go : (k : Looked w index name) (b : Bool) → is_empty k.held ≡ b → (i < bookings w) × (name_of w i ≡ name)
    go k true q = absurd (some_none i (sym e ∙ k.found ∙ held_number_empty k.held q))
    go k false q =
        let of : is_of w name i ≡ true = ap (is_of w name) (sym (held_number_same k.held i (sym k.found ∙ e))) ∙ or_right (is_empty k.held) _ k.ends q in (
          ltb-true i (bookings w) (and_left (ltb i (bookings w)) (eqb (name_of w i) name) of),
          eqb-true (name_of w i) name (and_right (ltb i (bookings w)) (eqb (name_of w i) name) of),
        )

-- by any index: on a sound workspace it is what the plain search finds
pub found_plain : (w index : List ℕ) (name i : ℕ) → Sound w → length index ≡ cells → look_up_in w index name ≡ Some i → look_up w name ≡ Some i
found_plain w index name i sound whole e =
    let f = found_of w index name i whole e in
    ap (look_up w) (sym f.1) ∙ found_is w sound i f.0

-- ---- the same in words

-- who is met is found
module _ (w index : List ℕ) (name : ℕ) (m : NameMet w index name) (most : bookings w ≤ most_bookings) where
  abbrev number : ℕ
  number = cell index (tried (home name) m.others)

  abbrev met_at : ℕ
  met_at = last w index name

  met_ends : ending w index name m.others ≡ true
  met_ends =
      or_else (is_empty number) (is_of w name number)
      (λ e. and_both (ltb number (bookings w)) (eqb (name_of w number) name) (lt-ltb number (bookings w) m.below) (eq-eqb (name_of w number) name m.named))

  met_reached : met_at ≤ m.others
  met_reached = first_reaches (ending w index name) cells m.others met_ends

  met_held : is_empty (cell index (tried (home name) met_at)) ≡ false
  met_held =
      ⊎_elim
      (λ (q : met_at ≡ m.others). ap (λ t. is_empty (cell index (tried (home name) t))) q ∙ ne_eqb number empty (omega (arith, m.below)))
      (λ (q : met_at < m.others). ne_eqb (cell index (tried (home name) met_at)) empty (m.before met_at q))
      (eq-or-lt_of_le met_reached)

  pub met_found : look_up_in w index name ≡ Some (cell index (tried (home name) met_at))
  met_found =
      found_within w index name (omega (arith, met_reached, m.within))
      ∙ held_number_held (cell index (tried (home name) met_at)) met_held

-- and who is found was met
pub found_met : (w index : List ℕ) (name i : ℕ) → length index ≡ cells → look_up_in w index name ≡ Some i → NameMet w index name
found_met w index name i whole e = go (dec_lt (last w index name) cells)
  where
    go : Dec (last w index name < cells) → NameMet w index name
    go (yes l) =
        let held = cell index (tried (home name) (last w index name)) in
        let same : held ≡ i = held_number_same held i (sym (found_within w index name l) ∙ e) in
        let of = found_of w index name i whole e in
        record {
          others = last w index name;
          within = l;
          below = rw same of.0;
          named = ap (name_of w) same ∙ of.1;
          before = λ s u. eqb-false (cell index (tried (home name) s)) empty (neither (is_empty (cell index (tried (home name) s))) _ (first_before (ending w index name) cells s u)).0;
        }
    go (no l) = absurd (some_none i (sym e ∙ found_past w index name whole (omega arith)))
