-- Laws of the built index: probing from its name's home meets every booking before an empty cell, so a lookup finds what the plain search finds.
use Rattle.std.specs.Prelude.{None, Option, Some}
use mathlib.Core.Path.{◌≡◌, refl, sym, ap, subst, ◌∙◌}
use mathlib.Core.Bool.{true, false, not, true≢false}
use mathlib.Core.List.{List}
use mathlib.Core.Logic.{⊎_elim}
use Prim.Native.Nat.{ℕ, suc, ◌+◌, ◌<◌, ◌≤◌}
use native.Mathlib.Nat.{eq-or-lt_of_le, le_of_suc-le-suc}
use native.Mathlib.Omega.{arith}
use lib.ListN.{length, set, length-set, length-replicate, get_or-replicate}
use lib.Seq.{get_or-set_same, get_or-set_other}
use borrow.Author.Tests.{eqb-false, ne_eqb}
use Rattle.loops.specs.Turns.{up_to}
use Rattle.loops.specs.Total.{bit, count}
use Rattle.loops.proofs.Search.{first_hit, first_before}
use Rattle.loops.proofs.Turns.{up_to_kept, up_to_carried, up_to_same, up_to_more}
use Rattle.loops.proofs.Total.{total_other, count_all, count_none}
use Rattle.rules.specs.Layout.{most_bookings, bookings, name_of}
use Rattle.rules.specs.Book.{look_up}
use Rattle.rules.specs.Sound.{Sound}
use Rattle.rule_laws.proofs.Lookup.{found_below_lem, found_name}
use Rattle.name_index.specs.Index.{cells, empty, cell, is_empty, home, tried, passed, probe, look_up_in, is_full, with_number, empty_index, built}
use Rattle.name_index.specs.AsRead.{NameMet}
use Rattle.name_index.proofs.Probing.{is_held, free_within, probe_met, some_none, found_plain, met_found}

-- ---- what is entered is met

-- probing from its name's home meets the number of booking j, and no empty cell before it
pub record Met (w index : List ℕ) (j : ℕ) : Type 0 where
  pub others : ℕ
  pub within : others < cells
  pub holds : cell index (tried (home (name_of w j)) others) ≡ j
  pub before : (s : ℕ) → s < others → is_empty (cell index (tried (home (name_of w j)) s)) ≡ false

-- the numbers below i were entered, and nothing else
pub record Filled (w : List ℕ) (i : ℕ) (index : List ℕ) : Type 0 where
  pub whole : length index ≡ cells
  pub held : count (is_held index) cells ≡ i
  pub met : (j : ℕ) → j < i → Met w index j

-- an index with fewer numbers than cells is not full
short_free : (index : List ℕ) → count (is_held index) cells < cells → is_full index ≡ false
short_free index l = sym (count_all (is_held index) cells) ∙ ne_eqb (count (is_held index) cells) cells (omega arith)

module _ (w index : List ℕ) (i : ℕ) (f : Filled w i index) (l : i < cells) where
  abbrev h : ℕ
  h = home (name_of w i)

  abbrev t : ℕ
  t = passed is_empty index h

  abbrev place : ℕ
  place = tried h t

  abbrev entered : List ℕ
  entered = set index place i

  ends : t < cells
  ends =
      free_within index h (omega arith) (short_free index (omega (arith, f.held)))

  was_empty : is_empty (cell index place) ≡ true
  was_empty = first_hit (λ s. is_empty (cell index (tried h s))) cells ends

  with_number_is : with_number w i index ≡ entered
  unfolding with_number
  with_number_is = ap (λ c. set index c i) (probe_met is_empty index h ends)

  cell_entered : cell entered place ≡ i
  cell_entered = get_or-set_same index place i empty (omega (arith, f.whole))

  -- every cell that was held holds the same
  cell_kept : (c : ℕ) → is_empty (cell index c) ≡ false → cell entered c ≡ cell index c
  cell_kept c e = get_or-set_other index place c i empty (λ q. true≢false (sym was_empty ∙ ap (λ x. is_empty (cell index x)) (sym q) ∙ e))

  not_empty : is_empty i ≡ false
  not_empty = ne_eqb i empty (omega arith)

  still_held : (c : ℕ) → is_empty (cell index c) ≡ false → is_empty (cell entered c) ≡ false
  still_held c e = ap is_empty (cell_kept c e) ∙ e

  entered_held : count (is_held entered) cells ≡ suc i
  entered_held =
      omega (
        arith,
        f.held,
        total_other (λ c. bit (is_held index c)) (λ c. bit (is_held entered c)) cells place 1 (omega arith)
            (ap (λ x. bit (not (is_empty x))) cell_entered ∙ ap (λ b. bit (not b)) not_empty ∙ ap (λ b. bit (not b) + 1) (sym was_empty))
            (λ c u d. ap (λ x. bit (not (is_empty x))) (get_or-set_other index place c i empty d)),
      )

  entered_met : (j : ℕ) → j < suc i → Met w entered j
  entered_met j u =
      ⊎_elim
      (λ (q : j ≡ i). subst (Met w entered) (sym q) (record {
        others = t;
        within = ends;
        holds = cell_entered;
        before = λ s v. still_held (tried h s) (first_before (λ s. is_empty (cell index (tried h s))) cells s v);
      }))
      (λ (q : j < i).
      let m = f.met j q in
      let e : is_empty (cell index (tried (home (name_of w j)) m.others)) ≡ false = ap is_empty m.holds ∙ ne_eqb j empty (omega arith) in
      record {
        others = m.others;
        within = m.within;
        holds = cell_kept _ e ∙ m.holds;
        before = λ s v. still_held _ (m.before s v);
      })
      (eq-or-lt_of_le (le_of_suc-le-suc u))

  Filled_more : Filled w (suc i) (with_number w i index)
  Filled_more = subst (Filled w (suc i)) (sym with_number_is) (record { whole = length-set index place i ∙ f.whole; held = entered_held; met = entered_met })

Filled_none : (w : List ℕ) → Filled w 0 empty_index
Filled_none w = record {
  whole = length-replicate cells empty;
  held = count_none (is_held empty_index) cells (λ c l. ap (λ x. not (is_empty x)) (get_or-replicate cells c empty empty l));
  met = λ j l. absurd (omega arith);
}

pub Filled_built : (w : List ℕ) → bookings w ≤ most_bookings → Filled w (bookings w) (built w)
unfolding built
Filled_built w l = up_to_carried (with_number w) (Filled w) (bookings w) (λ j u index f. Filled_more w index j f (omega arith)) empty_index (Filled_none w)

-- ---- by the built index a lookup finds what the plain search finds

-- who is met, by name
name_met : (w index : List ℕ) (j : ℕ) → Met w index j → j < bookings w → NameMet w index (name_of w j)
name_met w index j m l = record {
  others = m.others;
  within = m.within;
  below = rw m.holds l;
  named = ap (name_of w) m.holds;
  before = λ s u. eqb-false (cell index (tried (home (name_of w j)) s)) empty (m.before s u);
}

pub built_look_up : (w : List ℕ) (name : ℕ) → Sound w → look_up_in w (built w) name ≡ look_up w name
built_look_up w name sound = go (look_up w name) refl (look_up_in w (built w) name) refl
  where
    filled : Filled w (bookings w) (built w)
    filled = Filled_built w sound.bookings_most

    go : (f : Option ℕ) → look_up w name ≡ f → (g : Option ℕ) → look_up_in w (built w) name ≡ g → g ≡ f
    go f e (Some i) d = sym (found_plain w (built w) name i sound filled.whole d) ∙ e
    go (Some j) e None d =
        let l : j < bookings w = found_below_lem w name j e in
        let s : look_up_in w (built w) (name_of w j) ≡ None = ap (look_up_in w (built w)) (found_name w name j e) ∙ d in
        absurd (some_none _ (sym (met_found w (built w) (name_of w j) (name_met w (built w) j (filled.met j l) l) sound.bookings_most) ∙ s))
    go None e None d = refl

-- ---- entering keeps an index built

-- who has the same name is entered alike
with_number_same : (w v : List ℕ) (i : ℕ) → name_of w i ≡ name_of v i → (index : List ℕ) → with_number w i index ≡ with_number v i index
unfolding with_number
with_number_same w v i e index = ap (λ x. set index (probe is_empty index (home x)) i) e

-- so the built index is told by how many bookings there are, and by their names
pub built_same : (w v : List ℕ) → bookings v ≡ bookings w → ((i : ℕ) → i < bookings w → name_of v i ≡ name_of w i) → built v ≡ built w
unfolding built
built_same w v e names =
    ap (λ n. up_to (with_number v) n empty_index) e
    ∙ up_to_same (with_number v) (with_number w) (bookings w) (λ i l. with_number_same v w i (names i l)) empty_index

-- one booking more
pub built_more : (w v : List ℕ) → bookings v ≡ bookings w + 1 → ((i : ℕ) → i < bookings w → name_of v i ≡ name_of w i)
    → with_number v (bookings w) (built w) ≡ built v
unfolding built
built_more w v e names =
    ap (with_number v (bookings w)) (up_to_same (with_number w) (with_number v) (bookings w) (λ i l. with_number_same w v i (sym (names i l))) empty_index)
    ∙ sym (up_to_more (with_number v) (bookings w) empty_index) ∙ ap (λ n. up_to (with_number v) n empty_index) (sym e)

-- a built index is never full: it has room for one booking more
pub built_free : (w : List ℕ) → bookings w ≤ most_bookings → is_full (built w) ≡ false
built_free w l = short_free (built w) (omega (arith, (Filled_built w l).held))

-- it has as many cells as an index has, of any words
pub built_whole : (w : List ℕ) → length (built w) ≡ cells
unfolding built with_number
built_whole w =
    up_to_kept (with_number w) (λ index. length index ≡ cells) (bookings w)
    (λ j l index e. length-set index (probe is_empty index (home (name_of w j))) j ∙ e) empty_index (length-replicate cells empty)
