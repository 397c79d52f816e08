-- Probing as the code's loops have it: what was tried so far, how a turn goes on and how it ends, for an empty cell and for a name.
use Rattle.std.specs.Prelude.{None, Some}
use mathlib.Core.Path.{◌≡◌, refl, sym, ap, ◌∙◌}
use mathlib.Core.Bool.{Bool, true, false, and-false}
use mathlib.Core.List.{List, [], ◌∷◌}
use mathlib.Core.Logic.{◌≢◌}
use Prim.Native.Nat.{ℕ, zero, suc, ◌+◌, ◌<◌, ◌≤◌}
use native.Mathlib.Omega.{arith}
use lib.ListN.{length, get_or, get_or-eq_default}
use lib.Dec.{ltb, eqb}
use native.Mathlib.Decide.{dec_lt}
use borrow.Author.Tests.{eq-eqb, ne_eqb, lt-ltb, le-ltb}
use Rattle.std.specs.Option.{option_map}
use Rattle.loops.specs.Search.{first, found_below}
use Rattle.loops.proofs.Search.{found_some, found_none, first_from_same, Searched, search_start, search_hit, search_miss, search_over}
use Rattle.rules.specs.Layout.{bookings, name_of}
use Rattle.name_index.specs.Index.{cells, empty, cell, is_empty, home, tried, passed, probe, ends_lookup, held_number, look_up_in}

-- what a cell of the index holds, whatever is read past the end
cell_within : (index : List ℕ) (c : ℕ) → c < length index → get_or index c 0 ≡ cell index c
cell_within [] c l = absurd (omega arith)
cell_within (x ∷ rest) zero l = refl
cell_within (x ∷ rest) (suc c) l = cell_within rest c (omega arith)

module _ (index : List ℕ) (h : ℕ) where
  -- what the cell holds that is tried after t others, as it is read
  abbrev pub held_at : ℕ → ℕ
  held_at t = get_or index (tried h t) 0

  -- the first t cells from h on were tried, and none ended the probing
  abbrev pub Probed : (ends : ℕ → Bool) → ℕ → Type 0
  Probed ends t = Searched (λ t. ends (cell index (tried h t))) cells t

  pub probe_start : (ends : ℕ → Bool) → Probed ends 0
  probe_start ends = search_start (λ t. ends (cell index (tried h t))) cells

  module _ (whole : length index ≡ cells) (ends : ℕ → Bool) (t : ℕ) (s : Probed ends t) where
    as_read : held_at t ≡ cell index (tried h t)
    as_read = cell_within index (tried h t) (omega (arith, whole))

    probe_hit : t < cells → ends (held_at t) ≡ true → tried h t ≡ probe ends index h
    unfolding probe
    probe_hit l e = rw (search_hit (λ t. ends (cell index (tried h t))) cells t s l (ap ends (sym as_read) ∙ e), lt-ltb t cells l)

    probe_miss : t < cells → ends (held_at t) ≡ false → Probed ends (t + 1)
    probe_miss l e = search_miss (λ t. ends (cell index (tried h t))) cells t s l (ap ends (sym as_read) ∙ e)

    probe_end : cells ≤ t → cells ≡ probe ends index h
    unfolding probe
    probe_end l = rw (search_over (λ t. ends (cell index (tried h t))) cells t s l, le-ltb t cells l)

  -- ---- for an empty cell

  -- the first that holds what an empty cell holds, if one does
  pub free_probed : length index ≡ cells → option_map (tried h) (found_below cells (first (λ t. eqb (held_at t) empty) cells)) ≡ found_below cells (probe is_empty index h)
  unfolding probe
  free_probed whole = ap (λ k. option_map (tried h) (found_below cells k)) same ∙ go (dec_lt (passed is_empty index h) cells)
    where
      same : first (λ t. eqb (held_at t) empty) cells ≡ passed is_empty index h
      same = first_from_same _ _ 0 cells (λ t l u. ap is_empty (cell_within index (tried h t) (omega (arith, whole))))

      go : Dec (passed is_empty index h < cells) → option_map (tried h) (found_below cells (passed is_empty index h)) ≡ found_below cells (probe is_empty index h)
      go (yes l) = rw (lt-ltb (passed is_empty index h) cells l) (sym (found_some cells (tried h (passed is_empty index h)) (omega arith)))
      go (no l) = rw (le-ltb (passed is_empty index h) cells (omega arith)) (sym (found_none cells cells (omega arith)))

  -- ---- for a name, from its home on

  module _ (w : List ℕ) (name : ℕ) (whole : length index ≡ cells) (t : ℕ) (s : Probed (ends_lookup w name) t) where
    -- the cell where it ends tells what is found
    found_at : h ≡ home name → {c : ℕ} → c ≡ probe (ends_lookup w name) index h → held_number (cell index c) ≡ look_up_in w index name
    unfolding look_up_in
    found_at e q = ap (λ c. held_number (cell index c)) q ∙ ap (λ h. held_number (cell index (probe (ends_lookup w name) index h))) e

    pub find_empty : h ≡ home name → t < cells → held_at t ≡ empty → None ≡ look_up_in w index name
    find_empty e l v =
        let here : held_number (cell index (tried h t)) ≡ None = rw (← as_read whole (ends_lookup w name) t s, v) in
        sym here ∙ found_at e (probe_hit whole (ends_lookup w name) t s l (rw (eq-eqb (held_at t) empty v)))

    pub find_over : h ≡ home name → cells ≤ t → None ≡ look_up_in w index name
    find_over e l = ap held_number (sym (get_or-eq_default index empty (omega (arith, whole)))) ∙ found_at e (probe_end whole (ends_lookup w name) t s l)

    module _ (l : t < cells) (held : held_at t ≢ empty) where
      pub find_hit : h ≡ home name → held_at t < bookings w → name_of w (held_at t) ≡ name → Some (held_at t) ≡ look_up_in w index name
      find_hit e below named =
          let ending : ends_lookup w name (held_at t) ≡ true = rw (ne_eqb (held_at t) empty held, lt-ltb (held_at t) (bookings w) below, eq-eqb (name_of w (held_at t)) name named) in
          let here : held_number (held_at t) ≡ Some (held_at t) = rw (ne_eqb (held_at t) empty held) in
          sym here ∙ ap held_number (as_read whole (ends_lookup w name) t s) ∙ found_at e (probe_hit whole (ends_lookup w name) t s l ending)

      -- a number that is no booking's is passed over
      pub find_unused : bookings w ≤ held_at t → Probed (ends_lookup w name) (t + 1)
      find_unused past =
          probe_miss whole (ends_lookup w name) t s l (rw (ne_eqb (held_at t) empty held, le-ltb (held_at t) (bookings w) past))

      -- and so is another booking's
      pub find_other : name_of w (held_at t) ≢ name → Probed (ends_lookup w name) (t + 1)
      find_other other =
          probe_miss whole (ends_lookup w name) t s l (rw (ne_eqb (held_at t) empty held, ne_eqb (name_of w (held_at t)) name other) (and-false (ltb (held_at t) (bookings w))))
