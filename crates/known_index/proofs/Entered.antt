-- The cell that was found for a number: whether there is one, and what is written.
use mathlib.Core.Path.{◌≡◌, sym, ap, ◌∙◌}
use mathlib.Core.Bool.{true, false}
use mathlib.Core.List.{List}
use Prim.Native.Nat.{ℕ, ◌<◌}
use native.Mathlib.Decide.{dec_lt}
use native.Mathlib.Omega.{arith}
use lib.ListN.{length, set}
use lib.Seq.{set_out}
use borrow.Author.Tests.{eq-eqb, ne_eqb}
use Rattle.std.specs.Prelude.{Some, None}
use Rattle.loops.specs.Search.{found_below}
use Rattle.loops.proofs.Search.{found_some→, found_none→}
use Rattle.rules.specs.Layout.{name_of}
use Rattle.name_index.specs.Index.{cells, is_empty, home, passed, probe, is_full, with_number}
use Rattle.name_index.proofs.Probing.{probe_met, probe_over, full_over, full_probed}

module _ (w index : List ℕ) where
  -- number i is entered from its name's home h on
  module _ (i : ℕ) {h : ℕ} (at_home : h ≡ home (name_of w i)) where
    h_within : h < cells
    h_within = omega (arith, at_home)

    -- cell c was found
    module _ {c : ℕ} (found : Some c ≡ found_below cells (probe is_empty index h)) where
      here : (c ≡ probe is_empty index h) × (probe is_empty index h < cells)
      here = found_some→ cells (probe is_empty index h) c found

      pub room_found : is_full index ≡ false
      room_found = full_probed index h h_within ∙ ne_eqb (probe is_empty index h) cells (λ e. omega (arith, here))

      pub found_within : c < cells
      found_within = omega (arith, here)

      pub number_written : {v : ℕ} → v ≡ i → set index c v ≡ with_number w i index
      unfolding with_number
      number_written e = ap (set index c) e ∙ ap (λ c. set index c i) (here.0 ∙ ap (probe is_empty index) at_home)

    -- none was found
    module _ (none : None ≡ found_below cells (probe is_empty index h)) where
      past : probe is_empty index h ≡ cells
      past = go (dec_lt (passed is_empty index h) cells)
        where
          go : Dec (passed is_empty index h < cells) → probe is_empty index h ≡ cells
          go (yes l) = absurd (omega (arith, probe_met is_empty index h l, found_none→ cells (probe is_empty index h) none))
          go (no l) = probe_over is_empty index h (omega arith)

      pub no_room_found : is_full index ≡ true
      no_room_found = full_probed index h h_within ∙ eq-eqb (probe is_empty index h) cells past

      pub nothing_written : length index ≡ cells → index ≡ with_number w i index
      unfolding with_number
      nothing_written whole = sym (ap (λ h. set index (probe is_empty index h) i) (sym at_home) ∙ set_out index (probe is_empty index h) i (omega (arith, whole, past)))

  -- a full index stays as it is
  pub full_kept : length index ≡ cells → is_full index ≡ true → (i : ℕ) → with_number w i index ≡ index
  unfolding with_number
  full_kept whole e i =
      let h = home (name_of w i) in
      set_out index (probe is_empty index h) i (omega (arith, whole, probe_over is_empty index h (omega (arith, full_over index h e))))
