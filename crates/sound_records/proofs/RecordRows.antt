-- The lowest record row that breaks a rule, by what the passes find: one below n, then n itself, then one from n on.
use mathlib.Core.Path.{◌≡◌, refl, ap, ◌∙◌}
use mathlib.Core.Bool.{Bool, true, false, not, ◌&&◌, ◌||◌, and-false}
use mathlib.Core.List.{List}
use mathlib.Core.Logic.{◌≢◌}
use Prim.Native.Nat.{ℕ, ◌≤◌, ◌<◌}
use native.Mathlib.Decide.{dec_lt}
use native.Mathlib.Omega.{arith}
use lib.Dec.{leb, eqb}
use borrow.Author.Tests.{lt-ltb, le-ltb, eq-eqb, not-false}
use Rattle.loops.specs.Search.{first}
use Rattle.loops.proofs.Search.{first_le, first_hit, first_before, first_unique, first_from_same}
use Rattle.rules.specs.Layout.{most_bookings, bookings}
use Rattle.rules.specs.IsSound.{record_good, ordinals_held, record_zero, record_row, record_rows, bad_record}
use Rattle.sound_records.specs.Rest.{is_clear}

-- the lowest record below n that breaks a rule, or n
abbrev pub lowest_below : List ℕ → ℕ
lowest_below w = first (λ i. not (record_good w i)) (bookings w)

module _ (w : List ℕ) (fits : bookings w ≤ most_bookings) where
  row_below : (i : ℕ) → i < bookings w → record_row w i ≡ record_good w i
  row_below i u = rw (lt-ltb i (bookings w) u)

  kept_before : (j : ℕ) → j < lowest_below w → record_row w j ≡ true
  kept_before j u =
      row_below j (omega (arith, first_le (λ i. not (record_good w i)) (bookings w)))
      ∙ not-false (record_good w j) (first_before (λ i. not (record_good w i)) (bookings w) j u)

  pub damaged_below : lowest_below w ≢ bookings w → bad_record w ≡ lowest_below w
  unfolding bad_record
  damaged_below differs =
      let u : lowest_below w < bookings w = omega (arith, first_le (λ i. not (record_good w i)) (bookings w), differs) in
      first_unique (λ i. not (record_row w i)) record_rows (lowest_below w) (omega arith)
      (ap not (row_below (lowest_below w) u) ∙ first_hit (λ i. not (record_good w i)) (bookings w) u)
      (λ j l. ap not (kept_before j l))

  module _ (all-good : lowest_below w ≡ bookings w) where
    pub good_before : (j : ℕ) → j < bookings w → record_row w j ≡ true
    good_before j u = kept_before j (omega arith)

    -- row n, where every ordinal is held or not
    row_n : {held : Bool} → ordinals_held w ≡ held → record_row w (bookings w) ≡ (leb most_bookings (bookings w) || record_zero w (bookings w)) && held
    row_n e = rw (le-ltb (bookings w) (bookings w) (omega arith), eq-eqb (bookings w) (bookings w) (omega arith), e)

    pub ordinal_missing : ordinals_held w ≡ false → bad_record w ≡ bookings w
    unfolding bad_record
    ordinal_missing missing =
        first_unique (λ i. not (record_row w i)) record_rows (bookings w) (omega arith)
        (ap not (row_n missing ∙ and-false (leb most_bookings (bookings w) || record_zero w (bookings w))))
        (λ j l. ap not (good_before j l))

    pub damaged_rest : ordinals_held w ≡ true → bad_record w ≡ first (λ i. not (is_clear w i)) record_rows
    unfolding bad_record
    damaged_rest held =
        first_from_same (λ i. not (record_row w i)) (λ i. not (is_clear w i)) 0 record_rows (λ j l u. ap not (same j (dec_lt j (bookings w))))
      where
        charged : (z t : Bool) → (z && (t || true)) ≡ z
        charged true true = refl
        charged true false = refl
        charged false true = refl
        charged false false = refl

        same : (j : ℕ) → Dec (j < bookings w) → record_row w j ≡ is_clear w j
        same j (yes u) = good_before j u ∙ rw (lt-ltb j (bookings w) u)
        same j (no h) =
            rw (le-ltb j (bookings w) (omega arith), held) (charged (leb most_bookings j || record_zero w j) (not (eqb j (bookings w))))
