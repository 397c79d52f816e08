-- A record below n that is bad is the lowest row. Where none is, the bits are all the ordinals held, and tell whether row n is, before the rest.
use mathlib.Core.Path.{◌≡◌, refl, sym, ap, ◌∙◌}
use mathlib.Core.Bool.{true, false, not}
use mathlib.Core.List.{List}
use Prim.Native.Nat.{ℕ, ◌+◌, ◌≤◌, ◌<◌}
use native.Mathlib.Omega.{arith}
use Rattle.bits.specs.Bits.{bit_at}
use Rattle.std.specs.Prelude.{Some, None}
use Rattle.loops.specs.Search.{first, all, found_below}
use Rattle.loops.proofs.Search.{first_le, found_some, found_some→, found_none→}
use Rattle.rules.specs.Layout.{most_bookings, bookings, polls, name_of, ordinal_of}
use Rattle.rules.specs.IsSound.{record_good, ordinals_held, record_rows, bad_record}
use Rattle.bits.proofs.SetBelow.{set_below_zero}
use Rattle.name_filter.proofs.Names.{names_noted_zero}
use Rattle.sound_rows.specs.HasBookings.{HasBookings}
use Rattle.sound_records.specs.Ordinals.{ordinals_below, SeenTo}
use Rattle.sound_records.specs.Rest.{is_clear}
use Rattle.sound_records.proofs.Seen.{seen_held, seen_to}
use Rattle.sound_records.proofs.RecordRows.{lowest_below, damaged_below, ordinal_missing, damaged_rest}
use Rattle.sound_records.proofs.bad_row.Goals as goal

-- after the first pass, over the records below n: what it left seen
module _ (w seen : List ℕ) (n p : ℕ) (has : HasBookings w n) (few : polls w < n) (polled : p ≡ polls w) (left : seen ≡ ordinals_below w (first (λ i. not (record_good w i)) n)) where
  fits : bookings w ≤ most_bookings
  fits = omega (arith, has.counts, has.fits)

  lowest : first (λ i. not (record_good w i)) n ≡ lowest_below w
  lowest = ap (first (λ i. not (record_good w i))) has.counts

  -- it found a row
  some_bad : (row : ℕ) → Some row ≡ found_below n (first (λ i. not (record_good w i)) n) → Some row ≡ found_below record_rows (bad_record w)
  some_bad row e =
      let f = found_some→ n (first (λ i. not (record_good w i)) n) row e in
      let q : bad_record w ≡ row = damaged_below w fits (λ q. omega (arith, f, lowest, has.counts)) ∙ sym (f.0 ∙ lowest) in
      rw q (sym (found_some record_rows row (omega arith)))

  -- it found none
  module _ (none : None ≡ found_below n (first (λ i. not (record_good w i)) n)) where
    reached : first (λ i. not (record_good w i)) n ≡ bookings w
    reached = omega (arith, has.counts, found_none→ n (first (λ i. not (record_good w i)) n) none, first_le (λ i. not (record_good w i)) n)

    none_below : lowest_below w ≡ bookings w
    none_below = sym lowest ∙ reached

    all_below_seen : SeenTo p seen
    all_below_seen = seen_to w seen p _ (omega (arith, has.counts)) fits polled left reached none_below

    -- the bits tell whether each ordinal is held
    held : all (λ o. bit_at seen (o + 1)) p ≡ ordinals_held w
    held = seen_held w seen p _ (omega (arith, has.counts)) fits polled left reached

    none_missing : all (λ o. bit_at seen (o + 1)) p ≡ true → bad_record w ≡ first (λ i. not (is_clear w i)) record_rows
    none_missing e = damaged_rest w fits none_below (sym held ∙ e)

    some_missing : all (λ o. bit_at seen (o + 1)) p ≡ false → Some n ≡ found_below record_rows (bad_record w)
    some_missing e =
        let q : bad_record w ≡ n = ordinal_missing w fits none_below (sym held ∙ e) ∙ sym has.counts in
        rw q (sym (found_some record_rows n (omega arith)))

pub bad_record-requires-clause-has_bookings : goal.bad_record-requires-clause-has_bookings
bad_record-requires-clause-has_bookings c =
    (c.requires.0, record { whole = c.requires.0.whole; within = omega arith; polled = omega arith; lower = sym (set_below_zero (ordinal_of c.args.w.now)) }, c.requires.2)

pub bad_record-requires-clause-filter_value : goal.bad_record-requires-clause-filter_value
bad_record-requires-clause-filter_value c = (sym (names_noted_zero (name_of c.args.w.now)), refl)

pub returns-in-Some : goal.returns-in-Some
returns-in-Some c =
    some_bad c.args.w.now _ c.args.n _ c.requires.0 c.requires.1 (c.wide-p.ensures.0 ∙ c.header.ensures) c.bad_record.ensures.1 c.in-Some.row (sym c.in-Some.is ∙ c.bad_record.ensures.0)

pub all_seen-requires : goal.all_seen-requires
all_seen-requires c =
    all_below_seen c.args.w.now _ c.args.n _ c.requires.0 c.requires.1 (c.wide-p.ensures.0 ∙ c.header.ensures) c.bad_record.ensures.1 (sym c.in_default.is ∙ c.bad_record.ensures.0)

pub returns-then-not-all_seen : goal.returns-then-not-all_seen
returns-then-not-all_seen c =
    some_missing c.args.w.now _ c.args.n _ c.requires.0 c.requires.1 (c.wide-p.ensures.0 ∙ c.header.ensures) c.bad_record.ensures.1 (sym c.in_default.is ∙ c.bad_record.ensures.0) (sym c.all_seen.ensures ∙ c.if-not-all_seen.true)

pub returns : goal.returns
returns c =
    c.stray_record.ensures
    ∙ ap (found_below record_rows) (sym (none_missing c.args.w.now _ c.args.n _ c.requires.0 c.requires.1 (c.wide-p.ensures.0 ∙ c.header.ensures) c.bad_record.ensures.1 (sym c.in_default.is ∙ c.bad_record.ensures.0) (sym c.all_seen.ensures ∙ c.if-not-all_seen.false)))
