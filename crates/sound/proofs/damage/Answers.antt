-- A good header tells that n fits and p is below it; on that the searches name the lowest rows, and the tests in their order decide.
use mathlib.Core.Path.{◌≡◌, sym, ◌∙◌}
use mathlib.Core.Bool.{true}
use mathlib.Core.List.{List}
use Prim.Native.Nat.{ℕ}
use native.Mathlib.Omega.{arith}
use lib.ListN.{length}
use Rattle.std.specs.Prelude.{None}
use Rattle.loops.specs.Search.{found_below}
use Rattle.loops.proofs.Search.{found_some→, found_none→}
use Rattle.rules.specs.Layout.{size, slots, bookings}
use Rattle.rules.specs.IsSound.{header_good, record_rows, bad_record, bad_slot}
use Rattle.sound_rows.specs.HasBookings.{HasBookings}
use Rattle.rule_laws.proofs.RowRules.{header_good→Rules, bad_record_most, bad_slot_most}
use Rattle.rule_laws.proofs.Tested.{damage_header, damage_record, damage_slot, damage_none}
use Rattle.sound.proofs.damage.Goals as goal

-- the number read is one that a good header allows
has_bookings : (w : List ℕ) (n : ℕ) → length w ≡ size → header_good w ≡ true → n ≡ bookings w → HasBookings w n
has_bookings w n whole good counts =
    record { whole = whole; counts = counts; fits = omega (arith, (header_good→Rules w good).bookings_most) }

pub returns-then-not-header_good : goal.returns-then-not-header_good
returns-then-not-header_good c = damage_header _ (sym c.header_good.ensures ∙ c.if-not-header_good.true)

pub chits-limit-requires : goal.chits-limit-requires
chits-limit-requires c = has_bookings c.args.w.now _ c.requires (sym c.header_good.ensures ∙ c.if-not-header_good.false) (c.wide-n.ensures.0 ∙ c.header.ensures)

pub bad_row-requires : goal.bad_row-requires
bad_row-requires c =
    let header = header_good→Rules _ (sym c.header_good.ensures ∙ c.if-not-header_good.false) in (
      has_bookings c.args.w.now _ c.requires (sym c.header_good.ensures ∙ c.if-not-header_good.false) (c.wide-n.ensures.0 ∙ c.header.ensures),
      omega (arith, c.wide-n.ensures.0, c.header.ensures, header.polls_most),
      c.chits-limit.ensures,
    )

pub returns-in-Some : goal.returns-in-Some
returns-in-Some c =
    let row = found_some→ record_rows (bad_record c.args.w.now) c.in-Some.row (sym c.in-Some.is ∙ c.bad_row.ensures) in
    damage_record _ (sym c.header_good.ensures ∙ c.if-not-header_good.false) c.in-Some.row row.0 (λ e. omega arith)

pub bad_slot-requires : goal.bad_slot-requires
bad_slot-requires c =
    (has_bookings c.args.w.now _ c.requires (sym c.header_good.ensures ∙ c.if-not-header_good.false) (c.wide-n.ensures.0 ∙ c.header.ensures), c.chits-limit.ensures)

-- no row is damaged
rows_good : (w : List ℕ) → None ≡ found_below record_rows (bad_record w) → record_rows ≡ bad_record w
rows_good w e = omega (arith, bad_record_most w, found_none→ record_rows (bad_record w) e)

pub returns-in-Some-bad_slot : goal.returns-in-Some-bad_slot
returns-in-Some-bad_slot c =
    let slot = found_some→ slots (bad_slot c.args.w.now) c.in-Some-bad_slot.slot (sym c.in-Some-bad_slot.is ∙ c.bad_slot.ensures) in
    damage_slot _ (sym c.header_good.ensures ∙ c.if-not-header_good.false) (rows_good c.args.w.now (sym c.in_default.is ∙ c.bad_row.ensures)) c.in-Some-bad_slot.slot slot.0 (λ e. omega arith)

pub returns : goal.returns
returns c =
    damage_none _ (sym c.header_good.ensures ∙ c.if-not-header_good.false) (rows_good c.args.w.now (sym c.in_default.is ∙ c.bad_row.ensures))
    (omega (arith, bad_slot_most c.args.w.now, found_none→ slots (bad_slot c.args.w.now) (sym c.in_default-bad_slot.is ∙ c.bad_slot.ensures)))
