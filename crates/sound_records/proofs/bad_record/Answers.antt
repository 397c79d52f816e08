-- The search for a record that breaks a rule is what is left to search from i on; bits and filter are those of the records below i.
use mathlib.Core.Path.{sym, ap, ◌∙◌}
use mathlib.Core.Bool.{not}
use native.Mathlib.Omega.{arith}
use Rattle.loops.proofs.Search.{search_start, search_hit, search_miss, search_over, found_some, found_none}
use Rattle.bits.specs.Bits.{with_bit}
use Rattle.bits.proofs.SetBelow.{set_below_zero, set_below_more}
use Rattle.name_filter.proofs.Names.{names_noted_more}
use Rattle.marked_slots.specs.MarkedSlots.{marked_slot}
use Rattle.sound_records.proofs.bad_record.Goals as goal

pub loop-i-init : goal.loop-i-init
loop-i-init c = (
  omega arith,
  c.requires.has_bookings.1.lower,
  c.requires.filter_value.0,
  c.requires.filter_value.1 ∙ sym (set_below_zero (marked_slot c.args.w.now)),
  search_start _ _,
)

pub returns-then-not-record_good : goal.returns-then-not-record_good
returns-then-not-record_good c =
    let L = c.loop-i in
    let e = search_hit _ _ _ L.invariant.4 (omega arith) (ap not (sym c.record_good.ensures ∙ c.if-not-record_good.true)) in
    (rw e (sym (found_some c.args.n L.i (omega arith))), rw e L.invariant.1)

pub loop-i-preserved : goal.loop-i-preserved
loop-i-preserved c =
    let T = c.loop-i in (
      omega arith,
      rw (set_below_more, ← T.invariant.1, ← c.wide_field-o.ensures) c.set_bit.ensures,
      rw (names_noted_more, ← T.invariant.2) c.enter-fresh.ensures.1,
      c.note_mark.ensures ∙ ap (with_bit (marked_slot c.args.w.now T.i)) T.invariant.3 ∙ sym (set_below_more (marked_slot c.args.w.now) T.i),
      search_miss _ _ _ T.invariant.4 (omega arith) (ap not (sym c.record_good.ensures ∙ c.if-not-record_good.false)),
    )

pub returns : goal.returns
returns c =
    let L = c.loop-i in
    let e = search_over _ _ _ L.invariant.4 (omega arith) in
    (rw e (sym (found_none c.args.n L.i (omega arith))), rw e L.invariant.1)
