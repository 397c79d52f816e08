-- The bits set are the slots of the marks before place a, which differ; the offset is behind the bookings that were walked, not past the next marked one.
use mathlib.Core.Path.{◌≡◌, sym, ap, ap₂, ◌∙◌}
use mathlib.Core.Bool.{not}
use Prim.Native.Nat.{ℕ, ◌+◌, ◌-◌, ◌<◌}
use native.Mathlib.Omega.{arith}
use lib.ListN.{length, get_or, drop}
use borrow.Author.Tests.{eq-eqb}
use Rattle.loops.specs.Search.{first}
use Rattle.loops.proofs.Search.{search_start, search_miss, search_over, all_fails, any_none}
use Rattle.bits.specs.Bits.{with_bit}
use Rattle.bits.proofs.SetBelow.{set_below_zero, set_below_more}
use Rattle.day_file.specs.Day.{slot_in}
use Rattle.day_file.specs.Decode.{read_booking, decode, marks_in}
use Rattle.day_file.specs.Marks.{slot_marked}
use Rattle.day_marks.proofs.MarkNumbers.{good_long}
use Rattle.day_marks.proofs.Readers.{many_none}
use Rattle.day_marks.proofs.MarkSlots.{rows, slot_of_mark, marks_counted, marks_risen, mark_above, walked_further, slot_read, slot_asked}
use Rattle.day_marks.proofs.slots_differ.Invariants.{is_twice}
use Rattle.day_marks.proofs.slots_differ.Goals as goal

pub loop-a-init : goal.loop-a-init
loop-a-init c =
    let bs = (decode c.args.file.now).bookings in
    let marks = marks_in c.args.section.now in
    let many : c.number_at-count.result ≡ length marks = marks_counted c.args.file.now c.args.section.now c.requires.0 c.number_at-count.result c.number_at-count.ensures.0 in
    let risen = marks_risen c.args.file.now c.args.section.now c.requires.0 c.number_at-count.result c.number_at-count.ensures.0 in
    let slots = slot_of_mark bs marks in
    let some : 0 < c.number_at-count.result = omega (arith, many, risen.some) in (
      omega arith,
      some,
      c.past-at.ensures.0,
      c.past-at.ensures.1 ∙ ap (drop 2) c.bookings_start.ensures.1 ∙ sym (many_none read_booking (rows c.args.file.now)),
      omega arith,
      c.set_bit.ensures ∙ ap₂ with_bit (sym (ap (slot_in bs) risen.genesis)) (sym (set_below_zero slots)) ∙ sym (set_below_more slots 0),
      search_miss _ _ 0 (search_start (is_twice c.args.file.now c.args.section.now) c.number_at-count.result) some (ap (λ t. not (not t)) (any_none _)),
    )

pub mark_at-j-requires : goal.mark_at-j-requires
mark_at-j-requires c =
    let many = marks_counted c.args.file.now c.args.section.now c.requires.0 c.number_at-count.result c.number_at-count.ensures.0 in
    let long = good_long (length (decode c.args.file.now).bookings + 1) c.args.section.now c.requires.0 in
    (omega (arith, many), omega (arith, long))

pub overflow_sub-j : goal.overflow_sub-j
overflow_sub-j c =
    let T = c.loop-a in
    omega (arith, mark_above c.args.file.now c.args.section.now c.requires.0 c.number_at-count.result c.number_at-count.ensures.0 T.a T.walked c.mark_at-j.result (omega arith) (omega arith) T.invariant.4 c.mark_at-j.ensures)

pub overflow_sub-j-in-loop-a : goal.overflow_sub-j-in-loop-a
overflow_sub-j-in-loop-a c =
    let T = c.loop-a in
    omega (arith, mark_above c.args.file.now c.args.section.now c.requires.0 c.number_at-count.result c.number_at-count.ensures.0 T.a T.walked c.mark_at-j.result (omega arith) (omega arith) T.invariant.4 c.mark_at-j.ensures)

pub returns-then-is_set : goal.returns-then-is_set
returns-then-is_set c =
    let T = c.loop-a in
    let bs = (decode c.args.file.now).bookings in
    let marks = marks_in c.args.section.now in
    let many = marks_counted c.args.file.now c.args.section.now c.requires.0 c.number_at-count.result c.number_at-count.ensures.0 in
    let asked : c.is_set.result ≡ slot_marked bs marks T.a = c.is_set.ensures ∙ slot_asked c.args.file.now c.args.section.now c.requires.0 c.number_at-count.result c.number_at-count.ensures.0 T.a T.walked c.mark_at-j.result (omega arith) (omega arith) T.invariant.4 c.mark_at-j.ensures T.at c.bookings_end-at.result c.past.result c.number_at-slot.result T.invariant.3 c.bookings_end-at.ensures.1 c.past.ensures.1 c.number_at-slot.ensures.0 c.requires.1 T.seen T.invariant.5 in
    sym (all_fails (λ b. not (slot_marked bs marks b)) (length marks) T.a (omega (arith, many)) (ap not (sym asked ∙ c.if-is_set.true)))

pub loop-a-preserved : goal.loop-a-preserved
loop-a-preserved c =
    let T = c.loop-a in
    let bs = (decode c.args.file.now).bookings in
    let marks = marks_in c.args.section.now in
    let here : T.a + 1 - 1 ≡ T.a = omega arith in
    let asked : c.is_set.result ≡ slot_marked bs marks T.a = c.is_set.ensures ∙ slot_asked c.args.file.now c.args.section.now c.requires.0 c.number_at-count.result c.number_at-count.ensures.0 T.a T.walked c.mark_at-j.result (omega arith) (omega arith) T.invariant.4 c.mark_at-j.ensures T.at c.bookings_end-at.result c.past.result c.number_at-slot.result T.invariant.3 c.bookings_end-at.ensures.1 c.past.ensures.1 c.number_at-slot.ensures.0 c.requires.1 T.seen T.invariant.5 in (
      omega arith,
      omega arith,
      c.bookings_end-at.ensures.0,
      walked_further c.args.file.now c.args.section.now c.requires.0 c.number_at-count.result c.number_at-count.ensures.0 T.a T.walked c.mark_at-j.result (omega arith) (omega arith) T.invariant.4 c.mark_at-j.ensures T.at c.bookings_end-at.result c.past.result c.number_at-slot.result T.invariant.3 c.bookings_end-at.ensures.1 c.past.ensures.1 c.number_at-slot.ensures.0,
      omega (arith, c.mark_at-j.ensures, ap (λ (k : ℕ). get_or marks k 0) here),
      c.set_bit-in-loop-a.ensures ∙ ap₂ with_bit (slot_read c.args.file.now c.args.section.now c.requires.0 c.number_at-count.result c.number_at-count.ensures.0 T.a T.walked c.mark_at-j.result (omega arith) (omega arith) T.invariant.4 c.mark_at-j.ensures T.at c.bookings_end-at.result c.past.result c.number_at-slot.result T.invariant.3 c.bookings_end-at.ensures.1 c.past.ensures.1 c.number_at-slot.ensures.0) T.invariant.5 ∙ sym (set_below_more (slot_of_mark bs marks) T.a),
      search_miss _ _ _ T.invariant.6 (omega arith) (ap (λ t. not (not t)) (sym asked ∙ c.if-is_set.false)),
    )

pub returns : goal.returns
returns c =
    let many = marks_counted c.args.file.now c.args.section.now c.requires.0 c.number_at-count.result c.number_at-count.ensures.0 in
    let over = search_over _ _ _ c.loop-a.invariant.6 (omega arith) in
    let end : c.loop-a.a ≡ c.number_at-count.result = omega arith in
    sym (eq-eqb _ _ (ap (λ (k : ℕ). first (is_twice c.args.file.now c.args.section.now) k) (sym many) ∙ over ∙ end ∙ many))
