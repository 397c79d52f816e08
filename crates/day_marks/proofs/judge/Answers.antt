-- The file is cut where its three sections end; a part that isn't good is none of a good file's, and where all are good, so is the file.
use mathlib.Core.Path.{sym, ◌∙◌}
use Rattle.std.proofs.lemmas.List.{take_rest}
use Rattle.day_marks.proofs.MarkSlots.{ledger_many}
use Rattle.day_marks.proofs.Whole.{front_bad, front_slots, numbers_bad, slots_bad, second_good}
use Rattle.day_marks.proofs.judge.Goals as goal

pub returns-then-not-is_good : goal.returns-then-not-is_good
returns-then-not-is_good c =
    let D = c.day_end-end in
    front_bad c.args.file.now D.result D.ensures.0 D.ensures.1 (sym c.is_good.ensures ∙ c.if-not-is_good.true)

pub returns-then-not-numbers_good : goal.returns-then-not-numbers_good
returns-then-not-numbers_good c =
    let D = c.day_end-end in
    numbers_bad c.args.file.now D.result D.ensures.0 D.ensures.1 (sym c.is_good.ensures ∙ c.if-not-is_good.false)
    (take_rest c.args.file.now D.result) (ledger_many c.args.file.now c.bookings_start.result c.bookings_start.ensures.1 c.number_at-n.ensures.0) (c.numbers_good.ensures.no c.if-not-numbers_good.true)

pub slots_differ-requires : goal.slots_differ-requires
slots_differ-requires c =
    let D = c.day_end-end in (
      rw (← ledger_many c.args.file.now c.bookings_start.result c.bookings_start.ensures.1 c.number_at-n.ensures.0) (c.numbers_good.ensures.yes c.if-not-numbers_good.false),
      front_slots c.args.file.now D.result D.ensures.0 D.ensures.1 (sym c.is_good.ensures ∙ c.if-not-is_good.false),
    )

pub returns-then-not-slots_differ : goal.returns-then-not-slots_differ
returns-then-not-slots_differ c =
    let D = c.day_end-end in
    slots_bad c.args.file.now D.result D.ensures.0 D.ensures.1 (sym c.is_good.ensures ∙ c.if-not-is_good.false)
    (take_rest c.args.file.now D.result) (ledger_many c.args.file.now c.bookings_start.result c.bookings_start.ensures.1 c.number_at-n.ensures.0) (sym c.slots_differ.ensures ∙ c.if-not-slots_differ.true)

pub returns : goal.returns
returns c =
    let D = c.day_end-end in
    second_good c.args.file.now D.result D.ensures.0 D.ensures.1 (sym c.is_good.ensures ∙ c.if-not-is_good.false)
    (take_rest c.args.file.now D.result) (ledger_many c.args.file.now c.bookings_start.result c.bookings_start.ensures.1 c.number_at-n.ensures.0) (c.numbers_good.ensures.yes c.if-not-numbers_good.false) (sym c.slots_differ.ensures ∙ c.if-not-slots_differ.false)
