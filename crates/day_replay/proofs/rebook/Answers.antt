-- Name, slot and count are the first parts of the booking that the law reads there, and the places hold its parents.
use mathlib.Core.Path.{◌≡◌, sym, ap, ◌∙◌}
use mathlib.Core.List.{List}
use Prim.Native.Nat.{ℕ, ◌+◌, ◌*◌}
use native.Mathlib.Omega.{arith}
use lib.ListN.{length, drop}
use borrow.Author.Rules.{rules}
use Rattle.rules.specs.Book.{booked_with}
use Rattle.day_file.specs.Day.{DayBooking}
use Rattle.day_file.specs.Decode.{Read, read_number, read_many, read_booking}
use Rattle.day_file.proofs.ReadMany.{length_read_many}
use Rattle.day_replay.specs.Rows.{rebooked_once}
use Rattle.day_replay.proofs.Rows.{booking_read}
use Rattle.day_replay.proofs.rebook.Goals as goal

-- the booking that the law reads there is these parts
abbrev Reads : (file : List ℕ) (at name slot count : ℕ) → Type 0
Reads file at name slot count =
    read_booking (drop at file)
    ≡ record {
      value = record { name = name; slot = slot; parents = (read_many read_number count (drop (at + 12) file)).value };
      rest = drop (at + 12 + 2 * count) file;
    }

counted : (file : List ℕ) (at name slot count : ℕ) → Reads file at name slot count → length (read_booking (drop at file)).value.parents ≡ count
counted file at name slot count read =
    ap (λ (o : Read DayBooking). length o.value.parents) read ∙ length_read_many read_number count (drop (at + 12) file)

pub parents_at-parents-requires : goal.parents_at-parents-requires
parents_at-parents-requires c =
    let file = c.args.file.now in
    let read : Reads file c.args.at c.name_at-name.result c.number_at-slot.result c.wide-count.result =
    booking_read file c.args.at c.name_at-name.result c.number_at-slot.result (search rules) (search rules) (search rules) c.wide-count.ensures.0 c.name_at-name.ensures c.number_at-slot.ensures c.number_at.ensures in
    omega (arith, counted _ _ _ _ _ read, c.requires.0.few, c.requires.1)

pub write_booking-requires : goal.write_booking-requires
write_booking-requires c =
    let file = c.args.file.now in
    let read : Reads file c.args.at c.name_at-name.result c.number_at-slot.result c.wide-count.result =
    booking_read file c.args.at c.name_at-name.result c.number_at-slot.result (search rules) (search rules) (search rules) c.wide-count.ensures.0 c.name_at-name.ensures c.number_at-slot.ensures c.number_at.ensures in
    let able = c.requires.0 in
    (able.ledger, able.room, omega (arith, able.slot, ap (λ (o : Read DayBooking). o.value.slot) read))

pub returns : goal.returns
returns c =
    let file = c.args.file.now in
    let w = c.args.w.now in
    let read : Reads file c.args.at c.name_at-name.result c.number_at-slot.result c.wide-count.result =
    booking_read file c.args.at c.name_at-name.result c.number_at-slot.result (search rules) (search rules) (search rules) c.wide-count.ensures.0 c.name_at-name.ensures c.number_at-slot.ensures c.number_at.ensures in
    record {
      words =
          c.write_booking.ensures ∙ ap (booked_with w c.name_at-name.result c.number_at-slot.result) c.parents_at-parents.ensures.0
          ∙ sym (ap (λ (o : Read DayBooking). rebooked_once w o.value) read);
      behind = sym (ap (λ (o : Read DayBooking). o.rest) read);
    }
