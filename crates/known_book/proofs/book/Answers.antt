-- Each return is a case of the law's call: refusals 4, 5 and 6, or what is left for the parents.
use mathlib.Core.Path.{sym, ◌∙◌}
use Rattle.known_book.proofs.Booked.{book_name, book_slot, book_count, book_rest}
use Rattle.known_book.proofs.book.Goals as goal

pub returns-then-is_booked : goal.returns-then-is_booked
returns-then-is_booked c = book_name _ _ _ _ c.requires (sym c.is_booked.ensures ∙ c.if-is_booked.true)

pub returns-then-is_bad_slot : goal.returns-then-is_bad_slot
returns-then-is_bad_slot c =
    book_slot _ _ _ _ c.requires (sym c.is_booked.ensures ∙ c.if-is_booked.false) (sym c.is_bad_slot.ensures ∙ c.if-is_bad_slot.true)

pub returns-then-is_bad_count : goal.returns-then-is_bad_count
returns-then-is_bad_count c =
    book_count _ _ _ _ c.requires (sym c.is_booked.ensures ∙ c.if-is_booked.false) (sym c.is_bad_slot.ensures ∙ c.if-is_bad_slot.false) (sym c.is_bad_count.ensures ∙ c.if-is_bad_count.true)

pub returns : goal.returns
returns c =
    c.book_parents.ensures
    ∙ book_rest _ _ _ _ c.requires (sym c.is_booked.ensures ∙ c.if-is_booked.false) (sym c.is_bad_slot.ensures ∙ c.if-is_bad_slot.false) (sym c.is_bad_count.ensures ∙ c.if-is_bad_count.false)
