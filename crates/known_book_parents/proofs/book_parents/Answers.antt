-- Each return is a case of the refusals 7, 8 and 9. Where no parent is unknown, the numbers that were looked up are the booking's.
use mathlib.Core.Path.{◌≡◌, sym, ◌∙◌}
use borrow.Author.Tests.{eq-eqb, ne_eqb}
use Rattle.std.proofs.lemmas.Result.{err_from_is_err_and}
use Rattle.rules.specs.Book.{parent_numbers, booked}
use Rattle.known_book_parents.proofs.Parents.{with_numbers_all, first_unknown_none, looked_known, looked_unknown, looked_reason}
use Rattle.known_book_parents.proofs.Judged.{parents_unknown, parents_twice, parents_full, parents_taken}
use Rattle.known_book_parents.proofs.book_parents.Goals as goal

pub returns-in_err-look_parents : goal.returns-in_err-look_parents
returns-in_err-look_parents c =
    let p = err_from_is_err_and c.from_residual.result c.from_residual.ensures.1 in
    rw (p.1, p.2, looked_reason c.look_parents.ensures c.in_err-look_parents.was)
    (parents_unknown _ _ _ _ (looked_unknown c.look_parents.ensures c.in_err-look_parents.was))

pub returns-then-has_twice : goal.returns-then-has_twice
returns-then-has_twice c =
    parents_twice _ _ _ _ (looked_known c.look_parents.ensures c.in_ok-look_parents.was) (sym c.has_twice.ensures ∙ c.if-has_twice.true)

pub returns-then-how_many-eq-MOST_BOOKINGS : goal.returns-then-how_many-eq-MOST_BOOKINGS
returns-then-how_many-eq-MOST_BOOKINGS c =
    parents_full _ _ _ _
    (looked_known c.look_parents.ensures c.in_ok-look_parents.was)
    (sym c.has_twice.ensures ∙ c.if-has_twice.false)
    (eq-eqb _ _ (rw c.how_many.ensures at c.if-how_many-eq-MOST_BOOKINGS.true))

pub returns : goal.returns
unfolding booked
returns c =
    let known = looked_known c.look_parents.ensures c.in_ok-look_parents.was in
    let numbered : c.look_parents.new.numbers ≡ parent_numbers c.args.w.now c.args.parents.now =
    c.look_parents.ensures.after ∙ rw (first_unknown_none c.args.w.now c.args.parents.now known) (with_numbers_all c.args.w.now c.args.parents.now c.requires.2) in
    rw (c.write_booking.ensures, numbered)
    (parents_taken _ _ _ _ known (sym c.has_twice.ensures ∙ c.if-has_twice.false) (ne_eqb _ _ (rw c.how_many.ensures at c.if-how_many-eq-MOST_BOOKINGS.false)))
