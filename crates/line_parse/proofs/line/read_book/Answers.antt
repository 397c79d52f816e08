-- A name, a slot and the parents after them; the name and the slot are judged before a parent is stored.
use Rattle.std.proofs.Common.{◌≡◌, Some, None, sym, ◌∙◌, arith, rules}
use Rattle.line_words.specs.Words.{words_after}
use Rattle.line_number.specs.Numbers.{short_most, name_read, short_read}
use Rattle.line_parse.specs.Line.{bare, book_words, book_says}
use Rattle.line_number.proofs.Digits.{number_le}
use Rattle.line_parse.proofs.Grammar.{stepped, number_next, number_stop, booked_bad, booked_listed}
use Rattle.line_parse.proofs.line.read_book.Goals as goal

pub returns-in_err-name : goal.returns-in_err-name
unfolding book_says
returns-in_err-name c =
    let S = c.args in
    rw c.from_residual.ensures (booked_bad S.parents.now (number_stop name_read S.line.now S.at (bare None) _ (sym c.in_err-name.ensures)))

pub returns-in_err-slot : goal.returns-in_err-slot
unfolding book_says
returns-in_err-slot c =
    let S = c.args in
    rw c.from_residual-in_err-slot.ensures
    (booked_bad
    S.parents.now
    (number_next name_read S.line.now S.at (bare None) _ _ _ (sym c.in_ok-name.ensures) ∙ number_stop short_read S.line.now _ (bare None) _ (sym c.in_err-slot.ensures)))

pub overflow_cast-slot : goal.overflow_cast-slot
overflow_cast-slot c =
    omega (arith, number_le short_most _ _ (stepped short_read _ _ _ _ (sym c.in_ok-slot.ensures)).value)

pub read_numbers-requires : goal.read_numbers-requires
read_numbers-requires c = ((stepped short_read _ _ _ _ (sym c.in_ok-slot.ensures)).within, search rules)

pub returns-in_err-count : goal.returns-in_err-count
unfolding book_says
returns-in_err-count c =
    let q : book_says (words_after c.args.line.now c.args.at) ≡ book_words c.in_ok-name.name c.in_ok-slot.slot (words_after c.args.line.now c.in_ok-slot.after_slot) =
    number_next name_read _ _ (bare None) _ _ _ (sym c.in_ok-name.ensures) ∙ number_next short_read _ _ (bare None) _ _ _ (sym c.in_ok-slot.ensures) in
    rw c.from_residual-in_err-count.ensures (booked_listed _ _ _ None q (rw c.requires at c.read_numbers.ensures) c.in_err-count.was)

pub returns : goal.returns
unfolding book_says
returns c =
    let q : book_says (words_after c.args.line.now c.args.at) ≡ book_words c.in_ok-name.name c.in_ok-slot.slot (words_after c.args.line.now c.in_ok-slot.after_slot) =
    number_next name_read _ _ (bare None) _ _ _ (sym c.in_ok-name.ensures) ∙ number_next short_read _ _ (bare None) _ _ _ (sym c.in_ok-slot.ensures) in
    booked_listed _ _ _ (Some _) q (rw c.requires at c.read_numbers.ensures) c.in_ok-count.was
