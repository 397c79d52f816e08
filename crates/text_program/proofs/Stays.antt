-- A third computed input: an acceptance that stays when a rival comes in, and the listing that shows it.
use mathlib.Core.Path.{◌≡◌, refl, ap, ◌∙◌}
use mathlib.Core.List.{List, [], ◌∷◌, ◌++◌}
use Prim.Native.Nat.{ℕ}
use native.Mathlib.Omega.{arith}
use Rattle.loops.specs.Turns.{up_to}
use Rattle.loops.specs.Search.{first_from}
use Rattle.loops.specs.Total.{total, greatest}
use Rattle.loops.specs.Fill.{from}
use Rattle.loops.specs.Rows.{walk_from}
use Rattle.terms.specs.Setting.{setting_of}
use Rattle.terms.specs.Editions.{restart, enough, failure_clears}
use Rattle.terms.specs.Votes.{vote_of}
use Rattle.terms.specs.declared.answer.Reading.TheVariants.{Accepted}
use Rattle.rules.specs.Ancestry.{ancestry, sweep, spread}
use Rattle.rules.specs.IsSound.{header_good, genesis_good, booking_good, parents_good, state_good, mark_good, chits, bookings_of}
use Rattle.rules.specs.Open.{opened, open_word}
use Rattle.rules.specs.Book.{look_up, has_unknown, has_twice, entered, booked}
use Rattle.rules.specs.Poll.{polled, raise_one, prefer, follow, settle_one, clear_one}
use Rattle.rules.specs.Marks.{another_marked, mark_one}
use Rattle.rules.specs.Calls.{open_call}
use Rattle.rules.proofs.Same.{Passes, passes, same_numbers_lem, same_numbers}
use Rattle.rules.proofs.Walk.{bad_record_walked, bad_slot_walked, all_zero, test_walked}
use Rattle.text_bytes.specs.Bytes.{bytes}
use Rattle.text_put.specs.Decimal.{digits_of, decimal, signed}
use Rattle.text_print.specs.Print.{reading_prints, call_prints}
use Rattle.text_print.specs.Columns.{row_prints}
use Rattle.text_listing.specs.Listed.{list_row, rows_print, list_prints, list_shows}
use Rattle.text_listing.proofs.Run.{ExampleCalls, the_calls, made, calls_walked}
use Rattle.line_number.specs.Numbers.{value_of, is_number, number_read, vote_read}
use Rattle.line_keyword.specs.Keywords.{is_same}
use Rattle.line_words.specs.Words.{words}
use Rattle.line_scan.specs.Lists.{leading, many_of}
use Rattle.line_parse.specs.Line.{open_says, read_says, book_says, poll_says, line_says}
use Rattle.line_serve.specs.Serve.{served}
use Rattle.text_program.specs.Program.{zeros, lines, printed, program}
use Rattle.text_program.proofs.Program.{program_short}

abbrev pub stays_input : List ℕ
stays_input = bytes "open 1 1 1 2 0\nbook 1 7 0\nbook 2 8 1\npoll 1 1\naccepted 1\npoll 2 1\nbook 3 7 0\naccepted 1\nlist\n"

abbrev stays_lines : List (List ℕ)
stays_lines =
    bytes "open 1 1 1 2 0"
    ∷ bytes "book 1 7 0"
    ∷ bytes "book 2 8 1"
    ∷ bytes "poll 1 1"
    ∷ bytes "accepted 1"
    ∷ bytes "poll 2 1"
    ∷ bytes "book 3 7 0"
    ∷ bytes "accepted 1"
    ∷ bytes "list"
    ∷ []

-- By hand. The poll of 1 brings the counter of slot 7 to 1, which is not above β1. The poll of 2, which rests on 1, brings it to 2: 1 is alone in its
-- slot and its parent is the genesis, so it is marked; slot 8 has counter 1, so 2 is not. Then 3 comes into slot 7. By the rule 1 would lose now,
-- since it has a rival and a counter of 2 is not above β2; but its mark stays, and 3 has none.
abbrev pub stays_say : List ℕ
stays_say =
    bytes "0\n1\nnumber slot state confidence preferred accepted\n"
    ++ (bytes "0 0 1 2 1 1\n" ++ (bytes "1 7 2 2 1 1\n" ++ (bytes "2 8 2 1 1 0\n" ++ bytes "3 7 0 0 0 0\n")))

-- ---- as calls

unfoldable stays_print : ExampleCalls → List ℕ → List ℕ
stays_print c w =
    let empty = open_call w (setting_of 1 1 1 2 0) in
    let book1 = c.book empty.words 1 7 (0 ∷ []) in
    let book2 = c.book book1.words 2 8 (1 ∷ []) in
    let poll1 = c.poll book2.words 1 (1 ∷ []) in
    let poll2 = c.poll poll1.words 2 (1 ∷ []) in
    let book3 = c.book poll2.words 3 7 (0 ∷ []) in
    call_prints empty.answer
    ++ (call_prints book1.answer
    ++ (call_prints book2.answer
    ++ (call_prints poll1.answer
    ++ (reading_prints (c.ask Accepted poll1.words 1)
    ++ (call_prints poll2.answer
    ++ (call_prints book3.answer
    ++ (reading_prints (c.ask Accepted book3.words 1)
    ++ (list_shows (c.list book3.words) book3.words
    ++ []))))))))

stays_lines_lem : lines stays_input ≡ stays_lines
unfolding lines
stays_lines_lem = refl

stays_calls : (w : List ℕ) → printed w stays_lines ≡ stays_print the_calls w
unfolding printed served line_says open_says read_says book_says poll_says leading many_of words is_same value_of is_number number_read vote_read first_from up_to stays_print
stays_calls w = refl

stays_walked : Passes (same_numbers_lem (stays_print (made test_walked) zeros) stays_say)
unfolding stays_print same_numbers_lem list_row rows_print list_prints row_prints digits_of decimal signed test_walked bad_record_walked bad_slot_walked all_zero header_good genesis_good booking_good parents_good state_good mark_good chits bookings_of opened open_word look_up has_unknown has_twice entered booked polled raise_one prefer follow settle_one clear_one restart enough failure_clears another_marked mark_one ancestry sweep spread vote_of open_call up_to first_from total greatest from walk_from
stays_walked = tt

pub stays_print_lem : program stays_input ≡ stays_say
stays_print_lem =
    program_short stays_input (omega arith)
    ∙ ap (printed zeros) stays_lines_lem
    ∙ stays_calls zeros
    ∙ ap (λ c. stays_print c zeros) calls_walked
    ∙ same_numbers (stays_print (made test_walked) zeros) stays_say (passes _ stays_walked)
