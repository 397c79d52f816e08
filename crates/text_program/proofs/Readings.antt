-- A second computed input: the five readings, refusals, a bad line, and a last line that ends with the input.
use mathlib.Core.Path.{◌≡◌, refl, ap, ◌∙◌}
use mathlib.Core.List.{List, [], ◌∷◌, ◌++◌}
use Prim.Native.Nat.{ℕ}
use native.Mathlib.Omega.{arith}
use Rattle.loops.specs.Turns.{up_to}
use Rattle.loops.specs.Search.{first_from}
use Rattle.loops.specs.Total.{total, greatest}
use Rattle.loops.specs.Fill.{from}
use Rattle.loops.specs.Rows.{walk_from}
use Rattle.terms.specs.Setting.{setting_of}
use Rattle.terms.specs.Editions.{restart, enough, failure_clears}
use Rattle.terms.specs.Votes.{vote_of}
use Rattle.terms.specs.declared.answer.Reading.TheVariants.{Query, Accepted, Lead, Confidence, Size}
use Rattle.rules.specs.Ancestry.{ancestry, sweep, spread}
use Rattle.rules.specs.IsSound.{header_good, genesis_good, booking_good, parents_good, state_good, mark_good, chits, bookings_of}
use Rattle.rules.specs.Open.{opened, open_word}
use Rattle.rules.specs.Book.{look_up, has_unknown, has_twice, entered, booked}
use Rattle.rules.specs.Poll.{polled, raise_one, prefer, follow, settle_one, clear_one}
use Rattle.rules.specs.Marks.{another_marked, mark_one}
use Rattle.rules.specs.Readings.{query_of, rivals_most, lead_of, size_of}
use Rattle.rules.specs.Calls.{open_call}
use Rattle.rules.proofs.Same.{Passes, passes, same_numbers_lem, same_numbers}
use Rattle.rules.proofs.Walk.{bad_record_walked, bad_slot_walked, all_zero, test_walked}
use Rattle.text_bytes.specs.Bytes.{bytes}
use Rattle.text_put.specs.Decimal.{digits_of, decimal, signed}
use Rattle.text_print.specs.Print.{bad_line, reading_prints, call_prints}
use Rattle.text_listing.specs.Listed.{list_shows}
use Rattle.text_listing.proofs.Run.{ExampleCalls, the_calls, made, calls_walked}
use Rattle.line_number.specs.Numbers.{value_of, is_number, number_read, vote_read}
use Rattle.line_keyword.specs.Keywords.{is_same}
use Rattle.line_words.specs.Words.{words}
use Rattle.line_scan.specs.Lists.{leading, many_of}
use Rattle.line_parse.specs.Line.{open_says, read_says, book_says, poll_says, line_says}
use Rattle.line_serve.specs.Serve.{served}
use Rattle.text_program.specs.Program.{zeros, lines, printed, program}
use Rattle.text_program.proofs.Program.{program_short}

abbrev pub readings_input : List ℕ
readings_input =
    bytes "list\nopen 1 1 1 2 0\nbook 1 7 0\nbook 2 7 0\nquery 1\npoll 2 1\nlead 1\naccepted 2\npoll 1 1\nconfidence 1\nsize 3\nSize 2\nsize 2"

abbrev readings_lines : List (List ℕ)
readings_lines =
    bytes "list"
    ∷ bytes "open 1 1 1 2 0"
    ∷ bytes "book 1 7 0"
    ∷ bytes "book 2 7 0"
    ∷ bytes "query 1"
    ∷ bytes "poll 2 1"
    ∷ bytes "lead 1"
    ∷ bytes "accepted 2"
    ∷ bytes "poll 1 1"
    ∷ bytes "confidence 1"
    ∷ bytes "size 3"
    ∷ bytes "Size 2"
    ∷ bytes "size 2"
    ∷ []

-- By hand, from document 01; each reading has a value that none of the other four would have there. Before a taken open a call gives 2.
-- Bookings 1 and 2 are rivals. Before the polls 1 is preferred, and its query is 1. The poll of 2 gives 2 one confidence: it is preferred, and
-- the lead of 1 is 0 - 1; 2 is last since that poll, with counter 0, and is not accepted. The poll of 1 makes a tie at 1 each, and 2 stays
-- preferred. Name 3 is not booked, which gives 10. No word of a line has a capital. The ancestry of 2 is 2 and the genesis.
abbrev pub readings_say : List ℕ
readings_say = bytes "refused 2\n1\n-1\n0\n1\nrefused 10\nbad line\n2\n"

-- ---- as calls

unfoldable readings_print : ExampleCalls → List ℕ → List ℕ
readings_print c w =
    let empty = open_call w (setting_of 1 1 1 2 0) in
    let book1 = c.book empty.words 1 7 (0 ∷ []) in
    let book2 = c.book book1.words 2 7 (0 ∷ []) in
    let poll2 = c.poll book2.words 2 (1 ∷ []) in
    let poll1 = c.poll poll2.words 1 (1 ∷ []) in
    list_shows (c.list w) w
    ++ (call_prints empty.answer
    ++ (call_prints book1.answer
    ++ (call_prints book2.answer
    ++ (reading_prints (c.ask Query book2.words 1)
    ++ (call_prints poll2.answer
    ++ (reading_prints (c.ask Lead poll2.words 1)
    ++ (reading_prints (c.ask Accepted poll2.words 2)
    ++ (call_prints poll1.answer
    ++ (reading_prints (c.ask Confidence poll1.words 1)
    ++ (reading_prints (c.ask Size poll1.words 3)
    ++ (bad_line
    ++ (reading_prints (c.ask Size poll1.words 2)
    ++ []))))))))))))

readings_lines_lem : lines readings_input ≡ readings_lines
unfolding lines
readings_lines_lem = refl

readings_calls : (w : List ℕ) → printed w readings_lines ≡ readings_print the_calls w
unfolding printed served line_says open_says read_says book_says poll_says leading many_of words is_same value_of is_number number_read vote_read first_from up_to readings_print
readings_calls w = refl

readings_walked : Passes (same_numbers_lem (readings_print (made test_walked) zeros) readings_say)
unfolding readings_print same_numbers_lem digits_of decimal signed test_walked bad_record_walked bad_slot_walked all_zero header_good genesis_good booking_good parents_good state_good mark_good chits bookings_of opened open_word look_up has_unknown has_twice entered booked polled raise_one prefer follow settle_one clear_one restart enough failure_clears another_marked mark_one query_of rivals_most lead_of size_of ancestry sweep spread vote_of open_call up_to first_from total greatest from walk_from
readings_walked = tt

pub readings_print_lem : program readings_input ≡ readings_say
readings_print_lem =
    program_short readings_input (omega arith)
    ∙ ap (printed zeros) readings_lines_lem
    ∙ readings_calls zeros
    ∙ ap (λ c. readings_print c zeros) calls_walked
    ∙ same_numbers (readings_print (made test_walked) zeros) readings_say (passes _ readings_walked)
