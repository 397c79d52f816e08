-- A fourth computed input: the edition as the fifth number of `open`, and what four numbers mean (CR 8). P9 is typed by each edition and with none told, and
-- three openings that are none.
use mathlib.Core.Path.{◌≡◌, refl, ap, ◌∙◌}
use mathlib.Core.List.{List, [], ◌∷◌, ◌++◌}
use Prim.Native.Nat.{ℕ}
use native.Mathlib.Omega.{arith}
use Rattle.loops.specs.Turns.{up_to}
use Rattle.loops.specs.Search.{first_from}
use Rattle.loops.specs.Total.{total, greatest}
use Rattle.loops.specs.Fill.{from}
use Rattle.loops.specs.Rows.{walk_from}
use Rattle.terms.specs.Setting.{setting_of}
use Rattle.terms.specs.Editions.{restart, enough, failure_clears}
use Rattle.terms.specs.Votes.{vote_of}
use Rattle.terms.specs.declared.answer.Reading.TheVariants.{Accepted}
use Rattle.rules.specs.Ancestry.{ancestry, sweep, spread}
use Rattle.rules.specs.IsSound.{header_good, genesis_good, booking_good, parents_good, state_good, mark_good, chits, bookings_of}
use Rattle.rules.specs.Open.{opened, open_word}
use Rattle.rules.specs.Book.{look_up, has_unknown, has_twice, entered, booked}
use Rattle.rules.specs.Poll.{polled, raise_one, prefer, follow, settle_one, clear_one}
use Rattle.rules.specs.Marks.{another_marked, mark_one}
use Rattle.rules.specs.Calls.{open_call}
use Rattle.rules.proofs.Same.{Passes, passes, same_numbers_lem, same_numbers}
use Rattle.rules.proofs.Walk.{bad_record_walked, bad_slot_walked, all_zero, test_walked}
use Rattle.text_bytes.specs.Bytes.{bytes}
use Rattle.text_put.specs.Decimal.{digits_of, decimal, signed}
use Rattle.text_print.specs.Print.{bad_line, reading_prints, call_prints}
use Rattle.text_listing.proofs.Run.{ExampleCalls, the_calls, made, calls_walked}
use Rattle.line_number.specs.Numbers.{value_of, is_number, number_read, vote_read}
use Rattle.line_keyword.specs.Keywords.{is_same}
use Rattle.line_words.specs.Words.{words}
use Rattle.line_scan.specs.Lists.{leading, many_of}
use Rattle.line_parse.specs.Line.{open_says, read_says, book_says, poll_says, line_says}
use Rattle.line_serve.specs.Serve.{served}
use Rattle.text_program.specs.Program.{zeros, lines, printed, program}
use Rattle.text_program.proofs.Program.{program_short}

abbrev pub editions_input : List ℕ
editions_input =
    bytes "open 1 1 1 2 2\nopen 1 1 1 2 65537\nopen 1 1 1 2 1 1\nopen 1 1 1 2 1\nbook 1 7 0\nbook 2 8 1\npoll 1 1\naccepted 1\nopen 1 1 1 2 0\nbook 1 7 0\nbook 2 8 1\npoll 1 1\naccepted 1\nopen 1 1 1 2\nbook 1 7 0\nbook 2 8 1\npoll 1 1\naccepted 1\n"

abbrev editions_lines : List (List ℕ)
editions_lines =
    bytes "open 1 1 1 2 2"
    ∷ bytes "open 1 1 1 2 65537"
    ∷ bytes "open 1 1 1 2 1 1"
    ∷ bytes "open 1 1 1 2 1"
    ∷ bytes "book 1 7 0"
    ∷ bytes "book 2 8 1"
    ∷ bytes "poll 1 1"
    ∷ bytes "accepted 1"
    ∷ bytes "open 1 1 1 2 0"
    ∷ bytes "book 1 7 0"
    ∷ bytes "book 2 8 1"
    ∷ bytes "poll 1 1"
    ∷ bytes "accepted 1"
    ∷ bytes "open 1 1 1 2"
    ∷ bytes "book 1 7 0"
    ∷ bytes "book 2 8 1"
    ∷ bytes "poll 1 1"
    ∷ bytes "accepted 1"
    ∷ []

-- By hand. There is no edition 2, which gives 3. 65537 is above the limit of a number, and six numbers are too many: bad lines. Each poll of 1 brings the
-- counter of slot 7, where 1 is alone and last since it was booked, to 1, which is β1. By edition 1 that is enough, and 1 is accepted; by edition 0 it is
-- not. Four numbers mean edition 1, though the ledger before them is of edition 0.
abbrev pub editions_say : List ℕ
editions_say = bytes "refused 3\nbad line\nbad line\n1\n0\n1\n"

-- ---- as calls

-- P9 by an edition, and then what follows on its words
abbrev p9_prints : ExampleCalls → ℕ → List ℕ → (List ℕ → List ℕ) → List ℕ
p9_prints c edition w rest =
    let empty = open_call w (setting_of 1 1 1 2 edition) in
    let book1 = c.book empty.words 1 7 (0 ∷ []) in
    let book2 = c.book book1.words 2 8 (1 ∷ []) in
    let poll1 = c.poll book2.words 1 (1 ∷ []) in
    call_prints empty.answer
    ++ (call_prints book1.answer
    ++ (call_prints book2.answer
    ++ (call_prints poll1.answer
    ++ (reading_prints (c.ask Accepted poll1.words 1)
    ++ rest poll1.words))))

unfoldable editions_print : ExampleCalls → List ℕ → List ℕ
editions_print c w =
    let none = open_call w (setting_of 1 1 1 2 2) in
    call_prints none.answer
    ++ (bad_line
    ++ (bad_line
    ++ p9_prints c 1 none.words (λ later. p9_prints c 0 later (λ first. p9_prints c 1 first (λ untold. [])))))

editions_lines_lem : lines editions_input ≡ editions_lines
unfolding lines
editions_lines_lem = refl

editions_calls : (w : List ℕ) → printed w editions_lines ≡ editions_print the_calls w
unfolding printed served line_says open_says read_says book_says poll_says leading many_of words is_same value_of is_number number_read vote_read first_from up_to editions_print
editions_calls w = refl

editions_walked : Passes (same_numbers_lem (editions_print (made test_walked) zeros) editions_say)
unfolding editions_print same_numbers_lem digits_of decimal signed test_walked bad_record_walked bad_slot_walked all_zero header_good genesis_good booking_good parents_good state_good mark_good chits bookings_of opened open_word look_up has_unknown has_twice entered booked polled raise_one prefer follow settle_one clear_one restart enough failure_clears another_marked mark_one ancestry sweep spread vote_of open_call up_to first_from total greatest from walk_from
editions_walked = tt

pub editions_print_lem : program editions_input ≡ editions_say
editions_print_lem =
    program_short editions_input (omega arith)
    ∙ ap (printed zeros) editions_lines_lem
    ∙ editions_calls zeros
    ∙ ap (λ c. editions_print c zeros) calls_walked
    ∙ same_numbers (editions_print (made test_walked) zeros) editions_say (passes _ editions_walked)
