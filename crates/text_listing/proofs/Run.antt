-- Document 01, "The text program": the example. Its nine calls and the listing, computed from the definitions on whole workspaces.
use mathlib.Core.Path.{◌≡◌, sym, ap, ◌∙◌}
use mathlib.Core.List.{List, [], ◌∷◌, ◌++◌}
use Prim.Native.Nat.{ℕ}
use lib.ListN.{replicate}
use Rattle.loops.specs.Turns.{up_to}
use Rattle.loops.specs.Search.{first_from}
use Rattle.loops.specs.Total.{total, greatest}
use Rattle.loops.specs.Fill.{from}
use Rattle.loops.specs.Rows.{walk_from}
use Rattle.terms.specs.declared.setting.Setting.{Setting}
use Rattle.terms.specs.Setting.{setting_of}
use Rattle.terms.specs.Editions.{restart, enough, failure_clears}
use Rattle.terms.specs.declared.answer.Reading.{Reading}
use Rattle.terms.specs.Answers.{Outcome, done, Answer, Tested}
use Rattle.terms.specs.Votes.{vote_of}
use Rattle.rules.specs.Layout.{size}
use Rattle.rules.specs.Ancestry.{ancestry, sweep, spread}
use Rattle.rules.specs.IsSound.{header_good, genesis_good, booking_good, parents_good, state_good, mark_good, chits, bookings_of}
use Rattle.rules.specs.Open.{opened, open_word}
use Rattle.rules.specs.Book.{look_up, has_unknown, has_twice, entered, booked}
use Rattle.rules.specs.Poll.{polled, raise_one, prefer, follow, settle_one, clear_one}
use Rattle.rules.specs.Marks.{another_marked, mark_one}
use Rattle.rules.specs.Calls.{tested, open_call, book_by, poll_by, read_by, book_call, poll_call, read_call}
use Rattle.rules.specs.Listing.{list_call}
use Rattle.rules.proofs.Same.{Passes, passes, same_numbers_lem, same_numbers}
use Rattle.rules.proofs.Walk.{bad_record_walked, bad_slot_walked, all_zero, test_walked, test_walked_is}
use Rattle.text_bytes.specs.Bytes.{bytes}
use Rattle.text_put.specs.Decimal.{digits_of, decimal}
use Rattle.text_print.specs.Print.{call_prints}
use Rattle.text_print.specs.Columns.{row_prints}
use Rattle.text_listing.specs.Listed.{list_row, rows_print, list_prints, list_shows}

-- ---- the example

abbrev pub setting : Setting
setting = setting_of 3 2 1 2 0

-- the calls that an example makes
pub record ExampleCalls : Type 0 where
  pub book : List ℕ → ℕ → ℕ → List ℕ → Outcome
  pub poll : List ℕ → ℕ → List ℕ → Outcome
  pub list : List ℕ → Answer
  pub ask : Reading → List ℕ → ℕ → Answer

-- those of the law
abbrev pub the_calls : ExampleCalls
the_calls = record { book = book_call; poll = poll_call; list = list_call; ask = read_call }

-- what they print on some words, one after the other
unfoldable pub run_prints : ExampleCalls → List ℕ → List ℕ
run_prints c w =
    let empty = open_call w setting in
    let book1 = c.book empty.words 1 7 (0 ∷ []) in
    let book2 = c.book book1.words 2 7 (0 ∷ []) in
    let book3 = c.book book2.words 3 9 (1 ∷ []) in
    let book4 = c.book book3.words 4 10 (1 ∷ 2 ∷ []) in
    let poll2 = c.poll book4.words 2 (1 ∷ 1 ∷ 255 ∷ []) in
    let poll3 = c.poll poll2.words 3 (1 ∷ 0 ∷ 0 ∷ []) in
    let poll4 = c.poll poll3.words 4 (1 ∷ 1 ∷ 1 ∷ []) in
    let poll1 = c.poll poll4.words 1 (1 ∷ 1 ∷ 0 ∷ []) in
    call_prints empty.answer
    ++ (call_prints book1.answer
    ++ (call_prints book2.answer
    ++ (call_prints book3.answer
    ++ (call_prints book4.answer
    ++ (call_prints poll2.answer
    ++ (call_prints poll3.answer
    ++ (call_prints poll4.answer
    ++ (call_prints poll1.answer
    ++ (list_shows (c.list poll1.words) poll1.words
    ++ [])))))))))

-- what document 01 says
abbrev pub run_says : List ℕ
run_says =
    bytes "number slot state confidence preferred accepted\n"
    ++ (bytes "0 0 1 3 1 1\n"
    ++ (bytes "1 7 2 2 0 0\n"
    ++ (bytes "2 7 2 2 1 0\n"
    ++ (bytes "3 9 1 0 1 0\n"
    ++ bytes "4 10 2 1 1 0\n"))))

-- ---- computed with the test that walks

abbrev pub made : (List ℕ → Tested) → ExampleCalls
made test =
    record {
      book = book_by test;
      poll = poll_by test;
      list = λ w. tested test w done;
      ask = read_by test;
    }

abbrev unopened : List ℕ
unopened = replicate size 0

run_walked : Passes (same_numbers_lem (run_prints (made test_walked) unopened) run_says)
unfolding run_prints same_numbers_lem list_row rows_print list_prints row_prints digits_of decimal test_walked bad_record_walked bad_slot_walked all_zero header_good genesis_good booking_good parents_good state_good mark_good chits bookings_of opened open_word look_up has_unknown has_twice entered booked polled raise_one prefer follow settle_one clear_one restart enough failure_clears another_marked mark_one ancestry sweep spread vote_of open_call up_to first_from total greatest from walk_from
run_walked = tt

pub calls_walked : the_calls ≡ made test_walked
unfolding book_call poll_call list_call
calls_walked = ap made (sym test_walked_is)

pub run_prints_lem : run_prints the_calls unopened ≡ run_says
run_prints_lem = ap (λ c. run_prints c unopened) calls_walked ∙ same_numbers (run_prints (made test_walked) unopened) run_says (passes _ run_walked)
