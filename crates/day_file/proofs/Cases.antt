-- CR 2, CR 4, CR 5 and CR 7: the cases of writing the day file, and of reading what was written, one table under one statement, computed from the definitions on whole
-- workspaces. Files that are bad stand in ReadCases.antt.
-- Every step is a call with its refusals, as a user would make it. The bytes are plain numbers, worked out by hand from the request's words.
use mathlib.Core.Path.{◌≡◌, sym, ap, ap₂, ◌∙◌}
use mathlib.Core.Bool.{Bool}
use mathlib.Core.List.{List, [], ◌∷◌, ◌++◌}
use Prim.Native.Nat.{ℕ}
use lib.IntN.{pos}
use lib.ListN.{replicate}
use Rattle.loops.specs.Turns.{up_to}
use Rattle.loops.specs.Search.{first_from}
use Rattle.loops.specs.Total.{bit, total, greatest}
use Rattle.loops.specs.Fill.{from}
use Rattle.loops.specs.Rows.{walk_from}
use Rattle.terms.specs.declared.form.Form.{Form}
use Rattle.terms.specs.declared.form.Form.TheVariants.{First, Second}
use Rattle.terms.specs.Setting.{setting_of}
use Rattle.terms.specs.Answers.{Outcome, Handover, Tested}
use Rattle.terms.specs.Votes.{vote_of}
use Rattle.terms.specs.Editions.{restart, enough, failure_clears}
use Rattle.rules.specs.Layout.{size, polls_field, confidence_field, mark_field, counter_field, mark_of, counter_in, with_header, with_field, with_entry}
use Rattle.rules.specs.Ancestry.{ancestry, sweep, spread}
use Rattle.rules.specs.IsSound.{header_good, genesis_good, booking_good, parents_good, state_good, mark_good, chits, bookings_of}
use Rattle.rules.specs.Open.{opened, open_word}
use Rattle.rules.specs.Book.{look_up, has_unknown, has_twice, entered, booked}
use Rattle.rules.specs.Marks.{another_marked, mark_one}
use Rattle.rules.specs.Poll.{polled, raise_one, prefer, follow, settle_one, clear_one}
use Rattle.rules.specs.Calls.{open_call, book_by, poll_by, book_call, poll_call}
use Rattle.rules.proofs.Same.{same_numbers_lem, Got, got, Passes, passes, same_table, same_table_lem}
use Rattle.rules.proofs.Walk.{bad_record_walked, bad_slot_walked, all_zero, test_walked, test_walked_is}
use Rattle.day_file.specs.Day.{Day, parent_count, holder, day_of}
use Rattle.day_file.specs.Bytes.{high_first, joined, encode}
use Rattle.day_file.specs.Decode.{value_of, read_many, decode}
use Rattle.day_file.specs.Replay.{in_order, replay_by, replay, good_file_by, good_second_by, good_file, good_second}
use Rattle.day_file.specs.Calls.{write_file_by, write_file_call, read_file_by, read_file_call, move_file_by, move_file_call}

-- the calls that the cases make, here, in ReadCases.antt and in MarkCases.antt
pub record CallsMade : Type 0 where
  pub book : List ℕ → ℕ → ℕ → List ℕ → Outcome
  pub poll : List ℕ → ℕ → List ℕ → Outcome
  pub write : List ℕ → List ℕ → Handover
  pub read : List ℕ → List ℕ → Outcome
  pub write_second : List ℕ → List ℕ → Handover
  pub read_second : List ℕ → List ℕ → Outcome
  pub move_first : List ℕ → List ℕ → Outcome
  pub move_second : List ℕ → List ℕ → Outcome

-- the calls of the law
unfoldable pub the_calls : CallsMade
the_calls =
    record {
      book = book_call;
      poll = poll_call;
      write = write_file_call First;
      read = read_file_call First;
      write_second = write_file_call Second;
      read_second = read_file_call Second;
      move_first = move_file_call First;
      move_second = move_file_call Second;
    }

-- a number: the value of a taken call, a byte, or 1 for yes
abbrev pub is : ℕ → Got
is n = (0, pos n)

abbrev pub each : List ℕ → List Got
each [] = []
each (n ∷ ns) = is n ∷ each ns

-- what writing gives: number and value, whether every word is as it was, and the bytes of the buffer
abbrev pub written : CallsMade → (w buffer : List ℕ) → List Got
written c w buffer = let o = c.write w buffer in got o.answer ∷ is (bit (same_numbers_lem o.words w)) ∷ each o.lent

-- and what it has to give: every word is as it was
abbrev pub given : Got → (bytes : List ℕ) → List Got
given answer bytes = answer ∷ is 1 ∷ each bytes

-- what reading gives: number and value, and whether the words are then the expected ones
abbrev pub read : Outcome → (expected : List ℕ) → List Got
read o expected = got o.answer ∷ is (bit (same_numbers_lem o.words expected)) ∷ []

-- and what it has to give: number, value 0, and that they are
abbrev pub leaving : ℕ → List Got
leaving number = (number, pos 0) ∷ is 1 ∷ []

abbrev pub unopened : List ℕ
unopened = replicate size 0

-- a ledger with another setting than any file here
abbrev pub other : List ℕ
other = (open_call unopened (setting_of 1 1 1 1 0)).words

-- ---- the ledger that document 01's listing is of

abbrev pub file_says : List ℕ
file_says =
    0 ∷ 4  -- four numbers: k, a, β1, β2
    ∷ 0 ∷ 3 ∷ 0 ∷ 2 ∷ 0 ∷ 1 ∷ 0 ∷ 2
    ∷ 0 ∷ 4  -- four bookings, each with its name, slot, count of parents and parents' numbers
    ∷ 0 ∷ 0 ∷ 0 ∷ 0 ∷ 0 ∷ 0 ∷ 0 ∷ 1 ∷ 0 ∷ 7 ∷ 0 ∷ 1 ∷ 0 ∷ 0
    ∷ 0 ∷ 0 ∷ 0 ∷ 0 ∷ 0 ∷ 0 ∷ 0 ∷ 2 ∷ 0 ∷ 7 ∷ 0 ∷ 1 ∷ 0 ∷ 0
    ∷ 0 ∷ 0 ∷ 0 ∷ 0 ∷ 0 ∷ 0 ∷ 0 ∷ 3 ∷ 0 ∷ 9 ∷ 0 ∷ 1 ∷ 0 ∷ 1
    ∷ 0 ∷ 0 ∷ 0 ∷ 0 ∷ 0 ∷ 0 ∷ 0 ∷ 4 ∷ 0 ∷ 10 ∷ 0 ∷ 2 ∷ 0 ∷ 1 ∷ 0 ∷ 2
    ∷ 0 ∷ 4  -- four polls in their order, each with its booking's number and 1 for success or 0
    ∷ 0 ∷ 2 ∷ 0 ∷ 1
    ∷ 0 ∷ 3 ∷ 0 ∷ 0
    ∷ 0 ∷ 4 ∷ 0 ∷ 1
    ∷ 0 ∷ 1 ∷ 0 ∷ 1
    ∷ []

unfoldable pub example : CallsMade → List (List Got)
example c =
    let empty = (open_call unopened (setting_of 3 2 1 2 0)).words in
    let booked1 = (c.book empty 1 7 (0 ∷ [])).words in
    let booked2 = (c.book booked1 2 7 (0 ∷ [])).words in
    let booked3 = (c.book booked2 3 9 (1 ∷ [])).words in
    let booked4 = (c.book booked3 4 10 (1 ∷ 2 ∷ [])).words in
    let poll2 = (c.poll booked4 2 (1 ∷ 1 ∷ 255 ∷ [])).words in
    let poll3 = (c.poll poll2 3 (1 ∷ 0 ∷ 0 ∷ [])).words in
    let poll4 = (c.poll poll3 4 (1 ∷ 1 ∷ 1 ∷ [])).words in
    let poll1 = (c.poll poll4 1 (1 ∷ 1 ∷ 0 ∷ [])).words in
    let again = c.read other file_says in
    written c poll1 (replicate 88 7 ++ 8 ∷ 9 ∷ []) ∷ read again poll1 ∷ written c again.words (replicate 88 7) ∷ []

-- the bytes past the file stay. Read, it gives every word of the ledger, and is written again
unfoldable pub example_rows : List (List Got)
example_rows = given (is 88) (file_says ++ 8 ∷ 9 ∷ []) ∷ leaving 0 ∷ given (is 88) file_says ∷ []

-- ---- a ledger where no name is its booking's number, parents are not given in rising number, and high bytes are not all 0. The first poll is of name 2,
-- which is number 3, and succeeds; the second is of number 1, and fails by 32 yes of 33 needed, whatever confidence the first gave it. Numbers 2 and 4
-- wait; 4 has as many parents as a booking can have

abbrev pub second_says : List ℕ
second_says =
    0 ∷ 4  -- 64, 33, 300, 510
    ∷ 0 ∷ 64 ∷ 0 ∷ 33 ∷ 1 ∷ 44 ∷ 1 ∷ 254
    ∷ 0 ∷ 4  -- bookings
    ∷ 255 ∷ 255 ∷ 255 ∷ 255 ∷ 255 ∷ 255 ∷ 255 ∷ 255 ∷ 0 ∷ 255 ∷ 0 ∷ 1 ∷ 0 ∷ 0
    ∷ 1 ∷ 2 ∷ 3 ∷ 4 ∷ 5 ∷ 6 ∷ 7 ∷ 8 ∷ 0 ∷ 1 ∷ 0 ∷ 1 ∷ 0 ∷ 1
    ∷ 0 ∷ 0 ∷ 0 ∷ 0 ∷ 0 ∷ 0 ∷ 0 ∷ 2 ∷ 0 ∷ 128 ∷ 0 ∷ 3 ∷ 0 ∷ 2 ∷ 0 ∷ 0 ∷ 0 ∷ 1
    ∷ 0 ∷ 0 ∷ 0 ∷ 0 ∷ 0 ∷ 0 ∷ 1 ∷ 2 ∷ 0 ∷ 128 ∷ 0 ∷ 4 ∷ 0 ∷ 3 ∷ 0 ∷ 0 ∷ 0 ∷ 2 ∷ 0 ∷ 1
    ∷ 0 ∷ 2  -- polls
    ∷ 0 ∷ 3 ∷ 0 ∷ 1
    ∷ 0 ∷ 1 ∷ 0 ∷ 0
    ∷ []

unfoldable pub second : CallsMade → List (List Got)
second c =
    let highest : ℕ = 18446744073709551615 in
    let mixed : ℕ = 72623859790382856 in
    let empty = (open_call unopened (setting_of 64 33 300 510 0)).words in
    let booked1 = (c.book empty highest 255 (0 ∷ [])).words in
    let booked2 = (c.book booked1 mixed 1 (highest ∷ [])).words in
    let booked3 = (c.book booked2 2 128 (mixed ∷ 0 ∷ highest ∷ [])).words in
    let booked4 = (c.book booked3 258 128 (2 ∷ 0 ∷ mixed ∷ highest ∷ [])).words in
    let poll3 = (c.poll booked4 2 (replicate 33 1 ++ replicate 31 255)).words in
    let poll1 = (c.poll poll3 highest (replicate 32 1 ++ replicate 32 0)).words in
    let again = c.read other second_says in
    written c poll1 (replicate 88 7 ++ 8 ∷ []) ∷ read again poll1 ∷ written c again.words (replicate 88 7) ∷ []

unfoldable pub second_rows : List (List Got)
second_rows = given (is 88) (second_says ++ 8 ∷ []) ∷ leaving 0 ∷ given (is 88) second_says ∷ []

-- ---- CR 5: 1 and 2 are accepted, each alone in its slot, 1 before its rival 4 is booked

abbrev pub late_says : List ℕ
late_says =
    0 ∷ 4 ∷ 0 ∷ 1 ∷ 0 ∷ 1 ∷ 0 ∷ 1 ∷ 0 ∷ 2
    ∷ 0 ∷ 4  -- bookings
    ∷ 0 ∷ 0 ∷ 0 ∷ 0 ∷ 0 ∷ 0 ∷ 0 ∷ 1 ∷ 0 ∷ 7 ∷ 0 ∷ 1 ∷ 0 ∷ 0
    ∷ 0 ∷ 0 ∷ 0 ∷ 0 ∷ 0 ∷ 0 ∷ 0 ∷ 2 ∷ 0 ∷ 8 ∷ 0 ∷ 1 ∷ 0 ∷ 0
    ∷ 0 ∷ 0 ∷ 0 ∷ 0 ∷ 0 ∷ 0 ∷ 0 ∷ 3 ∷ 0 ∷ 9 ∷ 0 ∷ 2 ∷ 0 ∷ 1 ∷ 0 ∷ 2
    ∷ 0 ∷ 0 ∷ 0 ∷ 0 ∷ 0 ∷ 0 ∷ 0 ∷ 4 ∷ 0 ∷ 7 ∷ 0 ∷ 1 ∷ 0 ∷ 0
    ∷ 0 ∷ 3  -- polls
    ∷ 0 ∷ 1 ∷ 0 ∷ 1
    ∷ 0 ∷ 3 ∷ 0 ∷ 1
    ∷ 0 ∷ 2 ∷ 0 ∷ 1
    ∷ []

unfoldable pub late : CallsMade → List (List Got)
late c =
    let first = (c.book (c.book (open_call unopened (setting_of 1 1 1 2 0)).words 1 7 (0 ∷ [])).words 2 8 (0 ∷ [])).words in
    let booked = (c.book first 3 9 (1 ∷ 2 ∷ [])).words in
    let accepted = (c.poll (c.poll (c.poll booked 1 (1 ∷ [])).words 3 (1 ∷ [])).words 2 (1 ∷ [])).words in
    let rivalled = (c.book accepted 4 7 (0 ∷ [])).words in
    let again = c.read rivalled late_says in
    (is (mark_of rivalled 1) ∷ is (mark_of rivalled 2) ∷ is (mark_of again.words 1) ∷ is (mark_of again.words 2) ∷ [])
    ∷ read again (with_field rivalled 1 mark_field 0)
    ∷ []

-- read, even on those very words, it gives every word but the mark of 1: there the rival is booked before the polls. Booking 2 is marked by its polls again
unfoldable pub late_rows : List (List Got)
late_rows = (is 1 ∷ is 1 ∷ is 0 ∷ is 1 ∷ []) ∷ leaving 0 ∷ []

-- ---- the genesis alone, with the paper's setting

abbrev pub alone_says : List ℕ
alone_says = 0 ∷ 4 ∷ 0 ∷ 10 ∷ 0 ∷ 8 ∷ 0 ∷ 11 ∷ 0 ∷ 150 ∷ 0 ∷ 0 ∷ 0 ∷ 0 ∷ []

unfoldable pub alone : CallsMade → List (List Got)
alone c =
    let empty = (open_call unopened (setting_of 10 8 11 150 0)).words in
    let again = c.read unopened alone_says in
    -- a buffer of just the file's length
    written c empty (replicate 14 7)
    -- and one byte less
    ∷ written c empty (replicate 13 7)
    -- read where nothing was opened, and on another ledger
    ∷ read again empty
    ∷ written c again.words (replicate 14 7)
    ∷ read (c.read other alone_says) empty
    ∷ []

unfoldable pub alone_rows : List (List Got)
alone_rows =
    given (is 14) alone_says
    ∷ given (16, pos 0) (replicate 13 7)
    ∷ leaving 0
    ∷ given (is 14) alone_says
    ∷ leaving 0
    ∷ []

-- ---- CR 7: edition 1, where each of its differences shows. The success of 1 makes its slot's counter 1, which is β1. The failure of 2, whose parent is 1, sets
-- the counters of slots 0, 7 and 8 to 0. The success of 3, 2's rival, changes the last of slot 8, and its counter is 1; that of slot 0 is 1 again

abbrev pub later_says : List ℕ
later_says =
    0 ∷ 5  -- five numbers: k, a, β1, β2, edition
    ∷ 0 ∷ 1 ∷ 0 ∷ 1 ∷ 0 ∷ 1 ∷ 0 ∷ 2 ∷ 0 ∷ 1
    ∷ 0 ∷ 3  -- bookings
    ∷ 0 ∷ 0 ∷ 0 ∷ 0 ∷ 0 ∷ 0 ∷ 0 ∷ 1 ∷ 0 ∷ 7 ∷ 0 ∷ 1 ∷ 0 ∷ 0
    ∷ 0 ∷ 0 ∷ 0 ∷ 0 ∷ 0 ∷ 0 ∷ 0 ∷ 2 ∷ 0 ∷ 8 ∷ 0 ∷ 1 ∷ 0 ∷ 1
    ∷ 0 ∷ 0 ∷ 0 ∷ 0 ∷ 0 ∷ 0 ∷ 0 ∷ 3 ∷ 0 ∷ 8 ∷ 0 ∷ 1 ∷ 0 ∷ 0
    ∷ 0 ∷ 3  -- polls
    ∷ 0 ∷ 1 ∷ 0 ∷ 1
    ∷ 0 ∷ 2 ∷ 0 ∷ 0
    ∷ 0 ∷ 3 ∷ 0 ∷ 1
    ∷ []

-- the genesis alone, by the later edition
abbrev pub alone_later_says : List ℕ
alone_later_says = 0 ∷ 5 ∷ 0 ∷ 10 ∷ 0 ∷ 8 ∷ 0 ∷ 11 ∷ 0 ∷ 150 ∷ 0 ∷ 1 ∷ 0 ∷ 0 ∷ 0 ∷ 0 ∷ []

unfoldable pub later : CallsMade → List (List Got)
later c =
    let first = (c.book (c.book (open_call unopened (setting_of 1 1 1 2 1)).words 1 7 (0 ∷ [])).words 2 8 (1 ∷ [])).words in
    let booked = (c.book first 3 8 (0 ∷ [])).words in
    let polled = (c.poll (c.poll (c.poll booked 1 (1 ∷ [])).words 2 (0 ∷ [])).words 3 (1 ∷ [])).words in
    let again = c.read other later_says in
    let empty = (open_call unopened (setting_of 10 8 11 150 1)).words in
    written c polled (replicate 70 7 ++ 8 ∷ [])
    ∷ read again polled
    -- the counters of slots 0, 7 and 8, and the mark of 1
    ∷ (is (counter_in again.words 0) ∷ is (counter_in again.words 7) ∷ is (counter_in again.words 8) ∷ is (mark_of again.words 1) ∷ [])
    ∷ written c again.words (replicate 70 7)
    ∷ written c empty (replicate 16 7)
    ∷ read (c.read other alone_later_says) empty
    ∷ []

unfoldable pub later_rows : List (List Got)
later_rows =
    given (is 70) (later_says ++ 8 ∷ [])
    ∷ leaving 0
    ∷ (is 1 ∷ is 0 ∷ is 1 ∷ is 1 ∷ [])
    ∷ given (is 70) later_says
    ∷ given (is 16) alone_later_says
    ∷ leaving 0
    ∷ []

-- ---- damage comes before a short buffer. One booking, number 1 in slot 7, waits: no confidence and no counter may be above 0, and p may be 0 or 1

unfoldable pub damaged : CallsMade → List (List Got)
damaged c =
    let sound = (c.book (open_call unopened (setting_of 1 1 1 2 0)).words 1 7 (0 ∷ [])).words in
    let counter = with_entry sound 7 counter_field 1 in
    let confidence = with_field counter 1 confidence_field 1 in
    let header = with_header confidence polls_field 2 in
    -- nothing is damaged, and no buffer has less room
    written c sound []
    -- a slot, and a record beside it
    ∷ written c counter []
    ∷ written c confidence []
    -- the header beside both, and one word more beside all that; what was never opened
    ∷ written c header []
    ∷ written c (0 ∷ header) []
    ∷ written c unopened []
    ∷ []

unfoldable pub damaged_rows : List (List Got)
damaged_rows =
    given (16, pos 0) []
    ∷ given (15, pos 7) []
    ∷ given (14, pos 1) []
    ∷ given (2, pos 0) []
    ∷ given (1, pos 0) []
    ∷ given (2, pos 0) []
    ∷ []

-- ---- the whole table, by the ledgers that the cases are made on

-- what the cases give
abbrev pub table : CallsMade → List (List Got)
table c = example c ++ second c ++ late c ++ alone c ++ later c ++ damaged c

-- what the requests say
abbrev pub says : List (List Got)
says = example_rows ++ second_rows ++ late_rows ++ alone_rows ++ later_rows ++ damaged_rows

-- ---- computed with the test that walks

-- a good file of the form, where the day's calls give o
abbrev good_once : Outcome → Form → List ℕ → Bool
good_once o First = good_file_by (λ d. o)
good_once o Second = good_second_by (λ d. o)

-- reading and moving, where the day's calls give o
abbrev pub read_with : Outcome → Form → List ℕ → List ℕ → Outcome
read_with o form w file = read_file_by (good_once o) (λ d. o) form w file

abbrev pub move_with : Outcome → Form → List ℕ → List ℕ → Outcome
move_with o form file out = move_file_by (good_once o) (λ d. o) form file out

-- with the day made once for its answer and its words
abbrev read_once : (Day → Outcome) → Form → List ℕ → List ℕ → Outcome
read_once again form w file = let o = again (decode file) in read_with o form w file

abbrev move_once : (Day → Outcome) → Form → List ℕ → List ℕ → Outcome
move_once again form file out = let o = again (decode file) in move_with o form file out

abbrev pub made : (List ℕ → Tested) → CallsMade
made test =
    record {
      book = book_by test;
      poll = poll_by test;
      write = write_file_by test First;
      read = read_once (replay_by test) First;
      write_second = write_file_by test Second;
      read_second = read_once (replay_by test) Second;
      move_first = move_once (replay_by test) First;
      move_second = move_once (replay_by test) Second;
    }

example_walked : Passes (same_table (example (made test_walked)) example_rows)
unfolding example example_rows decode value_of read_many in_order day_of parent_count holder high_first joined encode same_numbers_lem test_walked bad_record_walked bad_slot_walked all_zero header_good genesis_good booking_good parents_good state_good mark_good chits bookings_of opened open_word look_up has_unknown has_twice entered booked polled raise_one prefer follow settle_one clear_one restart enough failure_clears another_marked mark_one ancestry sweep spread vote_of open_call up_to first_from total greatest from walk_from
example_walked = tt

second_walked : Passes (same_table (second (made test_walked)) second_rows)
unfolding second second_rows decode value_of read_many in_order day_of parent_count holder high_first joined encode same_numbers_lem test_walked bad_record_walked bad_slot_walked all_zero header_good genesis_good booking_good parents_good state_good mark_good chits bookings_of opened open_word look_up has_unknown has_twice entered booked polled raise_one prefer follow settle_one clear_one restart enough failure_clears another_marked mark_one ancestry sweep spread vote_of open_call up_to first_from total greatest from walk_from
second_walked = tt

late_walked : Passes (same_table (late (made test_walked)) late_rows)
unfolding late late_rows decode value_of read_many in_order day_of parent_count holder high_first joined encode same_numbers_lem test_walked bad_record_walked bad_slot_walked all_zero header_good genesis_good booking_good parents_good state_good mark_good chits bookings_of opened open_word look_up has_unknown has_twice entered booked polled raise_one prefer follow settle_one clear_one restart enough failure_clears another_marked mark_one ancestry sweep spread vote_of open_call up_to first_from total greatest from walk_from
late_walked = tt

alone_walked : Passes (same_table (alone (made test_walked)) alone_rows)
unfolding alone alone_rows decode value_of read_many in_order day_of parent_count holder high_first joined encode same_numbers_lem test_walked bad_record_walked bad_slot_walked all_zero header_good genesis_good booking_good parents_good state_good mark_good chits bookings_of opened open_word look_up has_unknown has_twice entered booked polled raise_one prefer follow settle_one clear_one restart enough failure_clears another_marked mark_one ancestry sweep spread vote_of open_call up_to first_from total greatest from walk_from
alone_walked = tt

later_walked : Passes (same_table (later (made test_walked)) later_rows)
unfolding later later_rows decode value_of read_many in_order day_of parent_count holder high_first joined encode same_numbers_lem test_walked bad_record_walked bad_slot_walked all_zero header_good genesis_good booking_good parents_good state_good mark_good chits bookings_of opened open_word look_up has_unknown has_twice entered booked polled raise_one prefer follow settle_one clear_one restart enough failure_clears another_marked mark_one ancestry sweep spread vote_of open_call up_to first_from total greatest from walk_from
later_walked = tt

damaged_walked : Passes (same_table (damaged (made test_walked)) damaged_rows)
unfolding damaged damaged_rows decode value_of read_many in_order day_of parent_count holder high_first joined encode same_numbers_lem test_walked bad_record_walked bad_slot_walked all_zero header_good genesis_good booking_good parents_good state_good mark_good chits bookings_of opened open_word look_up has_unknown has_twice entered booked polled raise_one prefer follow settle_one clear_one restart enough failure_clears another_marked mark_one ancestry sweep spread vote_of open_call up_to first_from total greatest from walk_from
damaged_walked = tt

-- one ledger's rows, by the calls of the law
pub rows_by : (rows : CallsMade → List (List Got)) (said : List (List Got)) → Passes (same_table (rows (made test_walked)) said) → rows the_calls ≡ said
unfolding the_calls book_call poll_call write_file_call read_file_call move_file_call good_file good_second replay
rows_by rows said walked = ap (λ test. rows (made test)) (sym test_walked_is) ∙ same_table_lem (rows (made test_walked)) said (passes _ walked)

-- the statement: the cases are as the request says
pub cases : table the_calls ≡ says
cases =
    ap₂ ◌++◌
    (ap₂ ◌++◌
    (ap₂ ◌++◌
    (ap₂ ◌++◌ (ap₂ ◌++◌ (rows_by example example_rows example_walked) (rows_by second second_rows second_walked)) (rows_by late late_rows late_walked))
    (rows_by alone alone_rows alone_walked))
    (rows_by later later_rows later_walked))
    (rows_by damaged damaged_rows damaged_walked)
