-- CR 4 and CR 7: the cases of files that are bad, one table under one statement, computed from the definitions on whole workspaces.
-- Most are a small good file with one change. The bytes are plain numbers, worked out by hand from the requests' words.
use mathlib.Core.Path.{◌≡◌, ap₂}
use mathlib.Core.List.{List, [], ◌∷◌, ◌++◌}
use Prim.Native.Nat.{ℕ}
use lib.ListN.{replicate}
use Rattle.loops.specs.Turns.{up_to}
use Rattle.loops.specs.Search.{first_from}
use Rattle.loops.specs.Total.{total, greatest}
use Rattle.loops.specs.Fill.{from}
use Rattle.loops.specs.Rows.{walk_from}
use Rattle.terms.specs.Votes.{vote_of}
use Rattle.terms.specs.Editions.{restart, enough, failure_clears}
use Rattle.rules.specs.Ancestry.{ancestry, sweep, spread}
use Rattle.rules.specs.IsSound.{header_good, genesis_good, booking_good, parents_good, state_good, mark_good, chits, bookings_of}
use Rattle.rules.specs.Open.{opened, open_word}
use Rattle.rules.specs.Book.{look_up, has_unknown, has_twice, entered, booked}
use Rattle.rules.specs.Marks.{another_marked, mark_one}
use Rattle.rules.specs.Poll.{polled, raise_one, prefer, follow, settle_one, clear_one}
use Rattle.rules.specs.Calls.{open_call}
use Rattle.rules.proofs.Same.{same_numbers_lem, Got, got, Passes, same_table}
use Rattle.rules.proofs.Walk.{bad_record_walked, bad_slot_walked, all_zero, test_walked}
use Rattle.day_file.specs.Day.{parent_count, holder, day_of}
use Rattle.day_file.specs.Bytes.{high_first, joined, encode}
use Rattle.day_file.specs.Decode.{value_of, read_many, decode}
use Rattle.day_file.specs.Replay.{in_order}
use Rattle.day_file.proofs.Cases.{CallsMade, the_calls, is, read, leaving, other, alone_says, made, rows_by}

-- each is read on another ledger, and every word of that stays
abbrev read_on : CallsMade → (w : List ℕ) → List (List ℕ) → List (List Got)
read_on c w [] = []
read_on c w (file ∷ files) = read (c.read w file) w ∷ read_on c w files

abbrev read_each : CallsMade → List (List ℕ) → List (List Got)
read_each c files = let w = other in read_on c w files

-- ---- the small file: the bookings 5, with the genesis for parent, and 9, with both for parents; 9's poll succeeded, and then 5's failed

abbrev four : List ℕ
four = 0 ∷ 4 ∷ 0 ∷ 3 ∷ 0 ∷ 2 ∷ 0 ∷ 1 ∷ 0 ∷ 2 ∷ []

abbrev five : List ℕ
five = 0 ∷ 0 ∷ 0 ∷ 0 ∷ 0 ∷ 0 ∷ 0 ∷ 5 ∷ 0 ∷ 7 ∷ 0 ∷ 1 ∷ 0 ∷ 0 ∷ []

abbrev nine : List ℕ
nine = 0 ∷ 0 ∷ 0 ∷ 0 ∷ 0 ∷ 0 ∷ 0 ∷ 9 ∷ 0 ∷ 8 ∷ 0 ∷ 2 ∷ 0 ∷ 0 ∷ 0 ∷ 1 ∷ []

abbrev polls : List ℕ
polls = 0 ∷ 2 ∷ 0 ∷ 2 ∷ 0 ∷ 1 ∷ 0 ∷ 1 ∷ 0 ∷ 0 ∷ []

abbrev file_of : (setting one two asked : List ℕ) → List ℕ
file_of setting one two asked = setting ++ (0 ∷ 2 ∷ []) ++ one ++ two ++ asked

-- as it is, it is taken: nothing but the change makes a file bad
unfoldable pub unchanged : CallsMade → List (List Got)
unchanged c = (got (c.read other (file_of four five nine polls)).answer ∷ []) ∷ []

unfoldable pub unchanged_rows : List (List Got)
unchanged_rows = (is 0 ∷ []) ∷ []

-- ---- bytes that are not those of the day that they are read as

unfoldable pub amiss : CallsMade → List (List Got)
amiss c =
    read_each c (
    -- a first count of 3 or 5, before as many numbers and before four
    file_of (0 ∷ 3 ∷ 0 ∷ 3 ∷ 0 ∷ 2 ∷ 0 ∷ 1 ∷ []) five nine polls
    ∷ file_of (0 ∷ 5 ∷ 0 ∷ 3 ∷ 0 ∷ 2 ∷ 0 ∷ 1 ∷ 0 ∷ 2 ∷ 0 ∷ 2 ∷ []) five nine polls
    ∷ file_of (0 ∷ 3 ∷ 0 ∷ 3 ∷ 0 ∷ 2 ∷ 0 ∷ 1 ∷ 0 ∷ 2 ∷ []) five nine polls
    ∷ file_of (0 ∷ 5 ∷ 0 ∷ 3 ∷ 0 ∷ 2 ∷ 0 ∷ 1 ∷ 0 ∷ 2 ∷ []) five nine polls
    -- an outcome of 2, and of 256
    ∷ file_of four five nine (0 ∷ 2 ∷ 0 ∷ 2 ∷ 0 ∷ 1 ∷ 0 ∷ 1 ∷ 0 ∷ 2 ∷ [])
    ∷ file_of four five nine (0 ∷ 2 ∷ 0 ∷ 2 ∷ 0 ∷ 1 ∷ 0 ∷ 1 ∷ 1 ∷ 0 ∷ [])
    -- the last byte missing, one byte more, and no byte at all
    ∷ file_of four five nine (0 ∷ 2 ∷ 0 ∷ 2 ∷ 0 ∷ 1 ∷ 0 ∷ 1 ∷ 0 ∷ [])
    ∷ file_of four five nine (0 ∷ 2 ∷ 0 ∷ 2 ∷ 0 ∷ 1 ∷ 0 ∷ 1 ∷ 0 ∷ 0 ∷ 0 ∷ [])
    ∷ []
    ∷ []
    )

unfoldable pub amiss_rows : List (List Got)
amiss_rows = replicate 9 (leaving 17)

-- ---- CR 7: the genesis alone of edition 1, which is taken, with one change

unfoldable pub editions : CallsMade → List (List Got)
editions c =
    read_each c (
    -- edition 0 after a count of 5, and edition 2
    (0 ∷ 5 ∷ 0 ∷ 10 ∷ 0 ∷ 8 ∷ 0 ∷ 11 ∷ 0 ∷ 150 ∷ 0 ∷ 0 ∷ 0 ∷ 0 ∷ 0 ∷ 0 ∷ [])
    ∷ (0 ∷ 5 ∷ 0 ∷ 10 ∷ 0 ∷ 8 ∷ 0 ∷ 11 ∷ 0 ∷ 150 ∷ 0 ∷ 2 ∷ 0 ∷ 0 ∷ 0 ∷ 0 ∷ [])
    -- a count of 4 before five numbers, and of 6 before six
    ∷ (0 ∷ 4 ∷ 0 ∷ 10 ∷ 0 ∷ 8 ∷ 0 ∷ 11 ∷ 0 ∷ 150 ∷ 0 ∷ 1 ∷ 0 ∷ 0 ∷ 0 ∷ 0 ∷ [])
    ∷ (0 ∷ 6 ∷ 0 ∷ 10 ∷ 0 ∷ 8 ∷ 0 ∷ 11 ∷ 0 ∷ 150 ∷ 0 ∷ 1 ∷ 0 ∷ 1 ∷ 0 ∷ 0 ∷ 0 ∷ 0 ∷ [])
    ∷ []
    )

unfoldable pub editions_rows : List (List Got)
editions_rows = replicate 4 (leaving 17)

-- ---- a setting or a booking that is not taken

unfoldable pub unbooked : CallsMade → List (List Got)
unbooked c =
    read_each c (
    -- an a of 4, above k
    file_of (0 ∷ 4 ∷ 0 ∷ 3 ∷ 0 ∷ 4 ∷ 0 ∷ 1 ∷ 0 ∷ 2 ∷ []) five nine polls
    -- the name 0, which the genesis has, and the name 5 again
    ∷ file_of four (0 ∷ 0 ∷ 0 ∷ 0 ∷ 0 ∷ 0 ∷ 0 ∷ 0 ∷ 0 ∷ 7 ∷ 0 ∷ 1 ∷ 0 ∷ 0 ∷ []) nine polls
    ∷ file_of four five (0 ∷ 0 ∷ 0 ∷ 0 ∷ 0 ∷ 0 ∷ 0 ∷ 5 ∷ 0 ∷ 8 ∷ 0 ∷ 2 ∷ 0 ∷ 0 ∷ 0 ∷ 1 ∷ []) polls
    -- slot 0, and slot 256
    ∷ file_of four (0 ∷ 0 ∷ 0 ∷ 0 ∷ 0 ∷ 0 ∷ 0 ∷ 5 ∷ 0 ∷ 0 ∷ 0 ∷ 1 ∷ 0 ∷ 0 ∷ []) nine polls
    ∷ file_of four (0 ∷ 0 ∷ 0 ∷ 0 ∷ 0 ∷ 0 ∷ 0 ∷ 5 ∷ 1 ∷ 0 ∷ 0 ∷ 1 ∷ 0 ∷ 0 ∷ []) nine polls
    -- no parents
    ∷ file_of four (0 ∷ 0 ∷ 0 ∷ 0 ∷ 0 ∷ 0 ∷ 0 ∷ 5 ∷ 0 ∷ 7 ∷ 0 ∷ 0 ∷ []) nine polls
    -- a parent twice
    ∷ file_of four (0 ∷ 0 ∷ 0 ∷ 0 ∷ 0 ∷ 0 ∷ 0 ∷ 5 ∷ 0 ∷ 7 ∷ 0 ∷ 2 ∷ 0 ∷ 0 ∷ 0 ∷ 0 ∷ []) nine polls
    ∷ []
    )

unfoldable pub unbooked_rows : List (List Got)
unbooked_rows = replicate 7 (leaving 17)

-- a parent with a number that is not booked yet: the booking's own, one that is booked later, and one that never is
unfoldable pub ahead : CallsMade → List (List Got)
ahead c =
    read_each c (
    file_of four (0 ∷ 0 ∷ 0 ∷ 0 ∷ 0 ∷ 0 ∷ 0 ∷ 5 ∷ 0 ∷ 7 ∷ 0 ∷ 1 ∷ 0 ∷ 1 ∷ []) nine polls
    ∷ file_of four (0 ∷ 0 ∷ 0 ∷ 0 ∷ 0 ∷ 0 ∷ 0 ∷ 5 ∷ 0 ∷ 7 ∷ 0 ∷ 1 ∷ 0 ∷ 2 ∷ []) nine polls
    ∷ file_of four (0 ∷ 0 ∷ 0 ∷ 0 ∷ 0 ∷ 0 ∷ 0 ∷ 5 ∷ 0 ∷ 7 ∷ 0 ∷ 1 ∷ 0 ∷ 3 ∷ []) nine polls
    ∷ []
    )

unfoldable pub ahead_rows : List (List Got)
ahead_rows = replicate 3 (leaving 17)

-- five parents, the genesis and all four bookings; CR 2's second ledger has four
abbrev crowded_says : List ℕ
crowded_says =
    four
    ++ (
    0 ∷ 5
    ∷ 0 ∷ 0 ∷ 0 ∷ 0 ∷ 0 ∷ 0 ∷ 0 ∷ 1 ∷ 0 ∷ 1 ∷ 0 ∷ 1 ∷ 0 ∷ 0
    ∷ 0 ∷ 0 ∷ 0 ∷ 0 ∷ 0 ∷ 0 ∷ 0 ∷ 2 ∷ 0 ∷ 1 ∷ 0 ∷ 1 ∷ 0 ∷ 0
    ∷ 0 ∷ 0 ∷ 0 ∷ 0 ∷ 0 ∷ 0 ∷ 0 ∷ 3 ∷ 0 ∷ 1 ∷ 0 ∷ 1 ∷ 0 ∷ 0
    ∷ 0 ∷ 0 ∷ 0 ∷ 0 ∷ 0 ∷ 0 ∷ 0 ∷ 4 ∷ 0 ∷ 1 ∷ 0 ∷ 1 ∷ 0 ∷ 0
    ∷ 0 ∷ 0 ∷ 0 ∷ 0 ∷ 0 ∷ 0 ∷ 0 ∷ 5 ∷ 0 ∷ 1 ∷ 0 ∷ 5 ∷ 0 ∷ 0 ∷ 0 ∷ 1 ∷ 0 ∷ 2 ∷ 0 ∷ 3 ∷ 0 ∷ 4
    ∷ 0 ∷ 0
    ∷ []
    )

unfoldable pub crowded : CallsMade → List (List Got)
crowded c = read_each c (crowded_says ∷ [])

unfoldable pub crowded_rows : List (List Got)
crowded_rows = leaving 17 ∷ []

-- ---- a poll that is not taken, where 5 alone is booked

abbrev asked_of : List ℕ → List ℕ
asked_of asked = four ++ (0 ∷ 1 ∷ []) ++ five ++ asked

unfoldable pub unpolled : CallsMade → List (List Got)
unpolled c =
    read_each c (
    -- of the genesis, and of number 2
    asked_of (0 ∷ 1 ∷ 0 ∷ 0 ∷ 0 ∷ 0 ∷ [])
    ∷ asked_of (0 ∷ 1 ∷ 0 ∷ 2 ∷ 0 ∷ 0 ∷ [])
    -- of number 1 again: more polls than bookings
    ∷ asked_of (0 ∷ 2 ∷ 0 ∷ 1 ∷ 0 ∷ 1 ∷ 0 ∷ 1 ∷ 0 ∷ 1 ∷ [])
    -- and again where the other waits
    ∷ file_of four five nine (0 ∷ 2 ∷ 0 ∷ 2 ∷ 0 ∷ 0 ∷ 0 ∷ 2 ∷ 0 ∷ 1 ∷ [])
    ∷ []
    )

unfoldable pub unpolled_rows : List (List Got)
unpolled_rows = replicate 4 (leaving 17)

-- ---- one word more comes before a bad file. The words stay, also where the file is good

unfoldable pub longer : CallsMade → List (List Got)
longer c = let w : List ℕ = 0 ∷ other in read_on c w ([] ∷ alone_says ∷ [])

unfoldable pub longer_rows : List (List Got)
longer_rows = leaving 1 ∷ leaving 1 ∷ []

-- ---- the whole table, by the way in which a file is bad

-- what the cases give
abbrev pub table : CallsMade → List (List Got)
table c = unchanged c ++ amiss c ++ editions c ++ unbooked c ++ ahead c ++ crowded c ++ unpolled c ++ longer c

-- what the requests say
abbrev pub says : List (List Got)
says = unchanged_rows ++ amiss_rows ++ editions_rows ++ unbooked_rows ++ ahead_rows ++ crowded_rows ++ unpolled_rows ++ longer_rows

-- ---- computed with the test that walks

unchanged_walked : Passes (same_table (unchanged (made test_walked)) unchanged_rows)
unfolding unchanged unchanged_rows decode value_of read_many in_order day_of parent_count holder high_first joined encode same_numbers_lem test_walked bad_record_walked bad_slot_walked all_zero header_good genesis_good booking_good parents_good state_good mark_good chits bookings_of opened open_word look_up has_unknown has_twice entered booked polled raise_one prefer follow settle_one clear_one restart enough failure_clears another_marked mark_one ancestry sweep spread vote_of open_call up_to first_from total greatest from walk_from
unchanged_walked = tt

amiss_walked : Passes (same_table (amiss (made test_walked)) amiss_rows)
unfolding amiss amiss_rows decode value_of read_many in_order day_of parent_count holder high_first joined encode same_numbers_lem test_walked bad_record_walked bad_slot_walked all_zero header_good genesis_good booking_good parents_good state_good mark_good chits bookings_of opened open_word look_up has_unknown has_twice entered booked polled raise_one prefer follow settle_one clear_one restart enough failure_clears another_marked mark_one ancestry sweep spread vote_of open_call up_to first_from total greatest from walk_from
amiss_walked = tt

editions_walked : Passes (same_table (editions (made test_walked)) editions_rows)
unfolding editions editions_rows decode value_of read_many in_order day_of parent_count holder high_first joined encode same_numbers_lem test_walked bad_record_walked bad_slot_walked all_zero header_good genesis_good booking_good parents_good state_good mark_good chits bookings_of opened open_word look_up has_unknown has_twice entered booked polled raise_one prefer follow settle_one clear_one restart enough failure_clears another_marked mark_one ancestry sweep spread vote_of open_call up_to first_from total greatest from walk_from
editions_walked = tt

unbooked_walked : Passes (same_table (unbooked (made test_walked)) unbooked_rows)
unfolding unbooked unbooked_rows decode value_of read_many in_order day_of parent_count holder high_first joined encode same_numbers_lem test_walked bad_record_walked bad_slot_walked all_zero header_good genesis_good booking_good parents_good state_good mark_good chits bookings_of opened open_word look_up has_unknown has_twice entered booked polled raise_one prefer follow settle_one clear_one restart enough failure_clears another_marked mark_one ancestry sweep spread vote_of open_call up_to first_from total greatest from walk_from
unbooked_walked = tt

ahead_walked : Passes (same_table (ahead (made test_walked)) ahead_rows)
unfolding ahead ahead_rows decode value_of read_many in_order day_of parent_count holder high_first joined encode same_numbers_lem test_walked bad_record_walked bad_slot_walked all_zero header_good genesis_good booking_good parents_good state_good mark_good chits bookings_of opened open_word look_up has_unknown has_twice entered booked polled raise_one prefer follow settle_one clear_one restart enough failure_clears another_marked mark_one ancestry sweep spread vote_of open_call up_to first_from total greatest from walk_from
ahead_walked = tt

crowded_walked : Passes (same_table (crowded (made test_walked)) crowded_rows)
unfolding crowded crowded_rows decode value_of read_many in_order day_of parent_count holder high_first joined encode same_numbers_lem test_walked bad_record_walked bad_slot_walked all_zero header_good genesis_good booking_good parents_good state_good mark_good chits bookings_of opened open_word look_up has_unknown has_twice entered booked polled raise_one prefer follow settle_one clear_one restart enough failure_clears another_marked mark_one ancestry sweep spread vote_of open_call up_to first_from total greatest from walk_from
crowded_walked = tt

unpolled_walked : Passes (same_table (unpolled (made test_walked)) unpolled_rows)
unfolding unpolled unpolled_rows decode value_of read_many in_order day_of parent_count holder high_first joined encode same_numbers_lem test_walked bad_record_walked bad_slot_walked all_zero header_good genesis_good booking_good parents_good state_good mark_good chits bookings_of opened open_word look_up has_unknown has_twice entered booked polled raise_one prefer follow settle_one clear_one restart enough failure_clears another_marked mark_one ancestry sweep spread vote_of open_call up_to first_from total greatest from walk_from
unpolled_walked = tt

longer_walked : Passes (same_table (longer (made test_walked)) longer_rows)
unfolding longer longer_rows decode value_of read_many in_order day_of parent_count holder high_first joined encode same_numbers_lem test_walked bad_record_walked bad_slot_walked all_zero header_good genesis_good booking_good parents_good state_good mark_good chits bookings_of opened open_word look_up has_unknown has_twice entered booked polled raise_one prefer follow settle_one clear_one restart enough failure_clears another_marked mark_one ancestry sweep spread vote_of open_call up_to first_from total greatest from walk_from
longer_walked = tt

-- the statement: the cases are as the request says
pub cases : table the_calls ≡ says
cases = ap₂ ◌++◌ (ap₂ ◌++◌ (ap₂ ◌++◌ (ap₂ ◌++◌ (ap₂ ◌++◌ (ap₂ ◌++◌ (ap₂ ◌++◌ (rows_by unchanged unchanged_rows unchanged_walked) (rows_by amiss amiss_rows amiss_walked)) (rows_by editions editions_rows editions_walked)) (rows_by unbooked unbooked_rows unbooked_walked)) (rows_by ahead ahead_rows ahead_walked)) (rows_by crowded crowded_rows crowded_walked)) (rows_by unpolled unpolled_rows unpolled_walked)) (rows_by longer longer_rows longer_walked)
