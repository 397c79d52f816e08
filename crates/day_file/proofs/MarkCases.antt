-- CR 9: the cases of the second form and of moving a file, one table under one statement, computed from the definitions on whole workspaces.
-- The bytes are plain numbers, worked out by hand from the request's words.
use mathlib.Core.Path.{◌≡◌, refl, sym, ap, ap₂, subst, fun_ext}
use mathlib.Core.List.{List, [], ◌∷◌, ◌++◌}
use Prim.Native.Nat.{ℕ}
use lib.IntN.{pos}
use lib.ListN.{replicate}
use Rattle.loops.specs.Turns.{up_to}
use Rattle.loops.specs.Search.{first_from}
use Rattle.loops.specs.Total.{bit, total, greatest}
use Rattle.loops.specs.Fill.{from, chosen}
use Rattle.loops.specs.Rows.{walk_from}
use Rattle.terms.specs.declared.form.Form.TheVariants.{First, Second}
use Rattle.terms.specs.Setting.{setting_of}
use Rattle.terms.specs.Answers.{Outcome}
use Rattle.terms.specs.Votes.{vote_of}
use Rattle.terms.specs.Editions.{restart, enough, failure_clears}
use Rattle.rules.specs.Layout.{mark_field, mark_of, with_field}
use Rattle.rules.specs.Ancestry.{ancestry, sweep, spread}
use Rattle.rules.specs.IsSound.{header_good, genesis_good, booking_good, parents_good, state_good, mark_good, chits, bookings_of}
use Rattle.rules.specs.Open.{opened, open_word}
use Rattle.rules.specs.Book.{look_up, has_unknown, has_twice, entered, booked}
use Rattle.rules.specs.Marks.{another_marked, mark_one}
use Rattle.rules.specs.Poll.{polled, raise_one, prefer, follow, settle_one, clear_one}
use Rattle.rules.specs.Calls.{open_call}
use Rattle.rules.proofs.Same.{same_numbers_lem, Got, got, Passes, same_table}
use Rattle.rules.proofs.Walk.{bad_record_walked, bad_slot_walked, all_zero, test_walked}
use Rattle.day_file.specs.Day.{Day, parent_count, holder, day_of, marks_of}
use Rattle.day_file.specs.Bytes.{high_first, joined, encode}
use Rattle.day_file.specs.Decode.{value_of, read_many, decode, behind_day}
use Rattle.day_file.specs.Marks.{marks_good, remarked}
use Rattle.day_file.specs.Replay.{in_order, replay_by}
use Rattle.day_file.proofs.Cases.{CallsMade, the_calls, is, each, given, read, leaving, unopened, other, read_with, move_with, made, rows_by}

-- what writing the second form gives: number and value, whether every word is as it was, and the bytes of the buffer
abbrev written_second : CallsMade → (w buffer : List ℕ) → List Got
written_second c w buffer = let o = c.write_second w buffer in got o.answer ∷ is (bit (same_numbers_lem o.words w)) ∷ each o.lent

-- what a move gives: number and value, and the bytes of the output
abbrev moved : Outcome → List Got
moved o = got o.answer ∷ each o.words

-- and what it has to give
abbrev moving : Got → (bytes : List ℕ) → List Got
moving answer bytes = answer ∷ each bytes

-- ---- the ledger where the first form hands an acceptance to a late rival: 1 is accepted alone in slot 7, and then 3 comes, with 4, 5 and 6 on it. Polls raise 3 above
-- 1, and it would be accepted, were 1 not. Read from the first form the rival is there before the polls: 1 is never alone, and 3 is accepted

abbrev day_bytes : List ℕ
day_bytes =
    0 ∷ 4 ∷ 0 ∷ 1 ∷ 0 ∷ 1 ∷ 0 ∷ 1 ∷ 0 ∷ 2
    ∷ 0 ∷ 6  -- bookings
    ∷ 0 ∷ 0 ∷ 0 ∷ 0 ∷ 0 ∷ 0 ∷ 0 ∷ 1 ∷ 0 ∷ 7 ∷ 0 ∷ 1 ∷ 0 ∷ 0
    ∷ 0 ∷ 0 ∷ 0 ∷ 0 ∷ 0 ∷ 0 ∷ 0 ∷ 2 ∷ 0 ∷ 8 ∷ 0 ∷ 1 ∷ 0 ∷ 1
    ∷ 0 ∷ 0 ∷ 0 ∷ 0 ∷ 0 ∷ 0 ∷ 0 ∷ 3 ∷ 0 ∷ 7 ∷ 0 ∷ 1 ∷ 0 ∷ 0
    ∷ 0 ∷ 0 ∷ 0 ∷ 0 ∷ 0 ∷ 0 ∷ 0 ∷ 4 ∷ 0 ∷ 11 ∷ 0 ∷ 1 ∷ 0 ∷ 3
    ∷ 0 ∷ 0 ∷ 0 ∷ 0 ∷ 0 ∷ 0 ∷ 0 ∷ 5 ∷ 0 ∷ 12 ∷ 0 ∷ 1 ∷ 0 ∷ 3
    ∷ 0 ∷ 0 ∷ 0 ∷ 0 ∷ 0 ∷ 0 ∷ 0 ∷ 6 ∷ 0 ∷ 13 ∷ 0 ∷ 1 ∷ 0 ∷ 3
    ∷ 0 ∷ 6  -- polls
    ∷ 0 ∷ 1 ∷ 0 ∷ 1
    ∷ 0 ∷ 2 ∷ 0 ∷ 1
    ∷ 0 ∷ 3 ∷ 0 ∷ 1
    ∷ 0 ∷ 4 ∷ 0 ∷ 1
    ∷ 0 ∷ 5 ∷ 0 ∷ 1
    ∷ 0 ∷ 6 ∷ 0 ∷ 1
    ∷ []

-- the genesis and 1, the genesis and 3, and the genesis alone
abbrev marks_kept : List ℕ
marks_kept = 0 ∷ 2 ∷ 0 ∷ 0 ∷ 0 ∷ 1 ∷ []

abbrev marks_handed : List ℕ
marks_handed = 0 ∷ 2 ∷ 0 ∷ 0 ∷ 0 ∷ 3 ∷ []

abbrev genesis_marked : List ℕ
genesis_marked = 0 ∷ 1 ∷ 0 ∷ 0 ∷ []

unfoldable pub kept : CallsMade → List (List Got)
kept c =
    let alone = (c.book (c.book (open_call unopened (setting_of 1 1 1 2 0)).words 1 7 (0 ∷ [])).words 2 8 (1 ∷ [])).words in
    let accepted = (c.poll (c.poll alone 1 (1 ∷ [])).words 2 (1 ∷ [])).words in
    let rivalled = (c.book (c.book accepted 3 7 (0 ∷ [])).words 4 11 (3 ∷ [])).words in
    let booked = (c.book (c.book rivalled 5 12 (3 ∷ [])).words 6 13 (3 ∷ [])).words in
    let raised = (c.poll (c.poll (c.poll (c.poll booked 3 (1 ∷ [])).words 4 (1 ∷ [])).words 5 (1 ∷ [])).words 6 (1 ∷ [])).words in
    written_second c raised (replicate 128 9 ++ 8 ∷ []) ∷ written_second c raised (replicate 127 9) ∷ []

-- the bytes past the file stay, and so does a buffer that is a byte too short
unfoldable pub kept_rows : List (List Got)
kept_rows = given (is 128) (day_bytes ++ marks_kept ++ 8 ∷ []) ∷ given (16, pos 0) (replicate 127 9) ∷ []

-- what reading gives: number and value, who of 1 and 3 is marked, and the second form that is then written
abbrev marks_after : CallsMade → Outcome → List Got
marks_after c o = got o.answer ∷ is (mark_of o.words 1) ∷ is (mark_of o.words 3) ∷ written_second c o.words (replicate 128 9)

-- read from the first form, from the second, moved there, moved back from there, moved back as it is, and with fewer marks
abbrev handed_by : CallsMade → (from_first from_second there again back fewer : Outcome) → List (List Got)
handed_by c from_first from_second there again back fewer =
    marks_after c from_first ∷ marks_after c from_second ∷ moved there ∷ moved again ∷ moved back ∷ moved fewer ∷ []

abbrev room : List ℕ
room = replicate 128 9 ++ 8 ∷ []

unfoldable pub handed : CallsMade → List (List Got)
handed c =
    handed_by c (c.read other day_bytes) (c.read_second other (day_bytes ++ marks_kept)) (c.move_first day_bytes room)
    (c.move_second (day_bytes ++ marks_handed) (replicate 122 9)) (c.move_second (day_bytes ++ marks_kept) (replicate 122 9))
    (c.move_second (day_bytes ++ genesis_marked) (replicate 122 9))

-- by the first form 3 is accepted, by the second 1 stays. A move there has what the first form gives, and a move back would lose the mark of 1. Where
-- the genesis alone is marked a move back would lose no mark, and 3 would be given one
unfoldable pub handed_rows : List (List Got)
handed_rows =
    (is 0 ∷ is 0 ∷ is 1 ∷ given (is 128) (day_bytes ++ marks_handed))
    ∷ (is 0 ∷ is 1 ∷ is 0 ∷ given (is 128) (day_bytes ++ marks_kept))
    ∷ moving (is 128) (day_bytes ++ marks_handed ++ 8 ∷ [])
    ∷ moving (is 122) day_bytes
    ∷ moving (19, pos 0) (replicate 122 9)
    ∷ moving (19, pos 0) (replicate 122 9)
    ∷ []

-- ---- two rivals that wait: 1 and 2 in slot 7, with the genesis for parent, and 3 in slot 8

abbrev rivals : List ℕ
rivals =
    0 ∷ 4 ∷ 0 ∷ 1 ∷ 0 ∷ 1 ∷ 0 ∷ 1 ∷ 0 ∷ 2
    ∷ 0 ∷ 3  -- bookings
    ∷ 0 ∷ 0 ∷ 0 ∷ 0 ∷ 0 ∷ 0 ∷ 0 ∷ 1 ∷ 0 ∷ 7 ∷ 0 ∷ 1 ∷ 0 ∷ 0
    ∷ 0 ∷ 0 ∷ 0 ∷ 0 ∷ 0 ∷ 0 ∷ 0 ∷ 2 ∷ 0 ∷ 7 ∷ 0 ∷ 1 ∷ 0 ∷ 0
    ∷ 0 ∷ 0 ∷ 0 ∷ 0 ∷ 0 ∷ 0 ∷ 0 ∷ 3 ∷ 0 ∷ 8 ∷ 0 ∷ 1 ∷ 0 ∷ 0
    ∷ 0 ∷ 0  -- no polls
    ∷ []

-- marks are taken that no vote earned: one in each slot, and, as it should be, the genesis alone
unfoldable pub unearned : CallsMade → List (List Got)
unearned c =
    let empty = (open_call unopened (setting_of 1 1 1 2 0)).words in
    let booked = (c.book (c.book (c.book empty 1 7 (0 ∷ [])).words 2 7 (0 ∷ [])).words 3 8 (0 ∷ [])).words in
    read (c.read_second other (rivals ++ 0 ∷ 1 ∷ 0 ∷ 0 ∷ [])) booked
    ∷ read (c.read_second other (rivals ++ 0 ∷ 3 ∷ 0 ∷ 0 ∷ 0 ∷ 2 ∷ 0 ∷ 3 ∷ [])) (with_field (with_field booked 2 mark_field 1) 3 mark_field 1)
    ∷ []

unfoldable pub unearned_rows : List (List Got)
unearned_rows = leaving 0 ∷ leaving 0 ∷ []

-- each tail is read behind the rivals' bytes on another ledger, and every word of that stays
abbrev read_tails : (reads : (tail : List ℕ) → Outcome) → (w : List ℕ) → List (List ℕ) → List (List Got)
read_tails reads w [] = []
read_tails reads w (tail ∷ tails) = read (reads tail) w ∷ read_tails reads w tails

-- each way a fourth section is bad
abbrev tails : List (List ℕ)
tails =
    -- no section, half a count, and none marked
    []
    ∷ (0 ∷ [])
    ∷ (0 ∷ 0 ∷ [])
    -- without the genesis
    ∷ (0 ∷ 1 ∷ 0 ∷ 1 ∷ [])
    -- the genesis twice, and 3 twice
    ∷ (0 ∷ 2 ∷ 0 ∷ 0 ∷ 0 ∷ 0 ∷ [])
    ∷ (0 ∷ 3 ∷ 0 ∷ 0 ∷ 0 ∷ 3 ∷ 0 ∷ 3 ∷ [])
    -- falling
    ∷ (0 ∷ 3 ∷ 0 ∷ 0 ∷ 0 ∷ 3 ∷ 0 ∷ 1 ∷ [])
    -- number n, and one whose low byte alone is a booking's
    ∷ (0 ∷ 2 ∷ 0 ∷ 0 ∷ 0 ∷ 4 ∷ [])
    ∷ (0 ∷ 2 ∷ 0 ∷ 0 ∷ 1 ∷ 1 ∷ [])
    -- both rivals
    ∷ (0 ∷ 3 ∷ 0 ∷ 0 ∷ 0 ∷ 1 ∷ 0 ∷ 2 ∷ [])
    -- a number missing, half of one missing, and one left over
    ∷ (0 ∷ 2 ∷ 0 ∷ 0 ∷ [])
    ∷ (0 ∷ 2 ∷ 0 ∷ 0 ∷ 0 ∷ [])
    ∷ (0 ∷ 1 ∷ 0 ∷ 0 ∷ 0 ∷ 3 ∷ [])
    ∷ []

unfoldable pub bad_marks : CallsMade → List (List Got)
bad_marks c = let w = other in read_tails (λ tail. c.read_second w (rivals ++ tail)) w tails

unfoldable pub bad_marks_rows : List (List Got)
bad_marks_rows = replicate 13 (leaving 17)

-- ---- the genesis alone by the later edition, whose section stands behind a setting of five numbers; and days that aren't good: none, and one with slot 0

abbrev later_alone : List ℕ
later_alone = 0 ∷ 5 ∷ 0 ∷ 1 ∷ 0 ∷ 1 ∷ 0 ∷ 1 ∷ 0 ∷ 2 ∷ 0 ∷ 1 ∷ 0 ∷ 0 ∷ 0 ∷ 0 ∷ 0 ∷ 1 ∷ 0 ∷ 0 ∷ []

abbrev slot_zero : List ℕ
slot_zero =
    0 ∷ 4 ∷ 0 ∷ 1 ∷ 0 ∷ 1 ∷ 0 ∷ 1 ∷ 0 ∷ 2
    ∷ 0 ∷ 1
    ∷ 0 ∷ 0 ∷ 0 ∷ 0 ∷ 0 ∷ 0 ∷ 0 ∷ 1 ∷ 0 ∷ 0 ∷ 0 ∷ 1 ∷ 0 ∷ 0
    ∷ 0 ∷ 0
    ∷ 0 ∷ 1 ∷ 0 ∷ 0
    ∷ []

unfoldable pub days : CallsMade → List (List Got)
days c =
    let alone = (open_call unopened (setting_of 1 1 1 2 1)).words in
    let w = other in
    written_second c alone (replicate 20 9)
    ∷ read (c.read_second w later_alone) alone
    ∷ read (c.read_second w (0 ∷ 1 ∷ 0 ∷ 0 ∷ [])) w
    ∷ read (c.read_second w slot_zero) w
    ∷ []

unfoldable pub days_rows : List (List Got)
days_rows = given (is 20) later_alone ∷ leaving 0 ∷ leaving 17 ∷ leaving 17 ∷ []

-- one word more comes before a bad file
unfoldable pub longer : CallsMade → List (List Got)
longer c = let w : List ℕ = 0 ∷ other in read (c.read_second w []) w ∷ []

unfoldable pub longer_rows : List (List Got)
longer_rows = leaving 1 ∷ []

-- ---- moves of the rivals' file: the orders of refusals, and there and back

-- each is the rivals' bytes and a tail
abbrev moves_by : (there back : (tail out : List ℕ) → Outcome) → List (List Got)
moves_by there back =
    -- there, into just as many bytes and one less; and a bad file into none
    moved (there [] (replicate 60 9))
    ∷ moved (there [] (replicate 59 9))
    ∷ moved (there genesis_marked [])
    -- back, into just as many bytes, one more, and one less
    ∷ moved (back genesis_marked (replicate 56 9))
    ∷ moved (back genesis_marked (replicate 57 9))
    ∷ moved (back genesis_marked (replicate 55 9))
    -- other marks before a short output, and a bad file before both
    ∷ moved (back (0 ∷ 2 ∷ 0 ∷ 0 ∷ 0 ∷ 3 ∷ []) (9 ∷ []))
    ∷ moved (back (0 ∷ 2 ∷ 0 ∷ 0 ∷ 0 ∷ 4 ∷ []) (9 ∷ []))
    ∷ moved (back [] (replicate 56 9))
    ∷ []

unfoldable pub moves : CallsMade → List (List Got)
moves c = moves_by (λ tail out. c.move_first (rivals ++ tail) out) (λ tail out. c.move_second (rivals ++ tail) out)

unfoldable pub moves_rows : List (List Got)
moves_rows =
    moving (is 60) (rivals ++ genesis_marked)
    ∷ moving (16, pos 0) (replicate 59 9)
    ∷ moving (17, pos 0) []
    ∷ moving (is 56) rivals
    ∷ moving (is 56) (rivals ++ 9 ∷ [])
    ∷ moving (16, pos 0) (replicate 55 9)
    ∷ moving (19, pos 0) (9 ∷ [])
    ∷ moving (17, pos 0) (9 ∷ [])
    ∷ moving (17, pos 0) (replicate 56 9)
    ∷ []

-- ---- the whole table

-- what the cases give
abbrev pub table : CallsMade → List (List Got)
table c = kept c ++ handed c ++ unearned c ++ bad_marks c ++ days c ++ longer c ++ moves c

-- what the request says
abbrev pub says : List (List Got)
says = kept_rows ++ handed_rows ++ unearned_rows ++ bad_marks_rows ++ days_rows ++ longer_rows ++ moves_rows

-- ---- computed with the test that walks

kept_walked : Passes (same_table (kept (made test_walked)) kept_rows)
unfolding kept kept_rows decode behind_day value_of read_many in_order day_of marks_of chosen marks_good remarked parent_count holder high_first joined encode same_numbers_lem test_walked bad_record_walked bad_slot_walked all_zero header_good genesis_good booking_good parents_good state_good mark_good chits bookings_of opened open_word look_up has_unknown has_twice entered booked polled raise_one prefer follow settle_one clear_one restart enough failure_clears another_marked mark_one ancestry sweep spread vote_of open_call up_to first_from total greatest from walk_from
kept_walked = tt

-- What stands behind a day's bytes doesn't change the day, so it is made once for all files that begin with them. The rows are a function of what it gives,
-- with a name (`handed_from`): a table that is refused is then told by that name, in half the seconds of one with a `let`

day_again : (tail : List ℕ) → decode (day_bytes ++ tail) ≡ decode day_bytes
unfolding decode value_of read_many
day_again tail = refl

-- by what the day gives, read alone and with a tail behind it
abbrev handed_once : (first : Outcome) (tailed : List ℕ → Outcome) → List (List Got)
handed_once first tailed =
    handed_by (made test_walked) (read_with first First other day_bytes) (read_with (tailed marks_kept) Second other (day_bytes ++ marks_kept))
    (move_with first First day_bytes room)
    (move_with (tailed marks_handed) Second (day_bytes ++ marks_handed) (replicate 122 9))
    (move_with (tailed marks_kept) Second (day_bytes ++ marks_kept) (replicate 122 9))
    (move_with (tailed genesis_marked) Second (day_bytes ++ genesis_marked) (replicate 122 9))

abbrev again : Day → Outcome
again = replay_by test_walked

unfoldable handed_from : Outcome → List (List Got)
handed_from o = handed_once o (λ tail. o)

handed_once_lem : Passes (same_table (handed_from (again (decode day_bytes))) handed_rows)
unfolding handed_from handed_rows decode behind_day value_of read_many in_order day_of marks_of chosen marks_good remarked parent_count holder high_first joined encode same_numbers_lem test_walked bad_record_walked bad_slot_walked all_zero header_good genesis_good booking_good parents_good state_good mark_good chits bookings_of opened open_word look_up has_unknown has_twice entered booked polled raise_one prefer follow settle_one clear_one restart enough failure_clears another_marked mark_one ancestry sweep spread vote_of open_call up_to first_from total greatest from walk_from
handed_once_lem = tt

handed_walked : Passes (same_table (handed (made test_walked)) handed_rows)
unfolding handed handed_from
handed_walked =
    subst (λ tailed. Passes (same_table (handed_once (again (decode day_bytes)) tailed) handed_rows))
    (fun_ext (λ tail. ap again (sym (day_again tail)))) handed_once_lem

unearned_walked : Passes (same_table (unearned (made test_walked)) unearned_rows)
unfolding unearned unearned_rows decode behind_day value_of read_many in_order day_of marks_of chosen marks_good remarked parent_count holder high_first joined encode same_numbers_lem test_walked bad_record_walked bad_slot_walked all_zero header_good genesis_good booking_good parents_good state_good mark_good chits bookings_of opened open_word look_up has_unknown has_twice entered booked polled raise_one prefer follow settle_one clear_one restart enough failure_clears another_marked mark_one ancestry sweep spread vote_of open_call up_to first_from total greatest from walk_from
unearned_walked = tt

rivals_again : (tail : List ℕ) → decode (rivals ++ tail) ≡ decode rivals
unfolding decode value_of read_many
rivals_again tail = refl

abbrev bad_marks_once : (tailed : List ℕ → Outcome) → List (List Got)
bad_marks_once tailed = let w = other in read_tails (λ tail. read_with (tailed tail) Second w (rivals ++ tail)) w tails

unfoldable bad_marks_from : Outcome → List (List Got)
bad_marks_from o = bad_marks_once (λ tail. o)

bad_marks_once_lem : Passes (same_table (bad_marks_from (again (decode rivals))) bad_marks_rows)
unfolding bad_marks_from bad_marks_rows decode behind_day value_of read_many in_order day_of marks_of chosen marks_good remarked parent_count holder high_first joined encode same_numbers_lem test_walked bad_record_walked bad_slot_walked all_zero header_good genesis_good booking_good parents_good state_good mark_good chits bookings_of opened open_word look_up has_unknown has_twice entered booked polled raise_one prefer follow settle_one clear_one restart enough failure_clears another_marked mark_one ancestry sweep spread vote_of open_call up_to first_from total greatest from walk_from
bad_marks_once_lem = tt

bad_marks_walked : Passes (same_table (bad_marks (made test_walked)) bad_marks_rows)
unfolding bad_marks bad_marks_from
bad_marks_walked = subst (λ tailed. Passes (same_table (bad_marks_once tailed) bad_marks_rows)) (fun_ext (λ tail. ap again (sym (rivals_again tail)))) bad_marks_once_lem

days_walked : Passes (same_table (days (made test_walked)) days_rows)
unfolding days days_rows decode behind_day value_of read_many in_order day_of marks_of chosen marks_good remarked parent_count holder high_first joined encode same_numbers_lem test_walked bad_record_walked bad_slot_walked all_zero header_good genesis_good booking_good parents_good state_good mark_good chits bookings_of opened open_word look_up has_unknown has_twice entered booked polled raise_one prefer follow settle_one clear_one restart enough failure_clears another_marked mark_one ancestry sweep spread vote_of open_call up_to first_from total greatest from walk_from
days_walked = tt

longer_walked : Passes (same_table (longer (made test_walked)) longer_rows)
unfolding longer longer_rows decode behind_day value_of read_many in_order day_of marks_of chosen marks_good remarked parent_count holder high_first joined encode same_numbers_lem test_walked bad_record_walked bad_slot_walked all_zero header_good genesis_good booking_good parents_good state_good mark_good chits bookings_of opened open_word look_up has_unknown has_twice entered booked polled raise_one prefer follow settle_one clear_one restart enough failure_clears another_marked mark_one ancestry sweep spread vote_of open_call up_to first_from total greatest from walk_from
longer_walked = tt

abbrev moves_once : (tailed : List ℕ → Outcome) → List (List Got)
moves_once tailed = moves_by (λ tail out. move_with (tailed tail) First (rivals ++ tail) out) (λ tail out. move_with (tailed tail) Second (rivals ++ tail) out)

unfoldable moves_from : Outcome → List (List Got)
moves_from o = moves_once (λ tail. o)

moves_once_lem : Passes (same_table (moves_from (again (decode rivals))) moves_rows)
unfolding moves_from moves_rows decode behind_day value_of read_many in_order day_of marks_of chosen marks_good remarked parent_count holder high_first joined encode same_numbers_lem test_walked bad_record_walked bad_slot_walked all_zero header_good genesis_good booking_good parents_good state_good mark_good chits bookings_of opened open_word look_up has_unknown has_twice entered booked polled raise_one prefer follow settle_one clear_one restart enough failure_clears another_marked mark_one ancestry sweep spread vote_of open_call up_to first_from total greatest from walk_from
moves_once_lem = tt

moves_walked : Passes (same_table (moves (made test_walked)) moves_rows)
unfolding moves moves_from
moves_walked = subst (λ tailed. Passes (same_table (moves_once tailed) moves_rows)) (fun_ext (λ tail. ap again (sym (rivals_again tail)))) moves_once_lem

-- the statement: the cases are as the request says
pub cases : table the_calls ≡ says
cases =
    ap₂ ◌++◌
    (ap₂ ◌++◌
    (ap₂ ◌++◌
    (ap₂ ◌++◌ (ap₂ ◌++◌ (ap₂ ◌++◌ (rows_by kept kept_rows kept_walked) (rows_by handed handed_rows handed_walked)) (rows_by unearned unearned_rows unearned_walked)) (rows_by bad_marks bad_marks_rows bad_marks_walked))
    (rows_by days days_rows days_walked))
    (rows_by longer longer_rows longer_walked))
    (rows_by moves moves_rows moves_walked)
