-- Document 01, "Cases on each side": P1 to P12, and those of CR 1, CR 5 and CR 7, one table under one statement, computed from the definitions on whole workspaces.
-- Every step is a call with its refusals, as a user would make it, and every reading the number and the value that come back: a refusal is not taken for a 0.
use mathlib.Core.Path.{◌≡◌, sym, ap, ap₂, ◌∙◌}
use mathlib.Core.List.{List, [], ◌∷◌, ◌++◌}
use Prim.Native.Nat.{ℕ}
use lib.IntN.{pos, negsuc}
use lib.ListN.{length, get_or, replicate}
use Rattle.loops.specs.Turns.{up_to}
use Rattle.loops.specs.Search.{first_from}
use Rattle.loops.specs.Total.{bit, total, greatest}
use Rattle.loops.specs.Fill.{from}
use Rattle.loops.specs.Rows.{walk_from}
use Rattle.terms.specs.declared.answer.Reading.{Reading}
use Rattle.terms.specs.declared.answer.Reading.TheVariants.{Query, Accepted, Lead, Confidence, Size}
use Rattle.terms.specs.Setting.{setting_of}
use Rattle.terms.specs.Answers.{Outcome, Answer, Tested}
use Rattle.rules.specs.Layout.{
  size,
  bookings,
  preferred_in,
  last_in,
  counter_in,
  held_in,
  state_of,
  confidence_of,
  state_field,
  ordinal_field,
  polls_field,
  with_field,
  with_header,
  bookings_field,
  k_field,
  slot_field,
  confidence_field,
  mark_field,
  counter_field,
  held_field,
  last_field,
  with_entry,
}
use Rattle.terms.specs.Votes.{vote_of}
use Rattle.terms.specs.Editions.{restart, enough, failure_clears}
use Rattle.rules.specs.Ancestry.{ancestry, sweep, spread}
use Rattle.rules.specs.IsSound.{header_good, genesis_good, booking_good, parents_good, state_good, mark_good, chits, bookings_of}
use Rattle.rules.specs.Open.{opened, open_word}
use Rattle.rules.specs.Book.{look_up, has_unknown, has_twice, entered, booked}
use Rattle.rules.specs.Poll.{polled, raise_one, prefer, follow, settle_one, clear_one}
use Rattle.rules.specs.Marks.{meets_rule, another_marked, mark_one}
use Rattle.rules.specs.Readings.{query_of, rivals_most, lead_of, size_of}
use Rattle.rules.specs.Calls.{open_call, book_by, poll_by, read_by, book_call, poll_call, read_call}
use Rattle.rules.proofs.Same.{same_numbers_lem, Got, got, Passes, passes, same_table, same_table_lem}
use Rattle.rules.proofs.Walk.{bad_record_walked, bad_slot_walked, all_zero, test_walked, test_walked_is}

-- all confidences together
abbrev confidences : List ℕ → ℕ
confidences w = total (confidence_of w) (bookings w)

-- the calls that the cases make
pub record CallsMade : Type 0 where
  pub book : List ℕ → ℕ → ℕ → List ℕ → Outcome
  pub poll : List ℕ → ℕ → List ℕ → Outcome
  pub ask : Reading → List ℕ → ℕ → Answer

-- the calls of the law
unfoldable pub the_calls : CallsMade
the_calls =
    record {
      book = book_call;
      poll = poll_call;
      ask = read_call;
    }

-- a number, as the value of a taken call or read off the words
abbrev is : ℕ → Got
is n = (0, pos n)

-- n words from the one at k on
abbrev words_at : List ℕ → (k n : ℕ) → List Got
words_at w k n = from (λ f. is (get_or w f 0)) k n

abbrev unopened : List ℕ
unopened = replicate size 0

-- ---- P1 to P8 and P11, by edition 0: bookings 1 and 2 of slot 7, 3 below 1, and 4 below both

unfoldable pub diamond : CallsMade → List (List Got)
diamond c =
    let empty = (open_call unopened (setting_of 3 2 1 2 0)).words in
    let booked1 = (c.book empty 1 7 (0 ∷ [])).words in
    let booked2 = (c.book booked1 2 7 (0 ∷ [])).words in
    let booked3 = (c.book booked2 3 9 (1 ∷ [])).words in
    let booked4 = (c.book booked3 4 10 (1 ∷ 2 ∷ [])).words in
    let poll2 = (c.poll booked4 2 (1 ∷ 1 ∷ 255 ∷ [])).words in
    let poll3 = c.poll poll2 3 (1 ∷ 0 ∷ 0 ∷ []) in
    let poll4 = (c.poll poll3.words 4 (1 ∷ 1 ∷ 1 ∷ [])).words in
    let poll1 = (c.poll poll4 1 (1 ∷ 1 ∷ 0 ∷ [])).words in
    let noes = c.poll booked4 2 (255 ∷ 255 ∷ 255 ∷ []) in
    -- P1: before any poll, query of 1 to 4
    (got (c.ask Query booked4 1) ∷ got (c.ask Query booked4 2) ∷ got (c.ask Query booked4 3) ∷ got (c.ask Query booked4 4) ∷ [])
    -- P2: slot 7 prefers 2, its counter, query of 3
    ∷ (is (preferred_in poll2 7) ∷ is (counter_in poll2 7) ∷ got (c.ask Query poll2 3) ∷ [])
    -- P3: leads of 1 and 2
    ∷ (got (c.ask Lead poll2 1) ∷ got (c.ask Lead poll2 2) ∷ [])
    -- P4: the failed poll is taken, and only state, ordinal and p move
    ∷ (got poll3.answer
    ∷ is (bit (same_numbers_lem poll3.words (with_header (with_field (with_field poll2 3 state_field 1) 3 ordinal_field 2) polls_field 2)))
    ∷ [])
    -- P5: the confidences, their total, and the sizes of 2 and 4
    ∷ (got (c.ask Confidence poll4 0) ∷ got (c.ask Confidence poll4 1) ∷ got (c.ask Confidence poll4 2) ∷ got (c.ask Confidence poll4 3) ∷ got (c.ask Confidence poll4 4)
    ∷ is (confidences poll4) ∷ got (c.ask Size poll4 2) ∷ got (c.ask Size poll4 4) ∷ [])
    -- P6: the tie at slot 7: confidences of 1 and 2, the preferred one, leads of 1 and 2
    ∷ (got (c.ask Confidence poll1 1) ∷ got (c.ask Confidence poll1 2) ∷ is (preferred_in poll1 7) ∷ got (c.ask Lead poll1 1) ∷ got (c.ask Lead poll1 2) ∷ [])
    -- P7: the total, and the sizes of 2, 4 and 1
    ∷ (is (confidences poll1) ∷ got (c.ask Size poll1 2) ∷ got (c.ask Size poll1 4) ∷ got (c.ask Size poll1 1) ∷ [])
    -- P8: sizes of 4 and of the genesis
    ∷ (got (c.ask Size poll1 4) ∷ got (c.ask Size poll1 0) ∷ [])
    -- P11: three noes: taken, and the state is 1
    ∷ (got noes.answer ∷ is (state_of noes.words 2) ∷ [])
    -- where the words stand at the end: how many, the header, record 4 and slot entry 7
    ∷ (is (length poll1) ∷ [])
    ∷ words_at poll1 0 8
    ∷ words_at poll1 60 13
    ∷ words_at poll1 6692 4
    ∷ []

unfoldable pub diamond_says : List (List Got)
diamond_says =
    (is 1 ∷ is 0 ∷ is 1 ∷ is 0 ∷ [])
    ∷ (is 2 ∷ is 0 ∷ is 0 ∷ [])
    ∷ ((0, negsuc 0) ∷ is 1 ∷ [])
    ∷ (is 0 ∷ is 1 ∷ [])
    ∷ (is 2 ∷ is 1 ∷ is 2 ∷ is 0 ∷ is 1 ∷ is 6 ∷ is 2 ∷ is 4 ∷ [])
    ∷ (is 2 ∷ is 2 ∷ is 2 ∷ is 0 ∷ is 0 ∷ [])
    ∷ (is 8 ∷ is 2 ∷ is 4 ∷ is 2 ∷ [])
    ∷ (is 4 ∷ is 1 ∷ [])
    ∷ (is 0 ∷ is 1 ∷ [])
    ∷ (is 7688 ∷ [])
    ∷ (is 5 ∷ is 3 ∷ is 2 ∷ is 1 ∷ is 2 ∷ is 4 ∷ is 0 ∷ is 0 ∷ [])
    ∷ (is 0 ∷ is 0 ∷ is 0 ∷ is 4 ∷ is 10 ∷ is 1 ∷ is 2 ∷ is 65535 ∷ is 65535 ∷ is 2 ∷ is 1 ∷ is 3 ∷ is 0 ∷ [])
    ∷ (is 2 ∷ is 1 ∷ is 0 ∷ is 2 ∷ [])
    ∷ []

-- ---- P9, P10 and P12, by edition 0: a booking alone in its slot, and two settings

unfoldable pub alone : CallsMade → List (List Got)
alone c =
    let booked = (c.book (c.book (open_call unopened (setting_of 1 1 1 2 0)).words 1 7 (0 ∷ [])).words 2 8 (1 ∷ [])).words in
    let poll1 = (c.poll booked 1 (1 ∷ [])).words in
    let poll2 = (c.poll poll1 2 (1 ∷ [])).words in
    -- P9: after the first poll the counter, and accepted of 1
    (is (counter_in poll1 7) ∷ got (c.ask Accepted poll1 1) ∷ [])
    -- P10: after the second
    ∷ (is (counter_in poll2 7) ∷ got (c.ask Accepted poll2 1) ∷ [])
    -- P12: k = 2 with a = 1, and with a = 2
    ∷ (got (open_call unopened (setting_of 2 1 1 2 0)).answer ∷ got (open_call unopened (setting_of 2 2 1 2 0)).answer ∷ [])
    ∷ []

unfoldable pub alone_says : List (List Got)
alone_says =
    (is 1 ∷ is 0 ∷ [])
    ∷ (is 2 ∷ is 1 ∷ [])
    ∷ ((3, pos 0) ∷ is 0 ∷ [])
    ∷ []

-- ---- beside P1 to P12: rivals 1 and 3 of slot 7, and 2 below 1

unfoldable pub rivals : CallsMade → List (List Got)
rivals c =
    let booked = (c.book (c.book (c.book (open_call unopened (setting_of 1 1 1 1 0)).words 1 7 (0 ∷ [])).words 2 8 (1 ∷ [])).words 3 7 (0 ∷ [])).words in
    let poll2 = (c.poll (c.poll booked 1 (1 ∷ [])).words 2 (1 ∷ [])).words in
    let unmarked = with_field poll2 1 mark_field 0 in
    let parted = with_entry unmarked 7 last_field 3 in
    let failed = (c.poll unmarked 3 (0 ∷ [])).words in
    let failed_parted = (c.poll parted 3 (0 ∷ [])).words in
    let poll3 = (c.poll poll2 3 (1 ∷ [])).words in
    let poll4 = (c.poll (c.book poll3 4 9 (1 ∷ 3 ∷ [])).words 4 (1 ∷ [])).words in
    -- before any poll, query of 1 and 3
    (got (c.ask Query booked 1) ∷ got (c.ask Query booked 3) ∷ [])
    -- after the polls of 1 and 2: the slot's four words, and accepted of 1 and 3
    ∷ (is (preferred_in poll2 7) ∷ is (last_in poll2 7) ∷ is (counter_in poll2 7) ∷ is (held_in poll2 7) ∷ got (c.ask Accepted poll2 1) ∷ got (c.ask Accepted poll2 3) ∷ [])
    -- had 1 no mark, a failed poll would mark it too
    ∷ (got (c.ask Accepted unmarked 1) ∷ got (c.ask Accepted failed 1) ∷ got (c.ask Accepted failed 3) ∷ [])
    -- were 3 also the last one by that counter: neither rival is both preferred and last, and neither is marked
    ∷ (got (c.ask Accepted failed_parted 1) ∷ got (c.ask Accepted failed_parted 3) ∷ [])
    -- the poll of 3 makes it last, with a counter of 0; 1 stays accepted
    ∷ (is (preferred_in poll3 7) ∷ is (last_in poll3 7) ∷ is (counter_in poll3 7) ∷ got (c.ask Accepted poll3 1) ∷ [])
    -- a poll that reaches both: in rising number, so 3 is last
    ∷ (is (last_in poll4 7) ∷ is (counter_in poll4 7) ∷ [])
    ∷ []

unfoldable pub rivals_say : List (List Got)
rivals_say =
    (is 1 ∷ is 0 ∷ [])
    ∷ (is 1 ∷ is 1 ∷ is 2 ∷ is 2 ∷ is 1 ∷ is 0 ∷ [])
    ∷ (is 0 ∷ is 1 ∷ is 0 ∷ [])
    ∷ (is 0 ∷ is 0 ∷ [])
    ∷ (is 1 ∷ is 3 ∷ is 0 ∷ is 1 ∷ [])
    ∷ (is 3 ∷ is 0 ∷ [])
    ∷ []

-- ---- beside P1 to P12: 4 rests on 2, and 2 on the genesis and on 1, which has the rival 3; β2 is far off

unfoldable pub resting : CallsMade → List (List Got)
resting c =
    let first = (c.book (c.book (open_call unopened (setting_of 1 1 1 510 0)).words 1 7 (0 ∷ [])).words 2 8 (0 ∷ 1 ∷ [])).words in
    let booked = (c.book (c.book first 3 7 (0 ∷ [])).words 4 9 (2 ∷ [])).words in
    let poll4 = (c.poll (c.poll booked 2 (1 ∷ [])).words 4 (1 ∷ [])).words in
    -- counters of slots 7 and 8 are above β1: 1 has a rival and is not accepted, and 2, alone in its slot, has a second parent that isn't
    (is (counter_in poll4 7) ∷ is (counter_in poll4 8) ∷ got (c.ask Accepted poll4 1) ∷ got (c.ask Accepted poll4 2) ∷ [])
    ∷ []

unfoldable pub resting_says : List (List Got)
resting_says = (is 2 ∷ is 2 ∷ is 0 ∷ is 0 ∷ []) ∷ []

-- ---- CR 5: 1 is accepted, alone in slot 7, before its rival 3 is booked; 4, 5 and 6 rest on the rival, which overtakes

unfoldable pub late : CallsMade → List (List Got)
late c =
    let first = (c.book (c.book (open_call unopened (setting_of 1 1 1 2 0)).words 1 7 (0 ∷ [])).words 2 8 (1 ∷ [])).words in
    let accepted = (c.poll (c.poll first 1 (1 ∷ [])).words 2 (1 ∷ [])).words in
    let rivalled = (c.book accepted 3 7 (0 ∷ [])).words in
    let booked = (c.book (c.book (c.book rivalled 4 11 (3 ∷ [])).words 5 12 (3 ∷ [])).words 6 13 (3 ∷ [])).words in
    let poll4 = (c.poll (c.poll booked 3 (1 ∷ [])).words 4 (1 ∷ [])).words in
    let overtaken = (c.poll (c.poll poll4 5 (1 ∷ [])).words 6 (1 ∷ [])).words in
    -- marks of the genesis, 1 and 2, and that 1 meets the rule
    (got (c.ask Accepted accepted 0) ∷ got (c.ask Accepted accepted 1) ∷ got (c.ask Accepted accepted 2) ∷ is (bit (meets_rule accepted 1)) ∷ [])
    -- the rival is booked: the counter stays, 1 no longer meets the rule, and stays accepted
    ∷ (is (counter_in rivalled 7) ∷ is (bit (meets_rule rivalled 1)) ∷ got (c.ask Accepted rivalled 1) ∷ got (c.ask Accepted rivalled 3) ∷ [])
    -- it overtakes, and meets the rule: the slot's four words; 1 stays accepted, and 3 is not
    ∷ (is (preferred_in overtaken 7) ∷ is (last_in overtaken 7) ∷ is (counter_in overtaken 7) ∷ is (held_in overtaken 7)
    ∷ is (bit (meets_rule overtaken 3)) ∷ got (c.ask Accepted overtaken 1) ∷ got (c.ask Accepted overtaken 3) ∷ [])
    -- a new opening marks the genesis alone
    ∷ (got (c.ask Accepted (open_call overtaken (setting_of 1 1 1 2 0)).words 0) ∷ got (c.ask Accepted (open_call overtaken (setting_of 1 1 1 2 0)).words 1) ∷ [])
    ∷ []

unfoldable pub late_says : List (List Got)
late_says =
    (is 1 ∷ is 1 ∷ is 0 ∷ is 1 ∷ [])
    ∷ (is 2 ∷ is 0 ∷ is 1 ∷ is 0 ∷ [])
    ∷ (is 3 ∷ is 3 ∷ is 3 ∷ is 2 ∷ is 1 ∷ is 1 ∷ is 0 ∷ [])
    ∷ (is 1 ∷ (10, pos 0) ∷ [])
    ∷ []

-- ---- CR 5: 1 has the rival 3, 2 rests on 1, 4 on 2, and 5 on 1 alone

unfoldable pub passing : CallsMade → List (List Got)
passing c =
    let first = (c.book (c.book (open_call unopened (setting_of 1 1 1 2 0)).words 1 7 (0 ∷ [])).words 2 8 (1 ∷ [])).words in
    let booked = (c.book (c.book (c.book first 3 7 (0 ∷ [])).words 4 9 (2 ∷ [])).words 5 10 (1 ∷ [])).words in
    let poll4 = (c.poll (c.poll booked 2 (1 ∷ [])).words 4 (1 ∷ [])).words in
    let poll5 = (c.poll poll4 5 (1 ∷ [])).words in
    -- the counters of slots 7 and 8 are 2: 1 has a rival and waits for β2, and 2 waits for 1
    (is (counter_in poll4 7) ∷ is (counter_in poll4 8) ∷ got (c.ask Accepted poll4 1) ∷ got (c.ask Accepted poll4 2) ∷ [])
    -- one poll marks 1 and then, since its parent has a mark by now, 2, which is not in the polled ancestry; 3, 4 and 5 stay without
    ∷ (is (counter_in poll5 7) ∷ is (counter_in poll5 8) ∷ got (c.ask Accepted poll5 1) ∷ got (c.ask Accepted poll5 2)
    ∷ got (c.ask Accepted poll5 3) ∷ got (c.ask Accepted poll5 4) ∷ got (c.ask Accepted poll5 5) ∷ [])
    ∷ []

unfoldable pub passing_says : List (List Got)
passing_says =
    (is 2 ∷ is 2 ∷ is 0 ∷ is 0 ∷ [])
    ∷ (is 3 ∷ is 2 ∷ is 1 ∷ is 1 ∷ is 0 ∷ is 0 ∷ is 0 ∷ [])
    ∷ []

-- ---- CR 1 and CR 5: ledgers that are damaged in one word or in several

-- Bookings 1, 2 and 3 are a chain in slots 7, 8 and 9; 1 and 2 have chits, and 3 waits.
-- So n is 4 and p is 2, two records are in state 2, and 2 is the confidence of the genesis and of 1, the counter of slots 0 and 7, and the bound of both.
-- The genesis and 1 are marked.
abbrev chained : CallsMade → List ℕ
chained c =
    let booked = (c.book (c.book (open_call unopened (setting_of 1 1 1 2 0)).words 1 7 (0 ∷ [])).words 2 8 (1 ∷ [])).words in
    (c.poll (c.poll (c.book booked 3 9 (2 ∷ [])).words 1 (1 ∷ [])).words 2 (1 ∷ [])).words

-- what a reading tells of the words
abbrev told : CallsMade → List ℕ → Got
told c w = got (c.ask Size w 0)

-- record i has the name: a name below 65536 stands in the last of its four words
abbrev named : List ℕ → (i name : ℕ) → List ℕ
named w i name = with_field w i 3 name

unfoldable pub damaged : CallsMade → List (List Got)
damaged c =
    let sound = chained c in
    let counter = with_entry sound 7 counter_field 3 in
    let confidence = with_field counter 1 confidence_field 3 in
    let missing = with_header sound polls_field 3 in
    let refused = c.book missing 4 10 (0 ∷ []) in
    -- nothing is damaged
    (told c sound ∷ [])
    -- a name twice is charged to the higher record; of three holders the second is the lowest that breaks the rule
    ∷ (told c (named sound 3 2) ∷ told c (named (named sound 3 1) 2 1) ∷ told c (named sound 1 0) ∷ [])
    -- so is an ordinal above 0; one above p breaks the rule at every holder, the lowest too
    ∷ (told c (with_field sound 2 ordinal_field 1) ∷ told c (with_field (with_field sound 1 ordinal_field 3) 2 ordinal_field 3) ∷ [])
    -- ordinal 3 is missing, and that is charged to n; so is a word there that is not 0; the last record has number 511
    ∷ (told c missing ∷ told c (with_field sound 4 slot_field 1) ∷ told c (with_field sound 511 ordinal_field 1) ∷ [])
    -- a confidence above the bound is charged to its record, a counter to its slot; of two slots the lower; records come before slots
    ∷ (told c (with_field sound 1 confidence_field 3) ∷ told c counter ∷ told c (with_entry counter 255 held_field 1) ∷ told c (with_entry counter 0 last_field 1) ∷ told c confidence ∷ [])
    -- the genesis is a record, and a slot without bookings has an entry; the last slot has number 255
    ∷ (told c (with_field sound 0 state_field 2) ∷ told c (with_entry sound 255 held_field 1) ∷ [])
    -- record 2 loses its chit: one record is left in state 2, and the genesis has a confidence of 2
    ∷ (told c (with_field sound 2 state_field 1) ∷ [])
    -- p = n breaks a header rule and hides the damage of record and slot; the wrong length hides that too; so is what was never opened told
    ∷ (told c (with_header confidence polls_field 4) ∷ told c (0 ∷ with_header confidence polls_field 4) ∷ told c unopened ∷ [])
    -- damage comes before an unknown name and a name that is taken, and open does not look
    ∷ (got (c.ask Size missing 9) ∷ got (c.ask Size counter 9) ∷ got (c.book counter 0 0 []).answer ∷ got (open_call confidence (setting_of 1 1 1 2 0)).answer ∷ [])
    -- a booking and a poll are refused alike, and no word moves
    ∷ (got refused.answer ∷ is (bit (same_numbers_lem refused.words missing)) ∷ got (c.poll counter 3 (1 ∷ [])).answer ∷ [])
    ∷ []

unfoldable pub damaged_says : List (List Got)
damaged_says =
    (is 1 ∷ [])
    ∷ ((14, pos 3) ∷ (14, pos 2) ∷ (14, pos 1) ∷ [])
    ∷ ((14, pos 2) ∷ (14, pos 1) ∷ [])
    ∷ ((14, pos 4) ∷ (14, pos 4) ∷ (14, pos 511) ∷ [])
    ∷ ((14, pos 1) ∷ (15, pos 7) ∷ (15, pos 7) ∷ (15, pos 0) ∷ (14, pos 1) ∷ [])
    ∷ ((14, pos 0) ∷ (15, pos 255) ∷ [])
    ∷ ((14, pos 0) ∷ [])
    ∷ ((2, pos 0) ∷ (1, pos 0) ∷ (2, pos 0) ∷ [])
    ∷ ((14, pos 4) ∷ (15, pos 7) ∷ (15, pos 7) ∷ is 0 ∷ [])
    ∷ ((14, pos 4) ∷ is 1 ∷ (15, pos 7) ∷ [])
    ∷ []

-- the same ledger, damaged in its marks
unfoldable pub marks : CallsMade → List (List Got)
marks c =
    let sound = chained c in
    let both = with_field (with_field sound 3 slot_field 7) 3 mark_field 1 in
    let three = with_field (with_field both 2 slot_field 7) 2 mark_field 1 in
    -- the genesis has a mark, and a mark is 0 or 1; one that no poll gave is sound, and is reported
    (told c (with_field sound 0 mark_field 0) ∷ told c (with_field sound 0 mark_field 2) ∷ told c (with_field sound 2 mark_field 2) ∷ told c (with_field sound 3 mark_field 65535) ∷ told c (with_field sound 4 mark_field 1)
    ∷ got (c.ask Accepted (with_field sound 3 mark_field 1) 3) ∷ [])
    -- of two marked in a slot the higher breaks the rule, of three the second is the lowest that does; without the lowest mark the others stay
    ∷ (told c both ∷ told c three ∷ told c (with_field three 1 mark_field 0) ∷ [])
    ∷ []

unfoldable pub marks_say : List (List Got)
marks_say =
    ((14, pos 0) ∷ (14, pos 0) ∷ (14, pos 2) ∷ (14, pos 3) ∷ (14, pos 4) ∷ is 1 ∷ [])
    ∷ ((14, pos 3) ∷ (14, pos 2) ∷ (14, pos 3) ∷ [])
    ∷ []

-- ---- CR 7: edition 1, with rivals 1 and 2 of slot 7, and 3 below 1. The neighbours of P2 and P4

unfoldable pub later : CallsMade → List (List Got)
later c =
    let empty = (open_call unopened (setting_of 3 2 1 2 1)).words in
    let booked = (c.book (c.book (c.book empty 1 7 (0 ∷ [])).words 2 7 (0 ∷ [])).words 3 9 (1 ∷ [])).words in
    let poll2 = (c.poll booked 2 (1 ∷ 1 ∷ 255 ∷ [])).words in
    let poll3 = c.poll poll2 3 (1 ∷ 0 ∷ 0 ∷ []) in
    let poll1 = c.poll poll2 1 (255 ∷ 1 ∷ 255 ∷ []) in
    let tied = (c.poll poll2 1 (1 ∷ 1 ∷ 255 ∷ [])).words in
    let rested = (c.poll tied 3 (1 ∷ 1 ∷ 1 ∷ [])).words in
    let cleared : List ℕ → List ℕ = λ w. with_entry (with_entry w 0 counter_field 0) 7 counter_field 0 in
    -- the edition stands in the header's seventh word
    words_at empty 0 8
    -- beside P2: slot 7 prefers 2, its counter starts at 1, query of 3; and the counter of slot 0
    ∷ (is (preferred_in poll2 7) ∷ is (counter_in poll2 7) ∷ got (c.ask Query poll2 3) ∷ is (counter_in poll2 0) ∷ [])
    -- beside P4: the failed poll is taken, state, ordinal and p move, and so do the counters of slots 0 and 7, where 2 is last
    ∷ (got poll3.answer
    ∷ is (bit (same_numbers_lem poll3.words (cleared (with_header (with_field (with_field poll2 3 state_field 1) 3 ordinal_field 2) polls_field 2))))
    ∷ [])
    -- the same where slot 7 is the booking's own
    ∷ (got poll1.answer
    ∷ is (bit (same_numbers_lem poll1.words (cleared (with_header (with_field (with_field poll2 1 state_field 1) 1 ordinal_field 2) polls_field 2))))
    ∷ [])
    -- 1 draws level: it becomes last, and no draw moves the preference; then 3, which rests on it, brings it ahead, and it counts on
    ∷ (is (preferred_in tied 7) ∷ is (last_in tied 7) ∷ is (counter_in tied 7) ∷ is (counter_in tied 0)
    ∷ is (preferred_in rested 7) ∷ is (counter_in rested 7) ∷ is (counter_in rested 9) ∷ [])
    ∷ []

unfoldable pub later_says : List (List Got)
later_says =
    (is 1 ∷ is 3 ∷ is 2 ∷ is 1 ∷ is 2 ∷ is 0 ∷ is 1 ∷ is 0 ∷ [])
    ∷ (is 2 ∷ is 1 ∷ is 0 ∷ is 1 ∷ [])
    ∷ (is 0 ∷ is 1 ∷ [])
    ∷ (is 0 ∷ is 1 ∷ [])
    ∷ (is 2 ∷ is 1 ∷ is 1 ∷ is 2 ∷ is 1 ∷ is 2 ∷ is 1 ∷ [])
    ∷ []

-- ---- CR 7: edition 1, a booking alone in its slot, and rivals 1 and 3 of slot 7. The neighbour of P9

unfoldable pub reached : CallsMade → List (List Got)
reached c =
    let first = (c.book (c.book (open_call unopened (setting_of 1 1 1 2 1)).words 1 7 (0 ∷ [])).words 2 8 (1 ∷ [])).words in
    let alone = (c.poll first 1 (1 ∷ [])).words in
    let rivals = (c.poll (c.poll (c.book first 3 7 (0 ∷ [])).words 1 (1 ∷ [])).words 2 (1 ∷ [])).words in
    let poll3 = (c.poll rivals 3 (1 ∷ [])).words in
    let poll4 = (c.poll (c.book poll3 4 9 (1 ∷ 3 ∷ [])).words 4 (1 ∷ [])).words in
    let unmarked = (c.poll (with_field rivals 1 mark_field 0) 3 (0 ∷ [])).words in
    -- beside P9: after the first poll the counter, and accepted of 1: β1 is reached
    (is (counter_in alone 7) ∷ got (c.ask Accepted alone 1) ∷ [])
    -- the counter of slot 7 reaches β2: accepted of 1 and 3
    ∷ (is (counter_in rivals 7) ∷ got (c.ask Accepted rivals 1) ∷ got (c.ask Accepted rivals 3) ∷ [])
    -- the poll of 3 makes it last, with a counter of 1, and leaves slot 8; one that reaches both, in rising number, makes it last again
    ∷ (is (last_in poll3 7) ∷ is (counter_in poll3 7) ∷ is (counter_in poll3 8) ∷ is (counter_in poll3 0) ∷ is (last_in poll4 7) ∷ is (counter_in poll4 7) ∷ [])
    -- had 1 no mark, a failed poll of its rival would leave it without: counters are cleared before anybody is marked
    ∷ (is (counter_in unmarked 7) ∷ got (c.ask Accepted unmarked 1) ∷ [])
    -- an opening by edition 2 is refused
    ∷ (got (open_call unopened (setting_of 1 1 1 2 1)).answer ∷ got (open_call unopened (setting_of 1 1 1 2 2)).answer ∷ [])
    ∷ []

unfoldable pub reached_says : List (List Got)
reached_says =
    (is 1 ∷ is 1 ∷ [])
    ∷ (is 2 ∷ is 1 ∷ is 0 ∷ [])
    ∷ (is 3 ∷ is 1 ∷ is 1 ∷ is 3 ∷ is 3 ∷ is 1 ∷ [])
    ∷ (is 0 ∷ is 0 ∷ [])
    ∷ (is 0 ∷ (3, pos 0) ∷ [])
    ∷ []

-- ---- the genesis alone, damaged in the header

unfoldable pub headers : CallsMade → List (List Got)
headers c =
    let empty = (open_call unopened (setting_of 1 1 1 2 0)).words in
    -- nothing is damaged, and not by edition 1
    (told c empty ∷ told c (with_header empty 6 1) ∷ [])
    -- n, the setting, its edition too, and the spare word are the header's
    ∷ (told c (with_header empty bookings_field 513) ∷ told c (with_header empty k_field 0) ∷ told c (with_header empty 6 2) ∷ told c (with_header empty 7 1) ∷ [])
    ∷ []

unfoldable pub headers_say : List (List Got)
headers_say =
    (is 1 ∷ is 1 ∷ [])
    ∷ ((2, pos 0) ∷ (2, pos 0) ∷ (2, pos 0) ∷ (2, pos 0) ∷ [])
    ∷ []

-- ---- the whole table, by the ledgers that the cases are made on

-- what the cases give
abbrev pub table : CallsMade → List (List Got)
table c = diamond c ++ alone c ++ rivals c ++ resting c ++ late c ++ passing c ++ later c ++ reached c ++ damaged c ++ marks c ++ headers c

-- what document 01, CR 1, CR 5 and CR 7 say
abbrev pub says : List (List Got)
says = diamond_says ++ alone_says ++ rivals_say ++ resting_says ++ late_says ++ passing_says ++ later_says ++ reached_says ++ damaged_says ++ marks_say ++ headers_say

-- ---- computed with the test that walks

abbrev made : (List ℕ → Tested) → CallsMade
made test = record { book = book_by test; poll = poll_by test; ask = read_by test }

diamond_walked : Passes (same_table (diamond (made test_walked)) diamond_says)
unfolding diamond diamond_says same_numbers_lem test_walked bad_record_walked bad_slot_walked all_zero header_good genesis_good booking_good parents_good state_good mark_good chits bookings_of opened open_word look_up has_unknown has_twice entered booked polled raise_one prefer follow settle_one clear_one restart enough failure_clears query_of another_marked mark_one rivals_most lead_of size_of ancestry sweep spread vote_of open_call up_to first_from total greatest from walk_from
diamond_walked = tt

alone_walked : Passes (same_table (alone (made test_walked)) alone_says)
unfolding alone alone_says test_walked bad_record_walked bad_slot_walked all_zero header_good genesis_good booking_good parents_good state_good mark_good chits bookings_of opened open_word look_up has_unknown has_twice entered booked polled raise_one prefer follow settle_one clear_one restart enough failure_clears query_of another_marked mark_one rivals_most lead_of size_of ancestry sweep spread vote_of open_call up_to first_from total greatest from walk_from
alone_walked = tt

rivals_walked : Passes (same_table (rivals (made test_walked)) rivals_say)
unfolding rivals rivals_say test_walked bad_record_walked bad_slot_walked all_zero header_good genesis_good booking_good parents_good state_good mark_good chits bookings_of opened open_word look_up has_unknown has_twice entered booked polled raise_one prefer follow settle_one clear_one restart enough failure_clears query_of another_marked mark_one rivals_most lead_of size_of ancestry sweep spread vote_of open_call up_to first_from total greatest from walk_from
rivals_walked = tt

resting_walked : Passes (same_table (resting (made test_walked)) resting_says)
unfolding resting resting_says test_walked bad_record_walked bad_slot_walked all_zero header_good genesis_good booking_good parents_good state_good mark_good chits bookings_of opened open_word look_up has_unknown has_twice entered booked polled raise_one prefer follow settle_one clear_one restart enough failure_clears query_of another_marked mark_one rivals_most lead_of size_of ancestry sweep spread vote_of open_call up_to first_from total greatest from walk_from
resting_walked = tt

late_walked : Passes (same_table (late (made test_walked)) late_says)
unfolding late late_says test_walked bad_record_walked bad_slot_walked all_zero header_good genesis_good booking_good parents_good state_good mark_good chits bookings_of opened open_word look_up has_unknown has_twice entered booked polled raise_one prefer follow settle_one clear_one restart enough failure_clears query_of another_marked mark_one rivals_most lead_of size_of ancestry sweep spread vote_of open_call up_to first_from total greatest from walk_from
late_walked = tt

passing_walked : Passes (same_table (passing (made test_walked)) passing_says)
unfolding passing passing_says test_walked bad_record_walked bad_slot_walked all_zero header_good genesis_good booking_good parents_good state_good mark_good chits bookings_of opened open_word look_up has_unknown has_twice entered booked polled raise_one prefer follow settle_one clear_one restart enough failure_clears query_of another_marked mark_one rivals_most lead_of size_of ancestry sweep spread vote_of open_call up_to first_from total greatest from walk_from
passing_walked = tt

later_walked : Passes (same_table (later (made test_walked)) later_says)
unfolding later later_says same_numbers_lem test_walked bad_record_walked bad_slot_walked all_zero header_good genesis_good booking_good parents_good state_good mark_good chits bookings_of opened open_word look_up has_unknown has_twice entered booked polled raise_one prefer follow settle_one clear_one restart enough failure_clears query_of another_marked mark_one rivals_most lead_of size_of ancestry sweep spread vote_of open_call up_to first_from total greatest from walk_from
later_walked = tt

reached_walked : Passes (same_table (reached (made test_walked)) reached_says)
unfolding reached reached_says test_walked bad_record_walked bad_slot_walked all_zero header_good genesis_good booking_good parents_good state_good mark_good chits bookings_of opened open_word look_up has_unknown has_twice entered booked polled raise_one prefer follow settle_one clear_one restart enough failure_clears query_of another_marked mark_one rivals_most lead_of size_of ancestry sweep spread vote_of open_call up_to first_from total greatest from walk_from
reached_walked = tt

damaged_walked : Passes (same_table (damaged (made test_walked)) damaged_says)
unfolding damaged damaged_says same_numbers_lem test_walked bad_record_walked bad_slot_walked all_zero header_good genesis_good booking_good parents_good state_good mark_good chits bookings_of opened open_word look_up has_unknown has_twice entered booked polled raise_one prefer follow settle_one clear_one restart enough failure_clears query_of another_marked mark_one rivals_most lead_of size_of ancestry sweep spread vote_of open_call up_to first_from total greatest from walk_from
damaged_walked = tt

marks_walked : Passes (same_table (marks (made test_walked)) marks_say)
unfolding marks marks_say test_walked bad_record_walked bad_slot_walked all_zero header_good genesis_good booking_good parents_good state_good mark_good chits bookings_of opened open_word look_up has_unknown has_twice entered booked polled raise_one prefer follow settle_one clear_one restart enough failure_clears query_of another_marked mark_one rivals_most lead_of size_of ancestry sweep spread vote_of open_call up_to first_from total greatest from walk_from
marks_walked = tt

headers_walked : Passes (same_table (headers (made test_walked)) headers_say)
unfolding headers headers_say test_walked bad_record_walked bad_slot_walked all_zero header_good genesis_good booking_good parents_good state_good mark_good chits bookings_of opened open_word look_up has_unknown has_twice entered booked polled raise_one prefer follow settle_one clear_one restart enough failure_clears query_of another_marked mark_one rivals_most lead_of size_of ancestry sweep spread vote_of open_call up_to first_from total greatest from walk_from
headers_walked = tt

-- one ledger's rows, by the calls of the law
rows_by : (rows : CallsMade → List (List Got)) (said : List (List Got)) → Passes (same_table (rows (made test_walked)) said) → rows the_calls ≡ said
unfolding the_calls book_call poll_call
rows_by rows said walked = ap (λ test. rows (made test)) (sym test_walked_is) ∙ same_table_lem (rows (made test_walked)) said (passes _ walked)

-- the statement: the cases are as the documents say
pub cases : table the_calls ≡ says
cases =
    ap₂ ◌++◌
    (ap₂ ◌++◌
    (ap₂ ◌++◌
    (ap₂ ◌++◌
    (ap₂ ◌++◌
    (ap₂ ◌++◌
    (ap₂ ◌++◌
    (ap₂ ◌++◌
    (ap₂ ◌++◌ (ap₂ ◌++◌ (rows_by diamond diamond_says diamond_walked) (rows_by alone alone_says alone_walked)) (rows_by rivals rivals_say rivals_walked))
    (rows_by resting resting_says resting_walked))
    (rows_by late late_says late_walked))
    (rows_by passing passing_says passing_walked))
    (rows_by later later_says later_walked))
    (rows_by reached reached_says reached_walked))
    (rows_by damaged damaged_says damaged_walked))
    (rows_by marks marks_say marks_walked))
    (rows_by headers headers_say headers_walked)
