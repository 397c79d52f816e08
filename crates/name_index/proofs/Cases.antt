-- CR 6: the cases of the hash and of the calls, one table under one statement, computed from the definitions on whole workspaces and whole indexes.
-- Every step is a call with its refusals, as a user would make it. Hashes are published ones or worked out apart; cells and answers were worked out by hand.
use mathlib.Core.Path.{◌≡◌, sym, ap, ap₂, fun_ext, ◌∙◌}
use mathlib.Core.List.{List, [], ◌∷◌, ◌++◌}
use Prim.Native.Nat.{ℕ, ◌+◌, ◌*◌}
use lib.IntN.{pos}
use lib.ListN.{replicate, set}
use Rattle.loops.specs.Turns.{up_to}
use Rattle.loops.specs.Search.{first_from}
use Rattle.loops.specs.Total.{bit, total}
use Rattle.loops.specs.Fill.{from}
use Rattle.loops.specs.Rows.{walk_from}
use Rattle.terms.specs.Setting.{setting_of}
use Rattle.terms.specs.Answers.{Outcome, Handover, Answer, Tested}
use Rattle.rules.specs.Layout.{size, polls_field, confidence_field, counter_field, with_header, with_field, with_entry}
use Rattle.rules.specs.IsSound.{header_good, genesis_good, booking_good, parents_good, state_good, mark_good, chits, bookings_of}
use Rattle.rules.specs.Open.{opened, open_word}
use Rattle.rules.specs.Book.{look_up, has_unknown, has_twice, entered, booked}
use Rattle.rules.specs.Calls.{open_call, damage_by, damage_of, test_by, test_of, book_by, book_call}
use Rattle.rules.proofs.Same.{same_numbers_lem, Got, got, Passes, passes, same_table, same_table_lem}
use Rattle.rules.proofs.Walk.{bad_record_walked, bad_slot_walked, all_zero, record_walked_is, slot_walked_is}
use Rattle.name_index.specs.Hash.{hash_of}
use Rattle.name_index.specs.Index.{probe, look_up_in, with_number, built}
use Rattle.name_index.specs.Calls.{build_by, enter_by, find_by, index_build_call, index_enter_call, index_find_call}

-- the calls that the cases make
pub record CallsMade : Type 0 where
  pub book : List ℕ → ℕ → ℕ → List ℕ → Outcome
  pub build : List ℕ → List ℕ → Handover
  pub enter : List ℕ → List ℕ → Handover
  pub find : List ℕ → List ℕ → ℕ → Answer

-- the calls of the law
unfoldable pub the_calls : CallsMade
the_calls = record { book = book_call; build = index_build_call; enter = index_enter_call; find = index_find_call }

-- a number: the value of a taken call, or 1 for yes
abbrev is : ℕ → Got
is n = (0, pos n)

-- what building and entering give: number and value, whether every word is as it was, and whether the index is then the expected one
abbrev handed : Handover → (w expected : List ℕ) → List Got
handed o w expected = got o.answer ∷ is (bit (same_numbers_lem o.words w)) ∷ is (bit (same_numbers_lem o.lent expected)) ∷ []

-- and what they have to give: number, value, and that both are
abbrev leaving : Got → List Got
leaving answer = answer ∷ is 1 ∷ is 1 ∷ []

-- an index that holds these numbers, each in its cell, and is empty otherwise
unfoldable pub holding : List (ℕ × ℕ) → List ℕ
holding [] = replicate 1024 65535
holding (x ∷ xs) = set (holding xs) x.0 x.1

-- ---- the hash

-- the name of eight bytes, highest first
unfoldable pub named : List ℕ → ℕ → ℕ
named [] name = name
named (b ∷ bs) name = named bs (name * 256 + b)

unfoldable pub hashes : List Got
hashes =
    -- "chongo w", "chongo " with a zero byte, and "feedface", which FNV's authors publish the hashes of
    is (hash_of (named (99 ∷ 104 ∷ 111 ∷ 110 ∷ 103 ∷ 111 ∷ 32 ∷ 119 ∷ []) 0))
    ∷ is (hash_of (named (99 ∷ 104 ∷ 111 ∷ 110 ∷ 103 ∷ 111 ∷ 32 ∷ 0 ∷ []) 0))
    ∷ is (hash_of (named (102 ∷ 101 ∷ 101 ∷ 100 ∷ 102 ∷ 97 ∷ 99 ∷ 101 ∷ []) 0))
    -- the genesis, the highest name, and one with eight different bytes
    ∷ is (hash_of 0)
    ∷ is (hash_of 18446744073709551615)
    ∷ is (hash_of 72623859790382856)
    ∷ []

unfoldable pub hash_row : List Got
hash_row = is 3715624240 ∷ is 880309797 ∷ is 92844348 ∷ is 2615243109 ∷ is 1823345245 ∷ is 671377293 ∷ []

-- ---- a ledger whose names crowd. Homes: 0 and 1391 at 357, 552 and 72623859790383894 at 1,023, 39 at 0, 1 at 978

abbrev crowd : CallsMade → List ℕ
crowd c =
    let opened = (open_call (replicate size 0) (setting_of 1 1 1 2 0)).words in
    let second = (c.book opened 1391 7 (0 ∷ [])).words in
    let third = (c.book second 552 8 (0 ∷ [])).words in
    (c.book third 72623859790383894 9 (0 ∷ [])).words

-- number 1 stands behind the genesis, and number 3 past the index's end
abbrev crowd_cells : List ℕ
crowd_cells = holding ((357, 0) ∷ (358, 1) ∷ (1023, 2) ∷ (0, 3) ∷ [])

unfoldable pub crowded : CallsMade → List (List Got)
crowded c =
    let w = crowd c in
    let more = (c.book w 39 10 (0 ∷ [])).words in
    let index = c.build w (replicate 1024 7) in
    let once = c.enter more index.lent in
    handed index w crowd_cells
    -- each is found, the last round the end; 39 and 1 are not booked yet
    ∷ (got (c.find w crowd_cells 0) ∷ got (c.find w crowd_cells 1391) ∷ got (c.find w crowd_cells 552) ∷ got (c.find w crowd_cells 72623859790383894) ∷ got (c.find w crowd_cells 39) ∷ got (c.find w crowd_cells 1) ∷ [])
    -- 39 is booked and entered; it could be entered once more, and is built so
    ∷ handed once more (holding ((357, 0) ∷ (358, 1) ∷ (1023, 2) ∷ (0, 3) ∷ (1, 4) ∷ []))
    ∷ handed (c.enter more once.lent) more (holding ((357, 0) ∷ (358, 1) ∷ (1023, 2) ∷ (0, 3) ∷ (1, 4) ∷ (2, 4) ∷ []))
    ∷ handed (c.build more []) more []
    ∷ []

unfoldable pub crowded_rows : List (List Got)
crowded_rows =
    leaving (is 0)
    ∷ (is 0 ∷ is 1 ∷ is 2 ∷ is 3 ∷ (10, pos 0) ∷ (10, pos 0) ∷ [])
    ∷ leaving (is 0)
    ∷ leaving (is 0)
    ∷ leaving (18, pos 0)
    ∷ []

-- ---- indexes that nobody built

unfoldable pub foreign : CallsMade → List (List Got)
foreign c =
    let w = crowd c in
    -- an empty cell ends a lookup, though the name stands behind it
    (got (c.find w (holding ((358, 1) ∷ [])) 1391)
    -- n, a number above it and the last one are passed over, and so is another booking's; the name is found out of its place
    ∷ got (c.find w (holding ((357, 4) ∷ (358, 600) ∷ (359, 65534) ∷ (360, 2) ∷ (361, 1) ∷ [])) 1391)
    ∷ got (c.find w (holding ((357, 4) ∷ (358, 511) ∷ (359, 512) ∷ (360, 65534) ∷ (361, 0) ∷ [])) 0)
    -- a number that belongs to another name is not found by it
    ∷ got (c.find w (holding ((357, 1) ∷ [])) 0)
    ∷ [])
    -- entering passes over whatever is not 65535, the newest booking's own number too
    ∷ handed (c.enter w (holding ((1023, 3) ∷ (0, 65534) ∷ []))) w (holding ((1023, 3) ∷ (0, 65534) ∷ (1, 3) ∷ []))
    ∷ []

unfoldable pub foreign_rows : List (List Got)
foreign_rows = ((10, pos 0) ∷ is 1 ∷ is 0 ∷ (10, pos 0) ∷ []) ∷ leaving (is 0) ∷ []

-- ---- an index without an empty cell

unfoldable pub full : CallsMade → List (List Got)
full c =
    let w = (open_call (replicate size 0) (setting_of 1 1 1 2 0)).words in
    let none : List ℕ = replicate 1024 65534 in
    let last : List ℕ = set none 356 0 in
    -- every cell is tried, the one before the genesis' home last, and numbers of records that are all zero are passed over too
    (got (c.find w none 0) ∷ got (c.find w (set (set last 357 1) 358 511) 0) ∷ [])
    -- nothing can be entered, not even over the number itself; what is built is not full
    ∷ handed (c.enter w last) w last
    ∷ handed (c.build w last) w (holding ((357, 0) ∷ []))
    ∷ []

unfoldable pub full_rows : List (List Got)
full_rows = ((10, pos 0) ∷ is 0 ∷ []) ∷ leaving (27, pos 0) ∷ leaving (is 0) ∷ []

-- ---- the order of refusals, on a ledger with one booking that waits: no confidence and no counter may be above 0, and p may be 0 or 1

unfoldable pub refused : CallsMade → List (List Got)
refused c =
    let sound = (c.book (open_call (replicate size 0) (setting_of 1 1 1 2 0)).words 1 7 (0 ∷ [])).words in
    let counter = with_entry sound 7 counter_field 1 in
    let confidence = with_field counter 1 confidence_field 1 in
    let header = with_header confidence polls_field 2 in
    let short : List ℕ = replicate 1023 65535 in
    let long : List ℕ = replicate 1025 65535 in
    let right : List ℕ = replicate 1024 65535 in
    -- 1 before 18, and 18 before the damage
    handed (c.build (0 ∷ header) short) (0 ∷ header) short
    ∷ handed (c.build header short) header short
    ∷ handed (c.enter header long) header long
    -- 18 and 15 before 27
    ∷ handed (c.enter sound (replicate 1025 65534)) sound (replicate 1025 65534)
    ∷ handed (c.enter counter (replicate 1024 65534)) counter (replicate 1024 65534)
    ∷ (got (c.find (0 ∷ header) long 1) ∷ got (c.find header short 1) ∷ got (c.find sound long 1) ∷ [])
    -- 2, 14 and 15, and each before 10
    ∷ handed (c.build header right) header right
    ∷ handed (c.enter confidence right) confidence right
    ∷ (got (c.find header right 1) ∷ got (c.find confidence right 1) ∷ got (c.find counter right 1) ∷ got (c.find sound right 1) ∷ [])
    ∷ []

unfoldable pub refused_rows : List (List Got)
refused_rows =
    leaving (1, pos 0)
    ∷ leaving (18, pos 0)
    ∷ leaving (18, pos 0)
    ∷ leaving (18, pos 0)
    ∷ leaving (15, pos 7)
    ∷ ((1, pos 0) ∷ (18, pos 0) ∷ (18, pos 0) ∷ [])
    ∷ leaving (2, pos 0)
    ∷ leaving (14, pos 1)
    ∷ ((2, pos 0) ∷ (14, pos 1) ∷ (15, pos 7) ∷ (10, pos 0) ∷ [])
    ∷ []

-- ---- the whole table

-- what the cases give
abbrev pub table : CallsMade → List (List Got)
table c = (hashes ∷ []) ++ crowded c ++ foreign c ++ full c ++ refused c

-- what the request says
abbrev pub says : List (List Got)
says = (hash_row ∷ []) ++ crowded_rows ++ foreign_rows ++ full_rows ++ refused_rows

-- ---- computed with the tests that walk

abbrev made : (List ℕ → Tested) → CallsMade
made damage = record { book = book_by (test_by damage); build = build_by damage; enter = enter_by damage; find = find_by damage }

abbrev damage_walked : List ℕ → Tested
damage_walked = damage_by bad_record_walked bad_slot_walked

damage_walked_is : damage_walked ≡ damage_of
unfolding damage_of
damage_walked_is = ap₂ damage_by (fun_ext record_walked_is) (fun_ext slot_walked_is)

hashes_are : Passes (same_table (hashes ∷ []) (hash_row ∷ []))
unfolding hashes hash_row named hash_of up_to
hashes_are = tt

crowded_walked : Passes (same_table (crowded (made damage_walked)) crowded_rows)
unfolding crowded crowded_rows holding hash_of probe look_up_in with_number built same_numbers_lem bad_record_walked bad_slot_walked all_zero header_good genesis_good booking_good parents_good state_good mark_good chits bookings_of opened open_word look_up has_unknown has_twice entered booked open_call up_to first_from total from walk_from
crowded_walked = tt

foreign_walked : Passes (same_table (foreign (made damage_walked)) foreign_rows)
unfolding foreign foreign_rows holding hash_of probe look_up_in with_number built same_numbers_lem bad_record_walked bad_slot_walked all_zero header_good genesis_good booking_good parents_good state_good mark_good chits bookings_of opened open_word look_up has_unknown has_twice entered booked open_call up_to first_from total from walk_from
foreign_walked = tt

full_walked : Passes (same_table (full (made damage_walked)) full_rows)
unfolding full full_rows holding hash_of probe look_up_in with_number built same_numbers_lem bad_record_walked bad_slot_walked all_zero header_good genesis_good booking_good parents_good state_good mark_good chits bookings_of opened open_word look_up has_unknown has_twice entered booked open_call up_to first_from total from walk_from
full_walked = tt

refused_walked : Passes (same_table (refused (made damage_walked)) refused_rows)
unfolding refused refused_rows holding hash_of probe look_up_in with_number built same_numbers_lem bad_record_walked bad_slot_walked all_zero header_good genesis_good booking_good parents_good state_good mark_good chits bookings_of opened open_word look_up has_unknown has_twice entered booked open_call up_to first_from total from walk_from
refused_walked = tt

-- one ledger's rows, by the calls of the law
rows_by : (rows : CallsMade → List (List Got)) (said : List (List Got)) → Passes (same_table (rows (made damage_walked)) said) → rows the_calls ≡ said
unfolding the_calls book_call test_of index_build_call index_enter_call index_find_call
rows_by rows said walked = ap (λ damage. rows (made damage)) (sym damage_walked_is) ∙ same_table_lem (rows (made damage_walked)) said (passes _ walked)

-- the statement: the cases are as the request says
pub cases : table the_calls ≡ says
cases =
    ap₂ ◌++◌
    (ap₂ ◌++◌
    (ap₂ ◌++◌
    (ap₂ ◌++◌ (same_table_lem (hashes ∷ []) (hash_row ∷ []) (passes _ hashes_are)) (rows_by crowded crowded_rows crowded_walked))
    (rows_by foreign foreign_rows foreign_walked))
    (rows_by full full_rows full_walked))
    (rows_by refused refused_rows refused_walked)
