-- Document 01, "Numbers a caller gets back": each call with its refusals in their order; the first that applies is given.
-- A call is one total function of any list of words and any arguments; it gives an answer, and a call that writes the words it leaves too.
use Rattle.std.specs.Prelude.{ℕ, Bool, not, ◌||◌, cond, List, ℤ, length, eqb, leb, ltb, Err, None, Ok, Option, Some}
use Rattle.terms.specs.declared.setting.Setting.{Setting}
use Rattle.terms.specs.declared.answer.Reading.{Reading}
use Rattle.terms.specs.declared.answer.Reading.TheVariants.{Query, Accepted, Lead, Confidence, Size}
use Rattle.terms.specs.declared.answer.Refusal.{Refusal}
use Rattle.terms.specs.declared.answer.Refusal.TheVariants.{
  WrongLength,
  DamagedHeader,
  BadSetting,
  NameTaken,
  BadSlot,
  BadParents,
  UnknownParent,
  ParentTwice,
  Full,
  UnknownName,
  NotWaiting,
  WrongVotes,
  BadVote,
  DamagedRecord,
  DamagedSlot,
}
use Rattle.rules.specs.Layout.{size, slots, most_parents, most_bookings, bookings, setting_in, state_of}
use Rattle.terms.specs.Setting.{is_good}
use Rattle.terms.specs.Answers.{Outcome, leaves, done, Answer, Tested}
use Rattle.rules.specs.IsSound.{header_good, record_rows, bad_record, bad_slot}
use Rattle.rules.specs.Open.{opened}
use Rattle.rules.specs.Book.{look_up, is_found, number_of, has_unknown, has_twice, booked}
use Rattle.rules.specs.Poll.{has_refused_vote, polled}
use Rattle.rules.specs.Readings.{reading_of}

-- ---- open: 1, 3

abbrev pub open_answer : List ℕ → Setting → Answer
open_answer w s =
    cond (not (eqb (length w) size)) (Err WrongLength)
    (cond (not (is_good s)) (Err BadSetting)
    done)

unfoldable pub open_call : List ℕ → Setting → Outcome
open_call w s = leaves (open_answer w s) w (opened s)

-- ---- what the other calls begin with

-- refusals 2, 14 and 15: the first that applies, if any; 14 and 15 carry the lowest row that breaks a rule
abbrev pub damage_by : (lowest_record lowest_slot : List ℕ → ℕ) → List ℕ → Tested
damage_by lowest_record lowest_slot w =
    cond (not (header_good w)) (Err DamagedHeader)
    (cond (not (eqb (lowest_record w) record_rows)) (Err (DamagedRecord (lowest_record w)))
    (cond (not (eqb (lowest_slot w) slots)) (Err (DamagedSlot (lowest_slot w)))
    (Ok tt)))

unfoldable pub damage_of : List ℕ → Tested
damage_of = damage_by bad_record bad_slot

-- refusal 1 before them
abbrev pub test_by : (damage : List ℕ → Tested) → List ℕ → Tested
test_by damage w = cond (not (eqb (length w) size)) (Err WrongLength) (damage w)

unfoldable pub test_of : List ℕ → Tested
test_of = test_by damage_of

-- and where a second buffer has to have a length of its own, its refusal just after 1
abbrev pub beside_by : (damage : List ℕ → Tested) (is_wrong : Bool) → Refusal → List ℕ → Tested
beside_by damage is_wrong r = test_by (λ w. cond is_wrong (Err r) (damage w))

unfoldable pub beside_of : (is_wrong : Bool) → Refusal → List ℕ → Tested
beside_of = beside_by damage_of

-- the rest of a call that no test stops
abbrev pub unless_stopped : Tested → Answer → Answer
unless_stopped (Ok tt) rest = rest
unless_stopped (Err r) rest = Err r

-- refusal 10 before the rest, which takes the number found
abbrev pub asked_of : Option ℕ → (ℕ → Answer) → Answer
asked_of (Some i) rest = rest i
asked_of None rest = Err UnknownName

-- ---- single cases of the table

-- 5: the slot is 0 or above 255
abbrev pub is_bad_slot : ℕ → Bool
is_bad_slot slot = eqb slot 0 || leb slots slot

-- 6: there are no parents or more than four
abbrev pub is_bad_count : ℕ → Bool
is_bad_count count = eqb count 0 || ltb most_parents count

-- 11: the state of booking i isn't 0
abbrev pub is_polled : List ℕ → ℕ → Bool
is_polled w i = not (eqb (state_of w i) 0)

-- 12: the number of vote bytes isn't k
abbrev pub is_miscounted : List ℕ → ℕ → Bool
is_miscounted w count = not (eqb count (setting_in w).k)

-- 7, 8 and 9: what is left of a booking's refusals once its name, its slot and the number of its parents pass
abbrev pub parents_answer : List ℕ → List ℕ → Answer
parents_answer w parents =
    cond (has_unknown w parents) (Err UnknownParent)
    (cond (has_twice parents) (Err ParentTwice)
    (cond (eqb (bookings w) most_bookings) (Err Full)
    done))

-- The other calls first test the workspace. Their test is `test_of`; that the section takes it as a parameter, as `damage_by` takes its searches, lets
-- the table of cases be computed with faster ones of the same results (proofs/Cases.antt).
module _ (test : List ℕ → Tested) where
  abbrev pub tested : List ℕ → Answer → Answer
  tested w rest = unless_stopped (test w) rest

  -- ---- book: 1, 2, 14, 15, 4, 5, 6, 7, 8, 9

  abbrev pub book_answer : List ℕ → ℕ → ℕ → List ℕ → Answer
  book_answer w name slot parents =
      tested w
      (cond (is_found (look_up w name)) (Err NameTaken)
      (cond (is_bad_slot slot) (Err BadSlot)
      (cond (is_bad_count (length parents)) (Err BadParents)
      (parents_answer w parents))))

  abbrev pub book_by : List ℕ → ℕ → ℕ → List ℕ → Outcome
  book_by w name slot parents = leaves (book_answer w name slot parents) w (booked w name slot parents)

  -- ---- poll: 1, 2, 14, 15, 10, 11, 12, 13

  abbrev pub poll_answer : List ℕ → ℕ → List ℕ → Answer
  poll_answer w name votes =
      tested w
      (asked_of (look_up w name) (λ i.
      cond (is_polled w i) (Err NotWaiting)
      (cond (is_miscounted w (length votes)) (Err WrongVotes)
      (cond (has_refused_vote votes) (Err BadVote)
      done))))

  abbrev pub poll_by : List ℕ → ℕ → List ℕ → Outcome
  poll_by w name votes = leaves (poll_answer w name votes) w (polled w (number_of (look_up w name)) votes)

  -- ---- readings: 1, 2, 14, 15, 10

  abbrev pub reading_by : (ℕ → ℤ) → List ℕ → ℕ → Answer
  reading_by reading w name = tested w (asked_of (look_up w name) (λ i. Ok (reading i)))

  abbrev pub read_by : Reading → List ℕ → ℕ → Answer
  read_by what w = reading_by (reading_of what w) w

-- ---- the calls

unfoldable pub book_call : List ℕ → ℕ → ℕ → List ℕ → Outcome
book_call = book_by test_of

unfoldable pub poll_call : List ℕ → ℕ → List ℕ → Outcome
poll_call = poll_by test_of

abbrev pub reading_call : (ℕ → ℤ) → List ℕ → ℕ → Answer
reading_call = reading_by test_of

abbrev pub read_call : Reading → List ℕ → ℕ → Answer
read_call = read_by test_of

abbrev pub query_call : List ℕ → ℕ → Answer
query_call = read_call Query

abbrev pub accepted_call : List ℕ → ℕ → Answer
accepted_call = read_call Accepted

abbrev pub lead_call : List ℕ → ℕ → Answer
lead_call = read_call Lead

abbrev pub confidence_call : List ℕ → ℕ → Answer
confidence_call = read_call Confidence

abbrev pub size_call : List ℕ → ℕ → Answer
size_call = read_call Size
