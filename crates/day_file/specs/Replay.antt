-- CR 4 and CR 9: a day made again by the calls of the law, an opening, then its bookings, then its polls; and when a file is good, in either form.
use Rattle.std.specs.Prelude.{ℕ, Bool, ◌&&◌, cond, List, [], ◌∷◌, length, get_or, replicate, eqb, ltb, Err, Ok}
use Rattle.loops.specs.Search.{all}
use Rattle.loops.specs.Total.{bit}
use Rattle.loops.specs.Fill.{from}
use Rattle.terms.specs.declared.answer.Refusal.TheVariants.{UnknownParent, UnknownName}
use Rattle.terms.specs.Answers.{Outcome, outcome, is_taken, Answer, Tested}
use Rattle.rules.specs.Layout.{size, bookings, setting_in, name_of}
use Rattle.rules.specs.Calls.{test_of, open_call, book_by, poll_by}
use Rattle.day_file.specs.Day.{DayBooking, DayPoll, Day}
use Rattle.day_file.specs.Bytes.{encode, encode_marked}
use Rattle.day_file.specs.Decode.{decode, decode_marked}
use Rattle.day_file.specs.Marks.{marks_good}

-- ---- a day's numbers as the calls' arguments

-- each of the numbers is a booking's
abbrev pub are_booked : List ℕ → List ℕ → Bool
are_booked w numbers = all (λ a. ltb (get_or numbers a 0) (bookings w)) (length numbers)

-- the names of the bookings with these numbers
abbrev pub names_of : List ℕ → List ℕ → List ℕ
names_of w numbers = from (λ a. name_of w (get_or numbers a 0)) 0 (length numbers)

-- k votes: all yes for a success, all silent for a failure
abbrev pub votes_for : List ℕ → Bool → List ℕ
votes_for w success = replicate (setting_in w).k (bit success)

-- ---- calls one after the other, as long as they are taken

-- a call after what the calls before it gave
abbrev pub following : Answer → List ℕ → (List ℕ → Outcome) → Outcome
following (Ok v) w call = call w
following (Err r) w call = outcome (Err r) w

-- one call for each
unfoldable pub in_order : {A : Type 0} → (A → List ℕ → Outcome) → List A → Outcome → Outcome
in_order call [] o = o
in_order call (x ∷ xs) o = in_order call xs (following o.answer o.words (call x))

-- The calls test the words with `test_of`; that it is a parameter lets the cases be computed with a faster one of the same results.
module _ (test : List ℕ → Tested) where
  -- a booking, with its parents by their names. A number that is no booking's yet is an unknown parent
  abbrev pub rebook_by : DayBooking → List ℕ → Outcome
  rebook_by b w =
      cond (are_booked w b.parents) (book_by test w b.name b.slot (names_of w b.parents))
      (outcome (Err UnknownParent) w)

  -- a poll, with the votes that its outcome takes
  abbrev pub repoll_by : DayPoll → List ℕ → Outcome
  repoll_by q w =
      cond (ltb q.booking (bookings w)) (poll_by test w (name_of w q.booking) (votes_for w q.success))
      (outcome (Err UnknownName) w)

  -- the opening, all bookings, all polls, on words that were never used
  abbrev pub replay_by : Day → Outcome
  replay_by d = in_order repoll_by d.polls (in_order rebook_by d.bookings (open_call (replicate size 0) d.setting))

unfoldable pub replay : Day → Outcome
replay = replay_by test_of

-- ---- a good file

-- the same numbers, and as many; bytes are numbers too
abbrev pub same_list : List ℕ → List ℕ → Bool
same_list a b = eqb (length a) (length b) && all (λ j. eqb (get_or a j 0) (get_or b j 0)) (length a)

-- its bytes are those of the day that they are read as, none missing and none left over, and each of that day's calls is taken
abbrev pub good_file_by : (Day → Outcome) → List ℕ → Bool
good_file_by made file = same_list (encode (decode file)) file && is_taken (made (decode file)).answer

unfoldable pub good_file : List ℕ → Bool
good_file = good_file_by replay

-- in the second form: its bytes are those of the marked day that they are read as, each of the day's calls is taken, and the marks are good
abbrev pub good_second_by : (Day → Outcome) → List ℕ → Bool
good_second_by made file =
    let m = decode_marked file in
    same_list (encode_marked m) file && is_taken (made m.day).answer && marks_good m.day.bookings m.marks

unfoldable pub good_second : List ℕ → Bool
good_second = good_second_by replay
