-- CR 4 and CR 9: which files are good, what reading one makes, and that writing and reading undo each other, in either form.
use Rattle.std.specs.Prelude.{◌≡◌, Bool, true, List, [], ◌∷◌, ◌++◌, ◌≢◌, ◌↔◌, ℕ, ◌<◌, ◌≤◌, length, get_or, replicate}
use Rattle.loops.specs.Total.{bit}
use Rattle.loops.specs.Fill.{from}
use Rattle.terms.specs.declared.setting.Setting.{Setting}
use Rattle.terms.specs.declared.form.Form.{Form}
use Rattle.terms.specs.declared.form.Form.TheVariants.{First, Second}
use Rattle.terms.specs.Answers.{number, value, is_taken}
use Rattle.rules.specs.Layout.{size, record_at, bookings, mark_field, mark_of}
use Rattle.rules.specs.Sound.{Ledger}
use Rattle.rules.specs.Poll.{is_success}
use Rattle.rules.specs.Calls.{poll_call}
use Rattle.day_file.specs.Day.{DayBooking, DayPoll, Day, booking_in, name_in, polled_in, succeeded_in}
use Rattle.day_file.specs.Bytes.{encode, marks_section, day_file, file_of}
use Rattle.day_file.specs.Decode.{decode, decode_marked}
use Rattle.day_file.specs.Marks.{MarksRight}
use Rattle.day_file.specs.Calls.{good_in, write_file_call, read_file_call}
use Rattle.promises.specs.Run.{Call, Open, Book, Poll, ReadFile, fresh, Station, step, run, Opening, after, AllTaken, NoneOpens}
use Rattle.promises.specs.DayFile.{Written, Names64, SameCarried}

-- ---- which files are good

-- after a taken opening and some taken calls, none of which opens again or reads a file, the words have this file; so it does not rest on which files are
-- good. Names have 64 bits, as in lent words (WordsNamed): of a longer one a file would have the lowest eight bytes
pub record Writable (file : List ℕ) : Type 0 where
  pub words : List ℕ
  pub setting : Setting
  pub calls : List Call
  pub within : NoneOpens calls
  pub taken : AllTaken (Open setting ∷ calls) words
  pub named : Names64 (run (Open setting ∷ calls) (record { words = words; history = fresh })).words
  pub writes : day_file (run (Open setting ∷ calls) (record { words = words; history = fresh })).words ≡ file

-- in the second form marks stand behind such a file: they rise from the genesis, each is a booking's, and no slot has two. No vote need have earned them
pub record Marked (file : List ℕ) : Type 0 where
  pub front : List ℕ
  pub marks : List ℕ
  pub writable : Writable front
  pub right : MarksRight (decode front).bookings marks
  pub laid : front ++ marks_section marks ≡ file

abbrev pub GoodIn : Form → List ℕ → Type 0
GoodIn First = Writable
GoodIn Second = Marked

-- exactly those are good
unfoldable pub GoodIsWritten : Type 0
GoodIsWritten = (form : Form) (file : List ℕ) → (good_in form file ≡ true) ↔ GoodIn form file

-- the file of every ledger is good, whether or not a history reaches it
unfoldable pub FileGood : Type 0
FileGood = (form : Form) (w : List ℕ) → Ledger w → Names64 w → good_in form (file_of form w) ≡ true

-- and so is the file of every run, of one with openings and files read in it too
unfoldable pub RunFileGood : Type 0
RunFileGood = (form : Form) (o : Opening) (calls : List Call) → Names64 (after o calls).words → good_in form (file_of form (after o calls).words) ≡ true

-- bytes behind a good file make it bad
unfoldable pub TrailingBad : Type 0
TrailingBad = (form : Form) (file more : List ℕ) → good_in form file ≡ true → good_in form (file ++ more) ≡ true → more ≡ []

-- no file is good in both forms
unfoldable pub FormsApart : Type 0
FormsApart = (file : List ℕ) → good_in First file ≡ true → good_in Second file ≡ true → ⊥

-- ---- what reading a file makes

-- a day's bookings as calls: parents by their names
abbrev pub book_call_of : List DayBooking → ℕ → Call
book_call_of bs j =
    let b = booking_in bs j in
    Book b.name b.slot (from (λ a. name_in bs (get_or b.parents a 0)) 0 (length b.parents))

-- its polls: k yes votes for a success, k silent ones for a failure
abbrev pub poll_call_of : Day → ℕ → Call
poll_call_of d q = Poll (name_in d.bookings (polled_in d.polls q)) (replicate d.setting.k (bit (succeeded_in d.polls q)))

-- all bookings, and then all polls
abbrev pub row_calls : Day → List Call
row_calls d = from (book_call_of d.bookings) 0 (length d.bookings) ++ from (poll_call_of d) 0 (length d.polls)

-- after an opening
unfoldable pub calls_of : Day → List Call
calls_of d = Open d.setting ∷ row_calls d

-- a first-form file that is read does to words and history what its calls do, each of them taken
unfoldable pub ReadIsReplayed : Type 0
ReadIsReplayed =
    (file : List ℕ) (t : Station) → is_taken (read_file_call First t.words file).answer ≡ true
    → AllTaken (calls_of (decode file)) t.words × (run (calls_of (decode file)) t ≡ step (ReadFile First file) t)

-- w's words but for the marks of its bookings, which are these and no others
pub record WithMarks (w marks v : List ℕ) : Type 0 where
  pub long : length v ≡ length w
  pub others : (k : ℕ) → ((i : ℕ) → i < bookings w → k ≢ record_at i mark_field) → get_or v k 0 ≡ get_or w k 0
  pub given : (a : ℕ) → a < length marks → mark_of v (get_or marks a 0) ≡ 1
  pub only : (i : ℕ) → i < bookings w → ((a : ℕ) → a < length marks → get_or marks a 0 ≢ i) → mark_of v i ≡ 0

-- a second-form file that is read does what its first three sections do as a first-form file, to words and history, but that the marks are its own
unfoldable pub ReadIsRemarked : Type 0
ReadIsRemarked =
    (file : List ℕ) (t : Station) → is_taken (read_file_call Second t.words file).answer ≡ true
    → let m = decode_marked file in
    let front = encode m.day in
    (front ++ marks_section m.marks ≡ file) × (is_taken (read_file_call First t.words front).answer ≡ true)
    × WithMarks (step (ReadFile First front) t).words m.marks (step (ReadFile Second file) t).words
    × ((step (ReadFile Second file) t).history ≡ (step (ReadFile First front) t).history)

-- of the words before only their number counts
unfoldable pub ReadForgets : Type 0
ReadForgets =
    (form : Form) (w u file : List ℕ) → length w ≡ length u → is_taken (read_file_call form w file).answer ≡ true
    → read_file_call form w file ≡ read_file_call form u file

-- with which votes a poll came to its outcome makes no difference: reading takes k yes or k silent ones
unfoldable pub OutcomeDecides : Type 0
OutcomeDecides =
    (w : List ℕ) (name : ℕ) (votes others : List ℕ) → is_taken (poll_call w name votes).answer ≡ true → is_taken (poll_call w name others).answer ≡ true
    → is_success w votes ≡ is_success w others → poll_call w name votes ≡ poll_call w name others

-- ---- there and back

-- a file that was read is that of the words that it made
unfoldable pub FileOfRead : Type 0
FileOfRead = (form : Form) (w file : List ℕ) → is_taken (read_file_call form w file).answer ≡ true → file_of form (read_file_call form w file).words ≡ file

-- so where there is room it is written again with the same bytes
unfoldable pub WrittenAfterRead : Type 0
WrittenAfterRead =
    (form : Form) (w file buffer : List ℕ) → is_taken (read_file_call form w file).answer ≡ true → length file ≤ length buffer
    → let o = write_file_call form (read_file_call form w file).words buffer in
    (number o.answer ≡ 0) × Written file buffer (value o.answer) o.lent

-- and the file of a ledger can be read into any words of the right length, and keeps its setting, bookings and polls, in the second form its marks too
unfoldable pub ReadAfterWritten : Type 0
ReadAfterWritten =
    (form : Form) (w u : List ℕ) → Ledger w → Names64 w → length u ≡ size
    → (is_taken (read_file_call form u (file_of form w)).answer ≡ true) × SameCarried form w (read_file_call form u (file_of form w)).words

-- where the first form gives back every word but the marks, the second gives back every word
unfoldable pub SecondKeepsWords : Type 0
SecondKeepsWords =
    (w u : List ℕ) → Ledger w → Names64 w → length u ≡ size
    → ((k : ℕ) → ((i : ℕ) → i < bookings w → k ≢ record_at i mark_field) → get_or (read_file_call First u (day_file w)).words k 0 ≡ get_or w k 0)
    → (read_file_call Second u (file_of Second w)).words ≡ w
