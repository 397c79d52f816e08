-- Runs: any calls, in any order and with any arguments, after a taken opening or a file that was read.
use Rattle.std.specs.Prelude.{ℕ, ◌+◌, ◌≡◌, Bool, true, false, cond, List, [], ◌∷◌}
use Rattle.terms.specs.declared.setting.Setting.{Setting}
use Rattle.terms.specs.declared.answer.Reading.{Reading}
use Rattle.terms.specs.declared.form.Form.{Form}
use Rattle.terms.specs.Answers.{Outcome, outcome, is_taken}
use Rattle.rules.specs.Book.{look_up, number_of}
use Rattle.rules.specs.Poll.{is_success}
use Rattle.rules.specs.Calls.{open_call, book_call, poll_call, read_call}
use Rattle.day_file.specs.Day.{DayPoll}
use Rattle.day_file.specs.Decode.{decode}
use Rattle.day_file.specs.Calls.{write_file_call, read_file_call}
use Rattle.name_index.specs.Calls.{index_build_call, index_enter_call, index_find_call}

-- the fifteen calls on a workspace; the five that Ask has are the readings, writing and reading a file have two forms each, and three are about an index. A move
-- of a file has no workspace (MoveFile.antt)
pub data Call : Type 0 where
  Open : Setting → Call
  Book : (name slot : ℕ) (parents : List ℕ) → Call
  Poll : (name : ℕ) (votes : List ℕ) → Call
  Ask : (what : Reading) (name : ℕ) → Call
  WriteFile : (form : Form) (buffer : List ℕ) → Call
  ReadFile : (form : Form) (file : List ℕ) → Call
  IndexBuild : (index : List ℕ) → Call
  IndexEnter : (index : List ℕ) → Call
  IndexFind : (index : List ℕ) (name : ℕ) → Call

-- what a call gives on the words w
unfoldable pub outcome_of : Call → List ℕ → Outcome
outcome_of (Open s) w = open_call w s
outcome_of (Book name slot parents) w = book_call w name slot parents
outcome_of (Poll name votes) w = poll_call w name votes
outcome_of (Ask what name) w = outcome (read_call what w name) w
outcome_of (WriteFile form buffer) w = outcome (write_file_call form w buffer).answer (write_file_call form w buffer).words
outcome_of (ReadFile form file) w = read_file_call form w file
outcome_of (IndexBuild index) w = outcome (index_build_call w index).answer (index_build_call w index).words
outcome_of (IndexEnter index) w = outcome (index_enter_call w index).answer (index_enter_call w index).words
outcome_of (IndexFind index name) w = outcome (index_find_call w index name) w

-- whether the call makes a new ledger of whatever the words were if it is taken: opening does, and reading a file
abbrev pub opens : Call → Bool
opens (Open s) = true
opens (Book name slot parents) = false
opens (Poll name votes) = false
opens (Ask what name) = false
opens (WriteFile form buffer) = false
opens (ReadFile form file) = true
opens (IndexBuild index) = false
opens (IndexEnter index) = false
opens (IndexFind index name) = false

-- ---- writing, and building and entering an index, are lent a buffer to write into, beside the words; for the others it is empty. A file that is read and an index that is looked up in are only read

-- what stood in it before the call
abbrev pub lent_by : Call → List ℕ
lent_by (Open s) = []
lent_by (Book name slot parents) = []
lent_by (Poll name votes) = []
lent_by (Ask what name) = []
lent_by (WriteFile form buffer) = buffer
lent_by (ReadFile form file) = []
lent_by (IndexBuild index) = index
lent_by (IndexEnter index) = index
lent_by (IndexFind index name) = []

-- what a call on the words w leaves in it
unfoldable pub lent_after : Call → List ℕ → List ℕ
lent_after (Open s) w = []
lent_after (Book name slot parents) w = []
lent_after (Poll name votes) w = []
lent_after (Ask what name) w = []
lent_after (WriteFile form buffer) w = (write_file_call form w buffer).lent
lent_after (ReadFile form file) w = []
lent_after (IndexBuild index) w = (index_build_call w index).lent
lent_after (IndexEnter index) w = (index_enter_call w index).lent
lent_after (IndexFind index name) w = []

-- ---- the history: the bookings of the successful polls, newest first, and how many polls were taken. Which polls succeed is the
-- law's own test of the votes, `is_success`

pub record History : Type 0 where
  pub successes : List ℕ
  pub taken : ℕ

abbrev pub fresh : History
fresh = record { successes = []; taken = 0 }

-- one taken poll more, of booking i
abbrev pub with_poll : Bool → ℕ → History → History
with_poll success i h = record { successes = cond success (i ∷ h.successes) h.successes; taken = h.taken + 1 }

-- with the polls of a day, in their order
unfoldable pub with_polls : List DayPoll → History → History
with_polls [] h = h
with_polls (q ∷ qs) h = with_polls qs (with_poll q.success q.booking h)

-- it restarts at each taken opening, and with the file's polls where a file is read; refused calls leave it alone
unfoldable pub history_after : Call → List ℕ → History → History
history_after (Open s) w h = cond (is_taken (open_call w s).answer) fresh h
history_after (Book name slot parents) w h = h
history_after (Poll name votes) w h =
    cond (is_taken (poll_call w name votes).answer) (with_poll (is_success w votes) (number_of (look_up w name)) h) h
history_after (Ask what name) w h = h
history_after (WriteFile form buffer) w h = h
history_after (ReadFile form file) w h = cond (is_taken (read_file_call form w file).answer) (with_polls (decode file).polls fresh) h
history_after (IndexBuild index) w h = h
history_after (IndexEnter index) w h = h
history_after (IndexFind index name) w h = h

-- ---- runs

pub record Station : Type 0 where
  pub words : List ℕ
  pub history : History

abbrev pub step : Call → Station → Station
step c t = record { words = (outcome_of c t.words).words; history = history_after c t.words t.history }

unfoldable pub run : List Call → Station → Station
run [] t = t
run (c ∷ cs) t = run cs (step c t)

-- a taken opening, or a file that is read, whatever the words were before
pub record Opening : Type 0 where
  pub words : List ℕ
  pub call : Call
  pub makes : opens call ≡ true
  pub taken : is_taken (outcome_of call words).answer ≡ true

-- the run of the calls after it
abbrev pub after : Opening → List Call → Station
after o calls = run calls (step o.call (record { words = o.words; history = fresh }))

-- each call of a run is taken
unfoldable pub AllTaken : List Call → List ℕ → Type 0
AllTaken [] w = Unit
AllTaken (c ∷ cs) w = (is_taken (outcome_of c w).answer ≡ true) × AllTaken cs (outcome_of c w).words

-- none of them opens or reads
unfoldable pub NoneOpens : List Call → Type 0
NoneOpens [] = Unit
NoneOpens (c ∷ cs) = (opens c ≡ false) × NoneOpens cs
