-- Each refusal comes exactly in its listed case, the first in the order, and changes no word, no byte and no cell. Its value is 0, or with 14 and 15 a row (Damage.antt).
use Rattle.std.specs.Prelude.{◌≡◌, List, ◌≢◌, ◌⊎◌, ℕ, ◌<◌, ◌≤◌, pos, length, get_or}
use Rattle.terms.specs.declared.setting.Setting.{Setting}
use Rattle.terms.specs.declared.answer.Reading.{Reading}
use Rattle.terms.specs.declared.form.Form.{Form}
use Rattle.terms.specs.Answers.{number, value}
use Rattle.rules.specs.Layout.{size, slots, most_parents, most_bookings, bookings, setting_in, name_of, state_of}
use Rattle.terms.specs.Setting.{Good}
use Rattle.rules.specs.IsSound.{record_rows}
use Rattle.rules.specs.RowRules.{HeaderRules, RecordRules, SlotRules}
use Rattle.rules.specs.Calls.{open_call, book_call, poll_call, read_call}
use Rattle.rules.specs.Listing.{list_call}
use Rattle.day_file.specs.Bytes.{file_of}
use Rattle.day_file.specs.Calls.{moved_in, write_file_call, read_file_call, move_file_call}
use Rattle.name_index.specs.Index.{cells}
use Rattle.name_index.specs.AsRead.{NameMet, NoneEmpty}
use Rattle.name_index.specs.Calls.{index_build_call, index_enter_call, index_find_call}
use Rattle.promises.specs.Run.{Call, outcome_of, lent_by, lent_after}
use Rattle.promises.specs.Damage.{Broken}
use Rattle.promises.specs.ReadFile.{GoodIn}
use Rattle.promises.specs.MoveFile.{OtherMarks}

-- ---- a refused call changes nothing, neither the words nor the buffer lent besides, and has value 0; with 14 and 15 Damage.antt says what the value is

unfoldable pub RefusedKeeps : Type 0
RefusedKeeps =
    (c : Call) (w : List ℕ) → number (outcome_of c w).answer ≢ 0
    → ((outcome_of c w).words ≡ w)
    × (number (outcome_of c w).answer ≢ 14 → number (outcome_of c w).answer ≢ 15 → value (outcome_of c w).answer ≡ pos 0)
    × (lent_after c w ≡ lent_by c)

-- ---- the listed cases

-- some booking has the name
pub record Booked (w : List ℕ) (name : ℕ) : Type 0 where
  pub booking : ℕ
  pub below : booking < bookings w
  pub named : name_of w booking ≡ name

-- some parent's name isn't booked
pub record UnknownParent (w parents : List ℕ) : Type 0 where
  pub place : ℕ
  pub within : place < length parents
  pub unknown : Booked w (get_or parents place 0) → ⊥

-- a parent is named twice
pub record ParentTwice (parents : List ℕ) : Type 0 where
  pub earlier : ℕ
  pub later : ℕ
  pub ordered : earlier < later
  pub within : later < length parents
  pub same : get_or parents earlier 0 ≡ get_or parents later 0

-- the booking with the name is not in state 0
pub record NotWaiting (w : List ℕ) (name : ℕ) : Type 0 where
  pub booking : ℕ
  pub below : booking < bookings w
  pub named : name_of w booking ≡ name
  pub state : state_of w booking ≢ 0

-- some vote byte is neither 0, 1 nor 255
pub record BadVote (votes : List ℕ) : Type 0 where
  pub place : ℕ
  pub within : place < length votes
  pub silent : get_or votes place 0 ≢ 0
  pub yes : get_or votes place 0 ≢ 1
  pub minus_one : get_or votes place 0 ≢ 255

-- ---- the first that applies is given

-- number r where the case applies, else as the rest says
abbrev pub refuses : (r : ℕ) → Type 0 → (ℕ → Type 0) → ℕ → Type 0
refuses r applies rest n = (applies × (n ≡ r)) ⊎ ((applies → ⊥) × rest n)

abbrev pub taken : ℕ → Type 0
taken n = n ≡ 0

abbrev pub OpenListed : List ℕ → Setting → ℕ → Type 0
OpenListed w s =
    refuses 1 (length w ≢ size)
    (refuses 3 (Good s → ⊥)
    taken)

-- 2, 14 and 15: the damage of words of the right length
abbrev pub damaged_listed : List ℕ → (ℕ → Type 0) → ℕ → Type 0
damaged_listed w rest =
    refuses 2 (HeaderRules w → ⊥)
    (refuses 14 (Broken (RecordRules w) record_rows)
    (refuses 15 (Broken (SlotRules w) slots)
    rest))

-- 1 and these, which every call on a workspace alone begins with, but opening and reading a file
abbrev pub tested_listed : List ℕ → (ℕ → Type 0) → ℕ → Type 0
tested_listed w rest =
    refuses 1 (length w ≢ size)
    (damaged_listed w
    rest)

abbrev pub BookListed : List ℕ → ℕ → ℕ → List ℕ → ℕ → Type 0
BookListed w name slot parents =
    tested_listed w
    (refuses 4 (Booked w name)
    (refuses 5 ((slot ≡ 0) ⊎ (slots ≤ slot))
    (refuses 6 ((length parents ≡ 0) ⊎ (most_parents < length parents))
    (refuses 7 (UnknownParent w parents)
    (refuses 8 (ParentTwice parents)
    (refuses 9 (bookings w ≡ most_bookings)
    taken))))))

abbrev pub PollListed : List ℕ → ℕ → List ℕ → ℕ → Type 0
PollListed w name votes =
    tested_listed w
    (refuses 10 (Booked w name → ⊥)
    (refuses 11 (NotWaiting w name)
    (refuses 12 (length votes ≢ (setting_in w).k)
    (refuses 13 (BadVote votes)
    taken))))

abbrev pub ReadingListed : List ℕ → ℕ → ℕ → Type 0
ReadingListed w name =
    tested_listed w
    (refuses 10 (Booked w name → ⊥)
    taken)

-- 16: the buffer is shorter than the file
abbrev pub WriteFileListed : Form → List ℕ → List ℕ → ℕ → Type 0
WriteFileListed form w buffer =
    tested_listed w
    (refuses 16 (length buffer < length (file_of form w))
    taken)

-- 17: the file isn't good, which people read so (ReadFile.antt): in the first form, no run of taken calls writes it; in the second, it is no such file with good
-- marks behind it. The words need only be of the right length
abbrev pub ReadFileListed : Form → List ℕ → List ℕ → ℕ → Type 0
ReadFileListed form w file =
    refuses 1 (length w ≢ size)
    (refuses 17 (GoodIn form file → ⊥)
    taken)

-- 17, and of the second form 19: its reading as a first form gives other marks. Then 16: the output is shorter than what is to be written
abbrev pub MoveFileListed : Form → (file out : List ℕ) → ℕ → Type 0
MoveFileListed form file out =
    refuses 17 (GoodIn form file → ⊥)
    (refuses 19 (OtherMarks form file)
    (refuses 16 (length out < length (moved_in form file))
    taken))

-- 18 just after 1: what every call about an index begins with
abbrev pub index_listed : (w index : List ℕ) → (ℕ → Type 0) → ℕ → Type 0
index_listed w index rest =
    refuses 1 (length w ≢ size)
    (refuses 18 (length index ≢ cells)
    (damaged_listed w
    rest))

abbrev pub BuildListed : (w index : List ℕ) → ℕ → Type 0
BuildListed w index =
    index_listed w index
    taken

-- 27: no cell holds 65535
abbrev pub EnterListed : (w index : List ℕ) → ℕ → Type 0
EnterListed w index =
    index_listed w index
    (refuses 27 (NoneEmpty index)
    taken)

-- 10: probing does not meet the name
abbrev pub FindListed : (w index : List ℕ) → ℕ → ℕ → Type 0
FindListed w index name =
    index_listed w index
    (refuses 10 (NameMet w index name → ⊥)
    taken)

-- list may be refused with 1, 2, 14 or 15 only
abbrev pub ListListed : List ℕ → ℕ → Type 0
ListListed w =
    tested_listed w
    taken

pub record RefusedListed : Type 0 where
  pub opening : (w : List ℕ) (s : Setting) → OpenListed w s (number (open_call w s).answer)
  pub booking : (w : List ℕ) (name slot : ℕ) (parents : List ℕ) → BookListed w name slot parents (number (book_call w name slot parents).answer)
  pub polling : (w : List ℕ) (name : ℕ) (votes : List ℕ) → PollListed w name votes (number (poll_call w name votes).answer)
  pub reading : (what : Reading) (w : List ℕ) (name : ℕ) → ReadingListed w name (number (read_call what w name))
  pub writing : (form : Form) (w buffer : List ℕ) → WriteFileListed form w buffer (number (write_file_call form w buffer).answer)
  pub reading_file : (form : Form) (w file : List ℕ) → ReadFileListed form w file (number (read_file_call form w file).answer)
  pub moving : (form : Form) (file out : List ℕ) → MoveFileListed form file out (number (move_file_call form file out).answer)
  pub building : (w index : List ℕ) → BuildListed w index (number (index_build_call w index).answer)
  pub entering : (w index : List ℕ) → EnterListed w index (number (index_enter_call w index).answer)
  pub finding : (w index : List ℕ) (name : ℕ) → FindListed w index name (number (index_find_call w index name))
  pub list : (w : List ℕ) → ListListed w (number (list_call w))
