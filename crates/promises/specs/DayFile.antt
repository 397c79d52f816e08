-- CR 2, CR 7 and CR 9: what the call that writes the day file leaves, how long a file is, and what it carries, in either form. Which bytes it has stands in
-- day_file/specs/Bytes.antt.
use Rattle.std.specs.Prelude.{◌≡◌, cond, List, ℕ, ◌+◌, ◌*◌, ◌-◌, ◌^◌, ◌<◌, ◌≤◌, ℤ, pos, length, get_or, eqb}
use Rattle.loops.specs.Total.{total, count}
use Rattle.terms.specs.declared.form.Form.{Form}
use Rattle.terms.specs.declared.form.Form.TheVariants.{First, Second}
use Rattle.terms.specs.Answers.{number, value}
use Rattle.rules.specs.Layout.{most_parents, bookings, setting_in, polls, name_of, slot_of, parent_of, state_of, ordinal_of, is_marked}
use Rattle.rules.specs.Sound.{Ledger}
use Rattle.day_file.specs.Day.{parent_count}
use Rattle.day_file.specs.Bytes.{day_file, file_of}
use Rattle.day_file.specs.Calls.{write_file_call}

-- ---- the call, on any words and any lent buffer

-- the bytes that a call left in the buffer, and its value: the file stands at the front, the bytes past it stay, and the value is the file's length
pub record Written (file buffer : List ℕ) (value : ℤ) (bytes : List ℕ) : Type 0 where
  pub room : length file ≤ length buffer
  pub valued : value ≡ pos (length file)
  pub long : length bytes ≡ length buffer
  pub front : (j : ℕ) → j < length file → get_or bytes j 0 ≡ get_or file j 0
  pub past : (j : ℕ) → length file ≤ j → get_or bytes j 0 ≡ get_or buffer j 0

-- a taken call writes the file, and changes no word; a refused one leaves words and buffer as they were (RefusedKeeps, in Refusals.antt)
unfoldable pub FileWritten : Type 0
FileWritten =
    (form : Form) (w buffer : List ℕ) → let o = write_file_call form w buffer in number o.answer ≡ 0
    → Written (file_of form w) buffer (value o.answer) o.lent × (o.words ≡ w)

-- every ledger is written where the buffer has room for its file; one of 12,268 bytes always has, in the second form one of 12,782 (FileLength, SecondLength)
unfoldable pub FileTaken : Type 0
FileTaken = (form : Form) (w buffer : List ℕ) → Ledger w → length (file_of form w) ≤ length buffer → number (write_file_call form w buffer).answer ≡ 0

-- ---- the file of a ledger

-- two bytes for the edition where it isn't 0
abbrev pub edition_bytes : List ℕ → ℕ
edition_bytes w = cond (eqb (setting_in w).edition 0) 0 2

-- how long it is: three counts and the setting, 12 bytes and two for each parent of each booking from number 1, and four for each poll
unfoldable pub FileCounted : Type 0
FileCounted = (w : List ℕ) → length (day_file w) ≡ 14 + edition_bytes w + total (λ j. 12 + 2 * parent_count w (j + 1)) (bookings w - 1) + 4 * polls w

-- the second form has two bytes more for how many marks there are, and two for each
unfoldable pub SecondCounted : Type 0
SecondCounted = (w : List ℕ) → length (file_of Second w) ≡ length (day_file w) + 2 + 2 * count (is_marked w) (bookings w)

-- 14 bytes where the genesis stands alone. No more than 12,266: with 512 bookings and 511 polls, where bookings 1, 2 and 3 have as many parents as there
-- are lower numbers and every later one has four. By edition 1 two more, 16 and 12,268
unfoldable pub FileLength : Type 0
FileLength = (w : List ℕ) → Ledger w → (14 + edition_bytes w ≤ length (day_file w)) × (length (day_file w) ≤ 12266 + edition_bytes w)

-- in the second form from 4 bytes more, for the genesis, to 514 more, for a mark in each of the 256 slots
unfoldable pub SecondLength : Type 0
SecondLength = (w : List ℕ) → Ledger w → (length (day_file w) + 4 ≤ length (file_of Second w)) × (length (file_of Second w) ≤ length (day_file w) + 514)

-- so a file of the form is no shorter and no longer than these, by either edition
abbrev pub least_file : Form → ℕ
least_file First = 14
least_file Second = 18

abbrev pub most_file : Form → ℕ
most_file First = 12268
most_file Second = 12782

-- a name has 64 bits. Soundness bounds what else a file carries, but not the four words of a name
abbrev pub Names64 : List ℕ → Type 0
Names64 w = (i : ℕ) → i < bookings w → name_of w i < 2 ^ 64

-- lent words have such names, being of 16 bits
unfoldable pub WordsNamed : Type 0
WordsNamed = (w : List ℕ) → ((k : ℕ) → get_or w k 0 < 65536) → Names64 w

-- two ledgers with the same setting, the same bookings, and the same polls in the same order with the same outcomes
pub record SameDay (w u : List ℕ) : Type 0 where
  pub setting : setting_in w ≡ setting_in u
  pub bookings_same : bookings w ≡ bookings u
  pub name : (i : ℕ) → i < bookings w → name_of w i ≡ name_of u i
  pub slot : (i : ℕ) → i < bookings w → slot_of w i ≡ slot_of u i
  pub parent : (i a : ℕ) → i < bookings w → a < most_parents → parent_of w i a ≡ parent_of u i a
  pub polls_same : polls w ≡ polls u
  -- when each was polled, 0 where it wasn't
  pub ordinal : (i : ℕ) → i < bookings w → ordinal_of w i ≡ ordinal_of u i
  -- and with which outcome
  pub state : (i : ℕ) → i < bookings w → state_of w i ≡ state_of u i

-- and the same marks
unfoldable pub SameMarks : List ℕ → List ℕ → Type 0
SameMarks w u = (i : ℕ) → i < bookings w → is_marked w i ≡ is_marked u i

-- what two ledgers have in common whose files are the same
abbrev pub SameCarried : Form → List ℕ → List ℕ → Type 0
SameCarried First w u = SameDay w u
SameCarried Second w u = SameDay w u × SameMarks w u

-- a file tells the ledger's day, in the second form the marks too: two ledgers that give the same bytes have that in common
unfoldable pub SameFile : Type 0
SameFile = (form : Form) (w u : List ℕ) → Ledger w → Ledger u → Names64 w → Names64 u → file_of form w ≡ file_of form u → SameCarried form w u

-- and it tells nothing else: whatever confidences, preferred and last bookings and counters are, and in the first form the marks, the same gives the same bytes
unfoldable pub SameDayFile : Type 0
SameDayFile = (form : Form) (w u : List ℕ) → Ledger w → SameCarried form w u → file_of form w ≡ file_of form u
