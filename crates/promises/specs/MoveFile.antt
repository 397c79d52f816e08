-- CR 9: a file moved to the other form. Two lent buffers and no workspace: the file, which is read only, and the output.
use Rattle.std.specs.Prelude.{◌≡◌, List, ◌++◌, ◌≢◌, ℕ, ◌≤◌, pos, length, take}
use Rattle.terms.specs.declared.form.Form.{Form}
use Rattle.terms.specs.declared.form.Form.TheVariants.{First, Second}
use Rattle.terms.specs.Answers.{number, value}
use Rattle.rules.specs.Layout.{size}
use Rattle.day_file.specs.Day.{marks_of}
use Rattle.day_file.specs.Bytes.{encode, marks_section, file_of}
use Rattle.day_file.specs.Decode.{decode_marked}
use Rattle.day_file.specs.Calls.{moved_in, read_file_call, move_file_call}
use Rattle.promises.specs.DayFile.{Written}
use Rattle.promises.specs.ReadFile.{GoodIn}

abbrev pub other_form : Form → Form
other_form First = Second
other_form Second = First

-- ---- the call, on any two buffers

-- 19: read as a first form, into any words of the right length, the first three sections give other marks than the fourth has. A first form has none to compare
abbrev pub OtherMarks : Form → List ℕ → Type 0
OtherMarks First file = ⊥
OtherMarks Second file =
    let m = decode_marked file in
    (w : List ℕ) → length w ≡ size → marks_of (read_file_call First w (encode m.day)).words ≢ m.marks

-- a taken move writes to the front of the output, and leaves the rest
unfoldable pub MoveWritten : Type 0
MoveWritten =
    (form : Form) (file out : List ℕ) → let o = move_file_call form file out in number o.answer ≡ 0
    → Written (moved_in form file) out (value o.answer) o.words

-- a refused one leaves all of it, with value 0
unfoldable pub MoveRefusedKeeps : Type 0
MoveRefusedKeeps =
    (form : Form) (file out : List ℕ) → let o = move_file_call form file out in number o.answer ≢ 0
    → (o.words ≡ out) × (value o.answer ≡ pos 0)

-- ---- what is written

-- the file, in the other form, of the ledger that reading the input gives
unfoldable pub MovedIsWritten : Type 0
MovedIsWritten =
    (form : Form) (file out w : List ℕ) → number (move_file_call form file out).answer ≡ 0 → length w ≡ size
    → (number (read_file_call form w file).answer ≡ 0) × (moved_in form file ≡ file_of (other_form form) (read_file_call form w file).words)

-- so whoever reads what was written, in its form, gets the very ledger that the input gives
unfoldable pub MovedReadsSame : Type 0
MovedReadsSame =
    (form : Form) (file out w : List ℕ) → number (move_file_call form file out).answer ≡ 0 → length w ≡ size
    → read_file_call (other_form form) w (moved_in form file) ≡ read_file_call form w file

-- from the first form: the file, and behind it the marks that its reading gives
unfoldable pub MoveAdds : Type 0
MoveAdds =
    (file w : List ℕ) → GoodIn First file → length w ≡ size
    → moved_in First file ≡ file ++ marks_section (marks_of (read_file_call First w file).words)

-- from the second: the file without its fourth section
unfoldable pub MoveDrops : Type 0
MoveDrops = (file : List ℕ) → GoodIn Second file → moved_in Second file ++ marks_section (decode_marked file).marks ≡ file

-- ---- there and back

-- a first-form file that was moved moves back, wherever there is room, to the same bytes
unfoldable pub ThereAndBack : Type 0
ThereAndBack =
    (file out back : List ℕ) → let o = move_file_call First file out in number o.answer ≡ 0 → length file ≤ length back
    → let second = take (length (moved_in First file)) o.words in
    let b = move_file_call Second second back in
    (number b.answer ≡ 0) × Written file back (value b.answer) b.words

-- and a second-form file that was moved back moves there again to the same bytes
unfoldable pub BackAndThere : Type 0
BackAndThere =
    (file out there : List ℕ) → let o = move_file_call Second file out in number o.answer ≡ 0 → length file ≤ length there
    → let first = take (length (moved_in Second file)) o.words in
    let b = move_file_call First first there in
    (number b.answer ≡ 0) × Written file there (value b.answer) b.words
