-- CR 2, CR 4 and CR 9: the calls that write and read the day file and move it to the other form. Each takes the form of the file that it writes or reads; a move that of
-- the file that it is given.
-- Writing changes no word, and a file is lent for reading only.
use Rattle.std.specs.Prelude.{ℕ, Bool, false, cond, not, List, ◌++◌, pos, length, drop, eqb, ltb, Err, Ok}
use Rattle.terms.specs.declared.answer.Refusal.TheVariants.{WrongLength, ShortBuffer, BadFile, OtherMarks}
use Rattle.terms.specs.declared.form.Form.{Form}
use Rattle.terms.specs.declared.form.Form.TheVariants.{First, Second}
use Rattle.terms.specs.Answers.{Outcome, leaves, Handover, hands_over, done, Answer, Tested}
use Rattle.rules.specs.Layout.{size}
use Rattle.rules.specs.Calls.{test_of, tested}
use Rattle.day_file.specs.Day.{Day, marks_of}
use Rattle.day_file.specs.Bytes.{encode, marks_section, file_of}
use Rattle.day_file.specs.Decode.{decode, decode_marked}
use Rattle.day_file.specs.Marks.{remarked}
use Rattle.day_file.specs.Replay.{same_list, replay, good_file, good_second}

-- ---- writing

-- the buffer with the bytes at its front; those past them stay
abbrev pub laid : (bytes buffer : List ℕ) → List ℕ
laid bytes buffer = bytes ++ drop (length bytes) buffer

-- 16: the buffer is shorter than the bytes. The value is how many there are
abbrev pub laid_answer : (bytes buffer : List ℕ) → Answer
laid_answer bytes buffer =
    cond (ltb (length buffer) (length bytes)) (Err ShortBuffer)
    (Ok (pos (length bytes)))

-- The test of the words is `test_of`; that it is a parameter lets the cases be computed with a faster one of the same results.
module _ (test : List ℕ → Tested) where
  -- 1, 2, 14, 15, and then 16. The value is the file's length
  abbrev pub write_file_answer : Form → List ℕ → List ℕ → Answer
  write_file_answer form w buffer = tested test w (laid_answer (file_of form w) buffer)

  abbrev pub write_file_by : Form → List ℕ → List ℕ → Handover
  write_file_by form w buffer = hands_over (write_file_answer form w buffer) w buffer (laid (file_of form w) buffer)

unfoldable pub write_file_call : Form → List ℕ → List ℕ → Handover
write_file_call = write_file_by test_of

-- ---- reading

-- a good file of the form
abbrev pub good_in : Form → List ℕ → Bool
good_in First = good_file
good_in Second = good_second

-- What is good is `good_in`, and what a day's calls make is `replay`; that they are parameters lets the cases be computed with a faster test of the same results.

-- the words that an opening, the file's bookings and then its polls make; in the second form with the file's marks instead
abbrev pub words_by : (made : Day → Outcome) → Form → List ℕ → List ℕ
words_by made First file = (made (decode file)).words
words_by made Second file = let m = decode_marked file in remarked m.marks (made m.day).words

abbrev pub words_in : Form → List ℕ → List ℕ
words_in = words_by replay

-- 1, and then 17: the file isn't good. Of the words only their number is looked at
abbrev pub read_file_answer : (good : List ℕ → Bool) → List ℕ → List ℕ → Answer
read_file_answer good w file =
    cond (not (eqb (length w) size)) (Err WrongLength)
    (cond (not (good file)) (Err BadFile)
    done)

abbrev pub read_file_by : (good : Form → List ℕ → Bool) (made : Day → Outcome) → Form → List ℕ → List ℕ → Outcome
read_file_by good made form w file = leaves (read_file_answer (good form) w file) w (words_by made form file)

unfoldable pub read_file_call : Form → List ℕ → List ℕ → Outcome
read_file_call = read_file_by good_in replay

-- ---- moving

-- the first form moves by adding the marks that its reading gives, the second by dropping its own
abbrev pub moved_by : (made : Day → Outcome) → Form → List ℕ → List ℕ
moved_by made First file = file ++ marks_section (marks_of (made (decode file)).words)
moved_by made Second file = encode (decode_marked file).day

abbrev pub moved_in : Form → List ℕ → List ℕ
moved_in = moved_by replay

-- the second form's marks aren't those that its reading as a first form gives
abbrev pub has_other_marks_by : (made : Day → Outcome) → Form → List ℕ → Bool
has_other_marks_by made First file = false
has_other_marks_by made Second file = let m = decode_marked file in not (same_list (marks_of (made m.day).words) m.marks)

abbrev pub has_other_marks : Form → List ℕ → Bool
has_other_marks = has_other_marks_by replay

-- 17, then 19, then 16. The value is the length of what is written
abbrev pub move_file_answer : (good : Form → List ℕ → Bool) (made : Day → Outcome) → Form → List ℕ → List ℕ → Answer
move_file_answer good made form file out =
    cond (not (good form file)) (Err BadFile)
    (cond (has_other_marks_by made form file) (Err OtherMarks)
    (laid_answer (moved_by made form file) out))

-- two lent buffers and no words: what a move leaves is the output
abbrev pub move_file_by : (good : Form → List ℕ → Bool) (made : Day → Outcome) → Form → List ℕ → List ℕ → Outcome
move_file_by good made form file out = leaves (move_file_answer good made form file out) out (laid (moved_by made form file) out)

unfoldable pub move_file_call : Form → List ℕ → List ℕ → Outcome
move_file_call = move_file_by good_in replay
