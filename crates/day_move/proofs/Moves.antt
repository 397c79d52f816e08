-- A move judged and written as the law says: what a good second-form file has behind its offset, and that writing the words which the input gives, in the other form, is
-- the move. Assumes nothing.
use Rattle.std.specs.Prelude.{Err, Ok}
use mathlib.Core.Path.{◌≡◌, refl, sym, ap, subst, ◌∙◌}
use mathlib.Core.Bool.{true, false}
use mathlib.Core.List.{List}
use Prim.Native.Nat.{ℕ, ◌-◌, ◌<◌, ◌≤◌}
use native.Mathlib.Omega.{arith}
use lib.ListN.{length, get_or, take, drop, length-drop}
use lib.Seq.{take_all}
use Rattle.terms.specs.declared.form.Form.{Form}
use Rattle.terms.specs.declared.form.Form.TheVariants.{First, Second}
use Rattle.terms.specs.declared.answer.Refusal.TheVariants.{BadFile, OtherMarks}
use Rattle.terms.specs.Answers.{outcome, leaves, handover, hands_over, Answer}
use Rattle.rules.specs.Layout.{size, most_bookings, bookings}
use Rattle.rules.specs.Sound.{Ledger}
use Rattle.rule_laws.proofs.Tested.{tested_known}
use Rattle.day_file.specs.Day.{marks_of}
use Rattle.day_file.specs.Bytes.{marks_section, file_of}
use Rattle.day_file.specs.Decode.{read_number, read_counted, decode, decode_marked, marks_in}
use Rattle.day_file.specs.Replay.{same_list, replay, good_file, good_second}
use Rattle.day_file.specs.Calls.{laid, laid_answer, good_in, write_file_call, moved_in, has_other_marks, move_file_call}
use Rattle.day_file.proofs.SecondFile.{second_behind}
use Rattle.promises.specs.MoveFile.{other_form}
use Rattle.promises.proofs.DayRows.{bookings_told}
use Rattle.promises.proofs.Stages.{replay_ledger, replayed_day}
use Rattle.promises.proofs.Forms.{good_taken, second_right}
use Rattle.day_marks.specs.Judged.{SecondEnds}
use Rattle.day_remark.specs.Section.{MarksLaid}

-- ---- behind the offset of a good second-form file

module _ (file : List ℕ) (end : ℕ) (ends : SecondEnds file end) where
  abbrev pub section : List ℕ
  section = take (length file - end) (drop end file)

  section_is : section ≡ drop end file
  section_is = take_all (length file - end) (drop end file) (omega (arith, length-drop end file))

  abbrev pub w : List ℕ
  w = (replay (decode file)).words

  pub words_ledger : Ledger w
  words_ledger = replay_ledger (decode file) (good_taken Second file ends.whole)

  -- the words that a replay of its front leaves
  pub words_are : {v : List ℕ} → v ≡ (replay (decode (take end file))).words → v ≡ w
  words_are told = told ∙ ap (λ d. (replay d).words) ends.day

  pub marks_are : marks_in section ≡ (decode_marked file).marks
  marks_are = ap (λ l. (read_counted read_number l).value) (section_is ∙ ends.back ∙ sym (second_behind file ends.whole))

  pub marks_there : MarksLaid section
  marks_there = record {
    laid = section_is ∙ ends.back ∙ ap marks_section (sym marks_are);
    below = λ a u.
        let marks : List ℕ = (decode_marked file).marks in
        let few = bookings_told w (decode file) (replayed_day (decode file) (good_taken Second file ends.whole)) words_ledger in
        let below = (second_right file ends.whole).below a (subst (λ l. a < length l) marks_are u) in
        omega (arith, ap (λ l. get_or l a 0) marks_are, few, words_ledger.sound.bookings_most, below);
  }

  -- what the code asks of these words
  pub words_marked : {v : List ℕ} → v ≡ w → (length v ≡ size) × (bookings v ≤ most_bookings) × MarksLaid section
  words_marked same = rw same (words_ledger.whole, words_ledger.sound.bookings_most, marks_there)

-- ---- what is refused

pub bad_first : (file out : List ℕ) → good_file file ≡ false → outcome (Err BadFile) out ≡ move_file_call First file out
unfolding move_file_call
bad_first file out bad = rw bad

pub bad_second : (file out : List ℕ) → good_second file ≡ false → outcome (Err BadFile) out ≡ move_file_call Second file out
unfolding move_file_call
bad_second file out bad = rw bad

pub other_second : (file out : List ℕ) → good_second file ≡ true → same_list (marks_of (replay (decode file)).words) (decode_marked file).marks ≡ false
    → outcome (Err OtherMarks) out ≡ move_file_call Second file out
unfolding move_file_call
other_second file out good other = rw (good, other)

-- ---- what is written

-- what a call that hands over leaves beside the words
handed_left : (a : Answer) (w before after : List ℕ) → outcome (hands_over a w before after).answer (hands_over a w before after).lent ≡ leaves a before after
handed_left (Ok v) w before after = refl
handed_left (Err r) w before after = refl

-- where nothing but a short output can stop it, the move is the writing of a ledger with that file
pub written_moved : (form : Form) (file out left v : List ℕ) (r : Answer) → Ledger v → good_in form file ≡ true → has_other_marks form file ≡ false
    → file_of (other_form form) v ≡ moved_in form file → handover r v left ≡ write_file_call (other_form form) v out → outcome r left ≡ move_file_call form file out
unfolding write_file_call move_file_call
written_moved form file out left v r ledger good kept same wrote =
    ap (λ h. outcome h.answer h.lent) wrote
    ∙ ap (λ a. outcome (hands_over a v out (laid (file_of (other_form form) v) out)).answer (hands_over a v out (laid (file_of (other_form form) v) out)).lent)
    (tested_known v ledger (laid_answer (file_of (other_form form) v) out))
    ∙ handed_left (laid_answer (file_of (other_form form) v) out) v out (laid (file_of (other_form form) v) out)
    ∙ ap (λ bytes. leaves (laid_answer bytes out) out (laid bytes out)) same
    ∙ rw (good, kept)
