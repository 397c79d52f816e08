-- The promises of moving a file to the other form. Rests on specs/MoveFile.antt. Assumes nothing.
use Rattle.std.specs.Prelude.{Ok}
use mathlib.Core.Path.{◌≡◌, refl, sym, ap, ap₂, subst, ◌∙◌}
use mathlib.Core.Bool.{Bool, true, false, not, true≢false}
use mathlib.Core.List.{List, [], ◌++◌}
use mathlib.Core.Logic.{◌≢◌}
use Prim.Native.Nat.{ℕ, ◌<◌, ◌≤◌}
use native.Mathlib.Omega.{arith}
use lib.IntN.{pos}
use lib.ListN.{length, get_or, take, replicate}
use lib.Seq.{take-append_seam}
use borrow.Author.Tests.{not-true, not-false}
use Rattle.terms.specs.declared.form.Form.{Form}
use Rattle.terms.specs.declared.form.Form.TheVariants.{First, Second}
use Rattle.terms.specs.Answers.{number, value, outcome, done}
use Rattle.rules.specs.Layout.{size, bookings}
use Rattle.rules.specs.Sound.{Ledger}
use Rattle.rule_laws.proofs.ButMarks.{many_same}
use Rattle.rule_laws.proofs.Calls.{taken_zero}
use Rattle.day_file.specs.Day.{Day, day_of, marks_of}
use Rattle.day_file.specs.Bytes.{encode, marks_section, day_file, file_of}
use Rattle.day_file.specs.Decode.{read_number, read_counted, decode, decode_marked}
use Rattle.day_file.specs.Marks.{MarksRight, remarked}
use Rattle.day_file.specs.Replay.{same_list, replay, good_file, good_second}
use Rattle.day_file.specs.Calls.{laid, good_in, words_in, read_file_call, moved_in, has_other_marks, move_file_call}
use Rattle.day_file.proofs.SameList.{same_list_lem, list_same}
use Rattle.day_file.proofs.SecondFile.{marks_read, second_encoded, front_day, front_good, joined_day, joined_marks, joined_good}
use Rattle.day_file.proofs.Remarked.{right_marks, but_marks, word_remarked, marks_again, Ledger_remarked}
use Rattle.promises.specs.DayFile.{Written}
use Rattle.promises.specs.ReadFile.{GoodIsWritten}
use Rattle.promises.specs.MoveFile.{other_form, OtherMarks, MoveWritten, MoveRefusedKeeps, MovedIsWritten, MovedReadsSame, MoveAdds, MoveDrops, ThereAndBack, BackAndThere}
use Rattle.promises.proofs.Taken.{read_taken, read_outcome, read_given, move_taken, move_given, move_valueless, move_refused}
use Rattle.promises.proofs.DayRows.{bookings_told, slot_told}
use Rattle.promises.proofs.Stages.{replay_ledger}
use Rattle.promises.proofs.DayFile.{laid_written}
use Rattle.promises.proofs.SecondForm.{marks_told}
use Rattle.promises.proofs.Good.{file_encoded, file_ledger, file_day, file_again}
use Rattle.promises.proofs.Forms.{good_taken, made_ledger, made_day, made_again, marks_fit, marks_of_right}
use Rattle.promises.proofs.ReadFile.{good_is_written, same_words}

-- ---- the call

pub move_written : MoveWritten
unfolding MoveWritten
move_written form file out taken =
    let o = move_taken form file out taken in
    subst (λ x. Written (moved_in form file) out (value x.answer) x.words) (sym o.3) (laid_written (moved_in form file) out o.2)

pub move_refused_keeps : MoveRefusedKeeps
unfolding MoveRefusedKeeps
move_refused_keeps form file out refused =
    ((move_refused form file out refused).words, move_valueless form file out refused)

-- ---- 19

-- the first three sections of a good second form give these words, wherever they are read
front_words : (file : List ℕ) → good_second file ≡ true → (w : List ℕ) → length w ≡ size
    → (read_file_call First w (encode (decode file))).words ≡ (replay (decode file)).words
front_words file good w whole =
    let front : List ℕ = encode (decode file) in
    (read_taken First w front (read_given First w front whole (front_good file good))).2 ∙ ap (λ d. (replay d).words) (front_day file good)

-- a taken move back loses no mark
pub kept_marks : (file : List ℕ) → has_other_marks Second file ≡ false → marks_of (replay (decode file)).words ≡ (decode_marked file).marks
kept_marks file e = same_list_lem (marks_of (replay (decode file)).words) (decode_marked file).marks (not-false _ e)

pub other_marks : (form : Form) (file : List ℕ) → good_in form file ≡ true → has_other_marks form file ≡ true → OtherMarks form file
other_marks First file good e = absurd (true≢false (sym e))
other_marks Second file good e = λ w whole same.
    let marks : List ℕ = (decode_marked file).marks in
    true≢false (sym (list_same (marks_of (replay (decode file)).words) marks (ap marks_of (sym (front_words file good w whole)) ∙ same)) ∙ not-true _ e)

pub marks_other : (form : Form) (file : List ℕ) → good_in form file ≡ true → has_other_marks form file ≡ false → OtherMarks form file → ⊥
marks_other First file good e other = other
marks_other Second file good e other =
    let w : List ℕ = replicate size 0 in
    other w refl (ap marks_of (front_words file good w refl) ∙ kept_marks file e)

-- ---- what is written

-- the words that the input gives have the output as their file
pub moved_is : (form : Form) (file : List ℕ) → good_in form file ≡ true → moved_in form file ≡ file_of (other_form form) (words_in form file)
moved_is First file good = ap (λ f. f ++ marks_section (marks_of (replay (decode file)).words)) (sym (file_again file good))
moved_is Second file good = ap encode (sym (made_day Second file good))

pub moved_is_written : MovedIsWritten
unfolding MovedIsWritten
moved_is_written form file out w taken whole =
    let o = move_taken form file out taken in
    let given = read_given form w file whole o.0 in
    (taken_zero (read_file_call form w file).answer given, moved_is form file o.0 ∙ ap (file_of (other_form form)) (sym (read_taken form w file given).2))

-- a good first-form file with the marks that its reading gives
module _ (file : List ℕ) (good : good_file file ≡ true) where
  abbrev w : List ℕ
  w = (replay (decode file)).words

  marks_of_read : MarksRight (decode file).bookings (marks_of w)
  marks_of_read = subst (λ (d : Day). MarksRight d.bookings (marks_of w)) (file_day file good) (marks_of_right w (file_ledger file good))

  read : (read_counted read_number (marks_section (marks_of w))).value ≡ marks_of w
  read = marks_read (marks_of w) (marks_fit w (file_ledger file good))

  there_good : good_second (moved_in First file) ≡ true
  there_good =
      joined_good file (marks_section (marks_of w)) good (ap marks_section (sym read))
      (right_marks _ _ (subst (MarksRight (decode file).bookings) (sym read) marks_of_read))

  there_day : decode (moved_in First file) ≡ decode file
  there_day = joined_day file (marks_section (marks_of w)) good

  there_marks : (decode_marked (moved_in First file)).marks ≡ marks_of w
  there_marks = joined_marks file (marks_section (marks_of w)) good ∙ read

  there_kept : has_other_marks Second (moved_in First file) ≡ false
  there_kept =
      ap not
      (list_same (marks_of (replay (decode (moved_in First file))).words) (decode_marked (moved_in First file)).marks
      (ap (λ d. marks_of (replay d).words) there_day ∙ sym there_marks))

  there_back : moved_in Second (moved_in First file) ≡ file
  there_back = ap encode there_day ∙ file_encoded file good

-- a ledger that is marked as it is marked stays as it is
own_marks : (v : List ℕ) → Ledger v → remarked (marks_of v) v ≡ v
own_marks v ledger =
    let below : (a : ℕ) → a < length (marks_of v) → get_or (marks_of v) a 0 < bookings v =
    λ a u. omega (arith, (marks_of_right v ledger).below a u, bookings_told v (day_of v) refl ledger) in
    let marked : Ledger (remarked (marks_of v) v) =
    Ledger_remarked v (marks_of v) ledger.whole ledger.sound.bookings_most below ledger (marks_of_right v ledger).some (marks_of_right v ledger).genesis
    (λ a b l u e. (marks_of_right v ledger).apart a b l u
    (slot_told v (day_of v) refl ledger _ (below a (omega arith)) ∙ e ∙ sym (slot_told v (day_of v) refl ledger _ (below b u)))) in
    let but = but_marks v (marks_of v) ledger.whole ledger.sound.bookings_most below in
    same_words v (remarked (marks_of v) v) ledger marked (sym (many_same v (remarked (marks_of v) v) but))
    (marks_told v (remarked (marks_of v) v) (sym (many_same v (remarked (marks_of v) v) but))
    (sym (marks_again v (marks_of v) ledger.whole ledger.sound.bookings_most below (marks_of_right v ledger).rising)))
    (word_remarked v (marks_of v) ledger.whole ledger.sound.bookings_most below)

-- both readings make the same words
same_made : (form : Form) (file : List ℕ) → good_in form file ≡ true → has_other_marks form file ≡ false → words_in (other_form form) (moved_in form file) ≡ words_in form file
same_made First file good kept =
    ap₂ remarked (there_marks file good) (ap (λ d. (replay d).words) (there_day file good)) ∙ own_marks (replay (decode file)).words (file_ledger file good)
same_made Second file good kept =
    ap (λ d. (replay d).words) (front_day file good)
    ∙ sym (ap (λ marks. remarked marks (replay (decode file)).words) (sym (kept_marks file kept)) ∙ own_marks (replay (decode file)).words (replay_ledger (decode file) (good_taken Second file good)))

moved_good : (form : Form) (file : List ℕ) → good_in form file ≡ true → good_in (other_form form) (moved_in form file) ≡ true
moved_good First file good = there_good file good
moved_good Second file good = front_good file good

pub moved_reads_same : MovedReadsSame
unfolding MovedReadsSame
moved_reads_same form file out w taken whole =
    let o = move_taken form file out taken in
    read_outcome (other_form form) w (moved_in form file) whole (moved_good form file o.0)
    ∙ ap (outcome done) (same_made form file o.0 o.1)
    ∙ sym (read_outcome form w file whole o.0)

pub move_adds : MoveAdds
unfolding MoveAdds GoodIsWritten
move_adds file w good whole =
    let given = read_given First w file whole ((good_is_written First file).1 good) in
    ap (λ v. file ++ marks_section (marks_of v)) (sym (read_taken First w file given).2)

pub move_drops : MoveDrops
unfolding MoveDrops GoodIsWritten
move_drops file good = second_encoded file ((good_is_written Second file).1 good)

-- ---- there and back

-- what a taken move wrote stands at the front
front_taken : (form : Form) (file out : List ℕ) → number (move_file_call form file out).answer ≡ 0
    → take (length (moved_in form file)) (move_file_call form file out).words ≡ moved_in form file
front_taken form file out taken =
    ap (λ o. take (length (moved_in form file)) o.words) (move_taken form file out taken).3 ∙ take-append_seam (moved_in form file) _

-- a move that nothing stops writes these bytes
moves : (form : Form) (file bytes out : List ℕ) → good_in form file ≡ true → has_other_marks form file ≡ false → moved_in form file ≡ bytes → length bytes ≤ length out
    → let b = move_file_call form file out in (number b.answer ≡ 0) × Written bytes out (value b.answer) b.words
moves form file bytes out good kept same room =
    let given = move_given form file out good kept (subst (λ l. length l ≤ length out) (sym same) room) in (
      ap (λ o. number o.answer) given,
      subst (λ l. Written l out (value (move_file_call form file out).answer) (move_file_call form file out).words) same
          (subst (λ x. Written (moved_in form file) out (value x.answer) x.words) (sym given) (laid_written (moved_in form file) out (subst (λ l. length l ≤ length out) (sym same) room))),
    )

pub there_and_back : ThereAndBack
unfolding ThereAndBack
there_and_back file out back taken room =
    let o = move_taken First file out taken in
    subst (λ f. let b = move_file_call Second f back in (number b.answer ≡ 0) × Written file back (value b.answer) b.words) (sym (front_taken First file out taken))
    (moves Second (moved_in First file) file back (there_good file o.0) (there_kept file o.0) (there_back file o.0) room)

pub back_and_there : BackAndThere
unfolding BackAndThere
back_and_there file out there taken room =
    let o = move_taken Second file out taken in
    let front : List ℕ = encode (decode file) in
    let good = front_good file o.0 in
    let same : moved_in First front ≡ file =
    ap (λ d. front ++ marks_section (marks_of (replay d).words)) (front_day file o.0) ∙ ap (λ m. front ++ marks_section m) (kept_marks file o.1)
    ∙ second_encoded file o.0 in
    subst (λ f. let b = move_file_call First f there in (number b.answer ≡ 0) × Written file there (value b.answer) b.words) (sym (front_taken Second file out taken))
    (moves First front file there good refl same room)
