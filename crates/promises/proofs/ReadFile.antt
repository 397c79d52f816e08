-- The promises of reading a file: which files are good, what reading makes, and there and back. Rests on specs/ReadFile.antt. Assumes nothing.
use mathlib.Core.Path.{◌≡◌, refl, sym, ap, subst, ◌∙◌}
use mathlib.Core.Bool.{Bool, true, false, cond, true≢false}
use mathlib.Core.List.{List, [], ◌∷◌, ◌++◌, append-nil, append_assoc, append_cancel_left}
use mathlib.Core.Logic.{◌≢◌}
use Prim.Native.Nat.{ℕ, zero, suc, ◌<◌, ◌≤◌}
use native.Mathlib.Omega.{arith}
use lib.IntN.{ℤ}
use lib.ListN.{length, get_or, replicate}
use lib.Seq.{ext_get_or}
use lib.Dec.{eqb}
use borrow.Author.Tests.{eqb-true, eqb-false, eq-eqb}
use Rattle.loops.specs.Fill.{from}
use Rattle.loops.specs.Search.{any}
use Rattle.loops.proofs.Search.{any→, none→}
use Rattle.loops.proofs.Total.{distinct_most}
use Rattle.terms.specs.declared.form.Form.{Form}
use Rattle.terms.specs.declared.form.Form.TheVariants.{First, Second}
use Rattle.terms.specs.Answers.{outcome, value, is_taken, done}
use Rattle.rules.specs.Layout.{size, most_bookings, record_at, bookings, mark_field, mark_of, is_marked}
use Rattle.rules.specs.Sound.{Ledger}
use Rattle.rules.specs.Poll.{is_success, polled_by, polled}
use Rattle.rules.specs.Book.{look_up, number_of}
use Rattle.rules.specs.Calls.{poll_call}
use Rattle.day_file.specs.Day.{Day, day_of, marks_of}
use Rattle.day_file.specs.Bytes.{number_bytes, encode, marks_section, day_file, file_of}
use Rattle.day_file.specs.Decode.{read_number, read_counted, decode, decode_marked}
use Rattle.day_file.specs.Marks.{MarksRight, remarked}
use Rattle.day_file.specs.Replay.{replay, good_file, good_second}
use Rattle.day_file.specs.Calls.{good_in, write_file_call, read_file_call}
use Rattle.day_file.proofs.Codec.{Few, Short, DayFits, decode_front, number_undone, counted_undone}
use Rattle.day_file.proofs.Joined.{length_counted}
use Rattle.day_file.proofs.Remarked.{right_marks, length_remarked, word_remarked, mark_given, mark_none}
use Rattle.day_file.proofs.SecondFile.{marks_read, marks_few, second_encoded, second_fits, front_day, front_good, joined_day, joined_good, good_joined}
use Rattle.promises.specs.Run.{Call, Open, ReadFile, outcome_of, opens, fresh, with_polls, history_after, Station, step, run, Opening, AllTaken, NoneOpens}
use Rattle.promises.specs.Soundness.{RunSound}
use Rattle.promises.specs.DayFile.{Written, Names64, FileTaken, FileWritten, SameMarks, SameFile}
use Rattle.promises.specs.ReadFile.{
  Writable,
  Marked,
  GoodIsWritten,
  FileGood,
  RunFileGood,
  TrailingBad,
  FormsApart,
  book_call_of,
  poll_call_of,
  row_calls,
  calls_of,
  ReadIsReplayed,
  WithMarks,
  ReadIsRemarked,
  ReadForgets,
  OutcomeDecides,
  FileOfRead,
  WrittenAfterRead,
  ReadAfterWritten,
  SecondKeepsWords,
}
use Rattle.promises.proofs.ReplayRun.{replay_run}
use Rattle.promises.proofs.Taken.{read_taken, read_given, read_outcome, poll_outcome}
use Rattle.promises.proofs.DayRows.{bookings_told}
use Rattle.promises.proofs.Stages.{replay_ledger, replayed_day}
use Rattle.promises.proofs.DayFile.{file_taken, file_written}
use Rattle.promises.proofs.SecondForm.{same_file}
use Rattle.promises.proofs.Forms.{second_right, good_taken, made_ledger, made_day, made_again, marks_fit, marks_of_right, with_marks_good}
use Rattle.promises.proofs.Good.{names_fit, file_encoded, replay_taken, file_fits, file_ledger, file_day, file_again, decode_day_file, day_file_good}
use Rattle.promises.proofs.Run.{run_sound}

-- ---- which files are good

pub file_good : FileGood
unfolding FileGood
file_good First w ledger named = day_file_good w ledger named
file_good Second w ledger named = with_marks_good w ledger named (decode_day_file w ledger named) (marks_of w) (marks_fit w ledger) (marks_of_right w ledger)

pub run_file_good : RunFileGood
unfolding RunFileGood RunSound FileGood
run_file_good form o calls named = file_good form _ (run_sound o calls) named

-- a day's bookings and polls open nothing
none_append : (cs ds : List Call) → NoneOpens cs → NoneOpens ds → NoneOpens (cs ++ ds)
unfolding NoneOpens
none_append [] ds p q = q
none_append (c ∷ cs) ds p q = (p.0, none_append cs ds p.1 q)

none_from : (call : ℕ → Call) → ((j : ℕ) → opens (call j) ≡ opens (call 0)) → opens (call 0) ≡ false → (i n : ℕ) → NoneOpens (from call i n)
unfolding NoneOpens from
none_from call same first i zero = tt
none_from call same first i (suc n) = (same i ∙ first, none_from call same first (suc i) n)

rows_within : (d : Day) → NoneOpens (row_calls d)
rows_within d =
    none_append (from (book_call_of d.bookings) 0 (length d.bookings)) (from (poll_call_of d) 0 (length d.polls))
    (none_from (book_call_of d.bookings) (λ j. refl) refl 0 (length d.bookings))
    (none_from (poll_call_of d) (λ j. refl) refl 0 (length d.polls))

-- what the file's own calls leave writes it
good_written : (file : List ℕ) → good_file file ≡ true → Writable file
unfolding calls_of
good_written file good =
    let ran = replay_run (decode file) (record { words = replicate size 0; history = fresh }) refl (replay_taken file good) in
    let words = ap (λ t. t.words) ran.1 in
    record {
      words = replicate size 0;
      setting = (decode file).setting;
      calls = row_calls (decode file);
      within = rows_within (decode file);
      taken = ran.0;
      named = subst Names64 (sym words) (names_fit (replay (decode file)).words (file_ledger file good) (subst DayFits (sym (file_day file good)) (file_fits file good)));
      writes = ap day_file words ∙ file_again file good;
    }

written_good : (file : List ℕ) → Writable file → good_file file ≡ true
unfolding RunSound AllTaken run
written_good file written =
    let opening : Opening = record { words = written.words; call = Open written.setting; makes = refl; taken = written.taken.0 } in
    subst (λ f. good_file f ≡ true) written.writes (day_file_good _ (run_sound opening written.calls) written.named)

-- right marks of a good file are few, and each fits two bytes: they rise, so there are no more of them than bookings
right_fits : (front : List ℕ) → good_file front ≡ true → (marks : List ℕ) → MarksRight (decode front).bookings marks → Few Short marks
right_fits front good marks right =
    let ledger = file_ledger front good in
    let many = bookings_told (replay (decode front)).words (decode front) (file_day front good) ledger in
    let below : (a : ℕ) → a < length marks → get_or marks a 0 < 512 = λ a u. omega (arith, right.below a u, many, ledger.sound.bookings_most) in
    marks_few marks 512 (omega arith)
    (omega (arith, distinct_most (λ a. get_or marks a 0) (length marks) 512 below (λ a b l u e. omega (arith, right.rising a b l u)))) below

-- the first three sections of a second form are written by a run, and its marks are right
good_marked : (file : List ℕ) → good_second file ≡ true → Marked file
good_marked file good =
    record {
      front = encode (decode file);
      marks = (decode_marked file).marks;
      writable = good_written (encode (decode file)) (front_good file good);
      right = subst (λ (d : Day). MarksRight d.bookings (decode_marked file).marks) (sym (front_day file good)) (second_right file good);
      laid = second_encoded file good;
    }

marked_good : (file : List ℕ) → Marked file → good_second file ≡ true
marked_good file m =
    let good = written_good m.front m.writable in
    let read = marks_read m.marks (right_fits m.front good m.marks m.right) in
    subst (λ f. good_second f ≡ true) m.laid
    (joined_good m.front (marks_section m.marks) good (ap marks_section (sym read))
    (right_marks _ _ (subst (λ l. MarksRight (decode m.front).bookings l) (sym read) m.right)))

pub good_is_written : GoodIsWritten
unfolding GoodIsWritten
good_is_written First file = (good_written file, written_good file)
good_is_written Second file = (good_marked file, marked_good file)

-- the longer file is read as the same day, and has its bytes
pub trailing_bad : TrailingBad
unfolding TrailingBad
trailing_bad First file more good longer =
    let e = file_encoded file good in
    let same : decode (file ++ more) ≡ decode file = ap (λ f. decode (f ++ more)) (sym e) ∙ decode_front (decode file) (file_fits file good) more in
    append_cancel_left file more [] (sym (file_encoded (file ++ more) longer) ∙ ap encode same ∙ e ∙ sym (append-nil file))
trailing_bad Second file more good longer =
    let front : List ℕ = encode (decode file) in
    let marks : List ℕ = marks_section (decode_marked file).marks in
    let e : front ++ (marks ++ more) ≡ file ++ more = sym (append_assoc front marks more) ∙ ap (λ f. f ++ more) (second_encoded file good) in
    let whole = good_joined front (marks ++ more) (front_good file good) (subst (λ f. good_second f ≡ true) (sym e) longer) in
    let few = right_fits front (front_good file good) (decode_marked file).marks
    (subst (λ (d : Day). MarksRight d.bookings (decode_marked file).marks) (sym (front_day file good)) (second_right file good)) in
    let read : (read_counted read_number (marks ++ more)).value ≡ (decode_marked file).marks = ap (λ o. o.value) ((counted_undone number_undone).undoes (decode_marked file).marks few more) in
    append_cancel_left marks more [] (whole.0 ∙ ap marks_section read ∙ sym (append-nil marks))

-- a second form would be a first form with marks behind it, and the count of these is not nothing
pub forms_apart : FormsApart
unfolding FormsApart TrailingBad
forms_apart file first second =
    let front : List ℕ = encode (decode file) in
    let marks : List ℕ = marks_section (decode_marked file).marks in
    let none = trailing_bad First front marks (front_good file second) (subst (λ f. good_file f ≡ true) (sym (second_encoded file second)) first) in
    omega (arith, ap length none, length_counted number_bytes (decode_marked file).marks)

-- ---- what reading a file makes

pub read_is_replayed : ReadIsReplayed
unfolding ReadIsReplayed outcome_of history_after
read_is_replayed file t taken =
    let o = read_taken First t.words file taken in
    let ran = replay_run (decode file) t o.0 (replay_taken file o.1) in
    (ran.0, ran.1 ∙ (λ i. record { words = sym o.2 i; history = cond (sym taken i) (with_polls (decode file).polls fresh) t.history }))

-- words that were marked again have these marks
with_marks : (w marks : List ℕ) → length w ≡ size → bookings w ≤ most_bookings → ((a : ℕ) → a < length marks → get_or marks a 0 < bookings w) → WithMarks w marks (remarked marks w)
with_marks w marks whole few below =
    record {
      long = length_remarked w marks whole few below;
      others = word_remarked w marks whole few below;
      given = mark_given w marks whole few below;
      only = mark_none w marks whole few below;
    }

-- the words, whatever was there
read_marked : (w file : List ℕ) → is_taken (read_file_call Second w file).answer ≡ true
    → let front = encode (decode file) in
    (is_taken (read_file_call First w front).answer ≡ true) × WithMarks (read_file_call First w front).words (decode_marked file).marks (read_file_call Second w file).words
read_marked w file taken =
    let o = read_taken Second w file taken in
    let good = o.1 in
    let front : List ℕ = encode (decode file) in
    let first = read_given First w front o.0 (front_good file good) in
    let same : (read_file_call First w front).words ≡ (replay (decode file)).words = (read_taken First w front first).2 ∙ ap (λ d. (replay d).words) (front_day file good) in
    let ledger = replay_ledger (decode file) (good_taken Second file good) in
    let day = replayed_day (decode file) (good_taken Second file good) in
    let below : (a : ℕ) → a < length (decode_marked file).marks → get_or (decode_marked file).marks a 0 < bookings (replay (decode file)).words =
    λ a u. omega (arith, (second_right file good).below a u, bookings_told _ (decode file) day ledger) in
    let marked = with_marks (replay (decode file)).words (decode_marked file).marks ledger.whole ledger.sound.bookings_most below in (
      first,
      subst (λ v. WithMarks v (decode_marked file).marks (read_file_call Second w file).words) (sym same)
          (subst (WithMarks (replay (decode file)).words (decode_marked file).marks) (sym o.2) marked),
    )

pub read_is_remarked : ReadIsRemarked
unfolding ReadIsRemarked outcome_of history_after
read_is_remarked file t taken =
    let good = (read_taken Second t.words file taken).1 in
    let front : List ℕ = encode (decode file) in
    let read = read_marked t.words file taken in
    let history : cond (is_taken (read_file_call Second t.words file).answer) (with_polls (decode file).polls fresh) t.history
    ≡ cond (is_taken (read_file_call First t.words front).answer) (with_polls (decode front).polls fresh) t.history =
    ap (λ b. cond b (with_polls (decode file).polls fresh) t.history) (taken ∙ sym read.0)
    ∙ ap (λ (d : Day). cond (is_taken (read_file_call First t.words front).answer) (with_polls d.polls fresh) t.history) (sym (front_day file good)) in
    (second_encoded file good, read.0, read.1, history)

pub read_forgets : ReadForgets
unfolding ReadForgets
read_forgets form w u file long taken =
    let o = read_taken form w file taken in
    read_outcome form w file o.0 o.1 ∙ sym (read_outcome form u file (sym long ∙ o.0) o.1)

pub outcome_decides : OutcomeDecides
unfolding OutcomeDecides polled
outcome_decides w name votes others t s same =
    poll_outcome w name votes t
    ∙ (λ i. outcome done (polled_by (same i) w (number_of (look_up w name))))
    ∙ sym (poll_outcome w name others s)

form_fits : (form : Form) (file : List ℕ) → good_in form file ≡ true → DayFits (decode file)
form_fits First file good = file_fits file good
form_fits Second file good = second_fits file good

-- ---- there and back

pub file_of_read : FileOfRead
unfolding FileOfRead
file_of_read form w file t = let o = read_taken form w file t in ap (file_of form) o.2 ∙ made_again form file o.1

pub written_after_read : WrittenAfterRead
unfolding WrittenAfterRead FileOfRead FileTaken FileWritten
written_after_read form w file buffer t room =
    let o = read_taken form w file t in
    let again = file_of_read form w file t in
    let ledger = subst Ledger (sym o.2) (made_ledger form file o.1) in
    let u : List ℕ = (read_file_call form w file).words in
    let taken = file_taken form u buffer ledger (subst (λ f. length f ≤ length buffer) (sym again) room) in
    (taken, subst (λ f. Written f buffer (value (write_file_call form u buffer).answer) (write_file_call form u buffer).lent) again (file_written form u buffer taken).0)

-- what is read has the file that was written, so what a file tells is the same
pub read_after_written : ReadAfterWritten
unfolding ReadAfterWritten FileGood FileOfRead SameFile
read_after_written form w u ledger named whole =
    let good = file_good form w ledger named in
    let taken = read_given form u (file_of form w) whole good in
    let o = read_taken form u (file_of form w) taken in
    let v : List ℕ = (read_file_call form u (file_of form w)).words in
    let read-ledger : Ledger v = subst Ledger (sym o.2) (made_ledger form (file_of form w) good) in
    let fits : DayFits (day_of v) = subst DayFits (sym (ap day_of o.2 ∙ made_day form (file_of form w) good)) (form_fits form (file_of form w) good) in
    (taken, same_file form w v ledger read-ledger named (names_fit v read-ledger fits) (sym (file_of_read form u (file_of form w) taken)))

-- two ledgers that agree in marks and in every other word are the same words
pub same_words : (w v : List ℕ) → Ledger w → Ledger v → bookings w ≡ bookings v → SameMarks w v
    → ((k : ℕ) → ((i : ℕ) → i < bookings w → k ≢ record_at i mark_field) → get_or v k 0 ≡ get_or w k 0) → v ≡ w
unfolding SameMarks
same_words w v lw lv many marks others = ext_get_or 0 v w (lv.whole ∙ sym lw.whole) (λ k u. each k (any (is_mark_of k) (bookings w)) refl)
  where
    is_mark_of : ℕ → ℕ → Bool
    is_mark_of k i = eqb k (record_at i mark_field)

    same_mark : (i : ℕ) → i < bookings w → (a b : Bool) → is_marked w i ≡ a → is_marked v i ≡ b → a ≡ b → mark_of v i ≡ mark_of w i
    same_mark i u true true x y e = eqb-true (mark_of v i) 1 y ∙ sym (eqb-true (mark_of w i) 1 x)
    same_mark i u true false x y e = absurd (true≢false e)
    same_mark i u false true x y e = absurd (true≢false (sym e))
    same_mark i u false false x y e =
        omega (
          arith,
          eqb-false (mark_of v i) 1 y,
          eqb-false (mark_of w i) 1 x,
          lw.sound.mark_known i u,
          lv.sound.mark_known i (omega (arith, many)),
        )

    each : (k : ℕ) (b : Bool) → any (is_mark_of k) (bookings w) ≡ b → get_or v k 0 ≡ get_or w k 0
    each k true e =
        let h = any→ (is_mark_of k) (bookings w) e in
        let here : k ≡ record_at h.0 mark_field = eqb-true k _ h.2 in
        ap (λ j. get_or v j 0) here ∙ same_mark h.0 h.1 _ _ refl refl (marks h.0 h.1) ∙ ap (λ j. get_or w j 0) (sym here)
    each k false e = others k (λ i u. eqb-false k _ (none→ (is_mark_of k) (bookings w) e i u))

-- the marks are those of the file, and every other word is as the first form gives it
pub second_keeps_words : SecondKeepsWords
unfolding SecondKeepsWords ReadAfterWritten FileGood
second_keeps_words w u ledger named whole others =
    let file : List ℕ = file_of Second w in
    let good = file_good Second w ledger named in
    let after = read_after_written Second w u ledger named whole in
    let read-ledger : Ledger (read_file_call Second u file).words = subst Ledger (sym (read_taken Second u file after.0).2) (made_ledger Second file good) in
    let front : encode (decode file) ≡ day_file w = ap encode (joined_day (day_file w) (marks_section (marks_of w)) (day_file_good w ledger named) ∙ decode_day_file w ledger named) in
    let many : bookings w ≡ bookings (read_file_call First u (day_file w)).words = (read_after_written First w u ledger named whole).1.bookings_same in
    let marked : WithMarks (read_file_call First u (day_file w)).words (decode_marked file).marks (read_file_call Second u file).words =
    subst (λ f. WithMarks (read_file_call First u f).words (decode_marked file).marks (read_file_call Second u file).words) front (read_marked u file after.0).1 in
    same_words w (read_file_call Second u file).words ledger read-ledger after.1.0.bookings_same after.1.1
    (λ k d. marked.others k (λ i h. d i (omega (arith, many))) ∙ others k d)
