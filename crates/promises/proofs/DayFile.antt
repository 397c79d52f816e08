-- The promises of the day file: what the call leaves, by its cases; the first form's length; and what two ledgers of the same day have in common, from the laws of
-- day_file/proofs. SecondForm.antt has those that rest on the marks too.
-- Rests on specs/DayFile.antt. Assumes nothing.
use Rattle.std.specs.Prelude.{Err, Ok}
use mathlib.Core.Path.{◌≡◌, refl, sym, ap, ◌∙◌}
use mathlib.Core.Bool.{Bool, true, false, cond}
use mathlib.Core.List.{List}
use Prim.Native.Nat.{ℕ, ◌-◌, ◌<◌, ◌≤◌}
use native.Mathlib.Omega.{arith}
use lib.IntN.{pos}
use lib.ListN.{length}
use lib.Dec.{eqb, ltb}
use borrow.Author.Tests.{ltb-false, le-ltb}
use Rattle.loops.specs.Search.{first}
use Rattle.loops.specs.Fill.{from}
use Rattle.loops.proofs.Search.{first_from_same}
use Rattle.loops.proofs.Fill.{from_agree}
use Rattle.terms.specs.declared.form.Form.{Form}
use Rattle.terms.specs.declared.answer.Refusal.TheVariants.{ShortBuffer}
use Rattle.terms.specs.Answers.{number, value, hands_over, Answer, Tested}
use Rattle.rules.specs.Layout.{record_at, bookings, polls, ordinal_of}
use Rattle.rules.specs.Sound.{Ledger}
use Rattle.rules.specs.Calls.{test_of, unless_stopped}
use Rattle.rule_laws.proofs.Calls.{number_refused, hands_over_answer}
use Rattle.rule_laws.proofs.Tested.{tested_known}
use Rattle.day_file.specs.Day.{booking_at, holder, poll_of, day_of}
use Rattle.day_file.specs.Bytes.{day_file, file_of}
use Rattle.day_file.specs.Calls.{laid, laid_answer, write_file_answer, write_file_call}
use Rattle.day_file.proofs.Laid.{length_laid, laid_front, laid_past}
use Rattle.day_file.specs.InTurn.{edition_length}
use Rattle.day_file.proofs.Lengths.{length_day_file, day_file_least, day_file_most}
use Rattle.day_file.proofs.SameDay.{same_setting, same_bookings, same_name, same_slot, same_parent, same_polls, same_ordinal, same_state}
use Rattle.day_file.proofs.Holders.{holder_below}
use Rattle.promises.proofs.DayGrown.{booking_at_same}
use Rattle.promises.specs.DayFile.{Written, FileWritten, FileTaken, FileCounted, FileLength, WordsNamed, SameDay}

-- ---- the call

-- bytes laid at the front are written
pub laid_written : (file buffer : List ℕ) → length file ≤ length buffer → Written file buffer (pos (length file)) (laid file buffer)
laid_written file buffer room =
    record {
      room = room;
      valued = refl;
      long = length_laid file buffer room;
      front = laid_front file buffer;
      past = laid_past file buffer;
    }

pub file_written : FileWritten
unfolding FileWritten write_file_call
file_written form w buffer taken = go (test_of w) (ltb (length buffer) (length (file_of form w))) refl taken
  where
    -- by what the test says, and by whether the buffer is short
    answer : Tested → Bool → Answer
    answer t short = unless_stopped t (cond short (Err ShortBuffer) (Ok (pos (length (file_of form w)))))

    go : (t : Tested) (short : Bool) → ltb (length buffer) (length (file_of form w)) ≡ short
        → let o = hands_over (answer t short) w buffer (laid (file_of form w) buffer) in number o.answer ≡ 0
        → Written (file_of form w) buffer (value o.answer) o.lent × (o.words ≡ w)
    go (Err r) short e h = absurd (number_refused r h)
    go (Ok tt) true e h = absurd (number_refused ShortBuffer h)
    go (Ok tt) false e h = (laid_written (file_of form w) buffer (ltb-false (length buffer) (length (file_of form w)) e), refl)

pub file_taken : FileTaken
unfolding FileTaken write_file_call
file_taken form w buffer ledger room =
    rw (
      hands_over_answer (write_file_answer test_of form w buffer) w buffer (laid (file_of form w) buffer),
      tested_known w ledger (laid_answer (file_of form w) buffer),
      le-ltb (length buffer) (length (file_of form w)) room,
    )

-- ---- the file

pub file_counted : FileCounted
unfolding FileCounted edition_length
file_counted = length_day_file

pub file_length : FileLength
unfolding FileLength edition_length
file_length w ledger = (day_file_least w ledger, day_file_most w ledger)

pub words_named : WordsNamed
unfolding WordsNamed
words_named w words i h = omega (arith, words (record_at i 0), words (record_at i 1), words (record_at i 2), words (record_at i 3))

-- two ledgers with one day between them
pub same_day : (w u : List ℕ) → day_of w ≡ day_of u → Ledger w → Ledger u → SameDay w u
same_day w u day lw lu =
    record {
      setting = same_setting w u day;
      bookings_same = same_bookings w u day lw lu;
      name = same_name w u day lw lu;
      slot = same_slot w u day lw lu;
      parent = same_parent w u day lw lu;
      polls_same = same_polls w u day;
      ordinal = same_ordinal w u day lw lu;
      state = same_state w u day lw lu;
    }

-- ---- the same day gives the same file: each part of it is read off what the ledgers have in common

module _ (w u : List ℕ) (ledger : Ledger w) (same : SameDay w u) where
  booking_same : (i : ℕ) → i < bookings w → booking_at w i ≡ booking_at u i
  booking_same i h = sym (booking_at_same w u i (λ a v. sym (same.parent i a h v)) (sym (same.name i h)) (sym (same.slot i h)))

  holder_same : (ordinal : ℕ) → holder w ordinal ≡ holder u ordinal
  unfolding holder
  holder_same ordinal =
      first_from_same (λ i. eqb (ordinal_of w i) ordinal) (λ i. eqb (ordinal_of u i) ordinal) 0 (bookings w) (λ i l v. ap (λ q. eqb q ordinal) (same.ordinal i (omega arith)))
      ∙ ap (first (λ i. eqb (ordinal_of u i) ordinal)) same.bookings_same

  poll_same : (ordinal : ℕ) → 1 ≤ ordinal → ordinal ≤ polls w → poll_of w (holder w ordinal) ≡ poll_of u (holder u ordinal)
  poll_same ordinal l h =
      let state = same.state (holder w ordinal) (holder_below w ledger.sound ordinal l h) in
      (λ k. record { booking = holder w ordinal; success = eqb (state k) 2 }) ∙ ap (poll_of u) (holder_same ordinal)

  pub day_same : day_of w ≡ day_of u
  unfolding day_of
  day_same =
      let bookings-same : from (booking_at w) 1 (bookings w - 1) ≡ from (booking_at u) 1 (bookings u - 1) =
      from_agree (booking_at w) (booking_at u) 1 (bookings w - 1) (λ i l v. booking_same i (omega arith))
      ∙ ap (λ n. from (booking_at u) 1 (n - 1)) same.bookings_same in
      let polls-same : from (λ o. poll_of w (holder w o)) 1 (polls w) ≡ from (λ o. poll_of u (holder u o)) 1 (polls u) =
      from_agree (λ o. poll_of w (holder w o)) (λ o. poll_of u (holder u o)) 1 (polls w) (λ o l v. poll_same o l (omega arith))
      ∙ ap (from (λ o. poll_of u (holder u o)) 1) same.polls_same in
      λ k. record { setting = same.setting k; bookings = bookings-same k; polls = polls-same k }
