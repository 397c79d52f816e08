-- A file that is cut where its first three sections end: it is a good second-form file exactly if the front is a good first-form one and what is behind are good
-- marks. Assumes nothing.
use mathlib.Core.Path.{◌≡◌, sym, ap, ◌∙◌}
use mathlib.Core.Bool.{Bool, true, false, ◌&&◌, true≢false}
use mathlib.Core.List.{List, ◌++◌}
use Prim.Native.Nat.{ℕ, ◌+◌, ◌<◌, ◌≤◌}
use lib.Dec.{eqb, leb}
use lib.ListN.{length, take, drop, take-append-drop}
use borrow.Author.Tests.{leb-false, not-true}
use Rattle.loops.proofs.Bools.{and_left, and_right, and_both, row_at, neither, refuted}
use Rattle.loops.proofs.Search.{all→}
use Rattle.terms.specs.Answers.{is_taken}
use Rattle.rules.specs.Layout.{slots}
use Rattle.rules.specs.Calls.{is_bad_slot}
use Rattle.day_file.specs.Day.{DayBooking, Day, booking_in}
use Rattle.day_file.specs.Bytes.{marks_section, encode}
use Rattle.day_file.specs.Decode.{decode, behind_day, marks_in}
use Rattle.day_file.specs.Marks.{is_rising, starts_with_genesis, are_below, slots_differ, marks_good}
use Rattle.day_file.specs.Replay.{same_list, replay, good_file, good_second}
use Rattle.day_file.specs.DayRules.{booking_passes, day_good}
use Rattle.day_file.proofs.SecondFile.{front_good, front_cut, joined_day, joined_good, good_joined}
use Rattle.promises.proofs.DayGood.{booking_tests, day_tests}
use Rattle.promises.proofs.Replayed.{replay_good}
use Rattle.day_marks.specs.Judged.{NumbersGood, SlotsGood, SecondEnds}

-- ---- the rules of marks, that of their slots apart

module _ (bs : List DayBooking) (marks : List ℕ) where
  abbrev numbers_test : Bool
  numbers_test = is_rising marks && starts_with_genesis marks && are_below (length bs + 1) marks

  numbers_ruled : marks_good bs marks ≡ true → numbers_test ≡ true
  unfolding marks_good
  numbers_ruled = and_left numbers_test (slots_differ bs marks)

  slots_ruled : marks_good bs marks ≡ true → slots_differ bs marks ≡ true
  unfolding marks_good
  slots_ruled = and_right numbers_test (slots_differ bs marks)

  both_ruled : numbers_test ≡ true → slots_differ bs marks ≡ true → marks_good bs marks ≡ true
  unfolding marks_good
  both_ruled = and_both numbers_test (slots_differ bs marks)

-- ---- the slots of a good day

booking_slot : (bs : List DayBooking) (j : ℕ) → booking_passes bs j ≡ true → (booking_in bs j).slot < slots
unfolding booking_passes
booking_slot bs j e =
    let s = (booking_in bs j).slot in
    leb-false slots s (neither (eqb s 0) (leb slots s) (not-true (is_bad_slot s) (row_at (booking_tests bs j) e 1))).1

day_slots : (d : Day) → day_good d ≡ true → SlotsGood d.bookings
unfolding day_good
day_slots d e j u = booking_slot d.bookings j (all→ (booking_passes d.bookings) (length d.bookings) (row_at (day_tests d) e 1) j u)

file_slots : (file : List ℕ) → good_file file ≡ true → SlotsGood (decode file).bookings
unfolding good_file
file_slots file good = day_slots (decode file) (sym (replay_good (decode file)) ∙ and_right (same_list (encode (decode file)) file) (is_taken (replay (decode file)).answer) good)

-- ---- the file

module _ (file : List ℕ) (end : ℕ) (within : end ≤ length file) (there : drop end file ≡ behind_day file) where
  abbrev front : List ℕ
  front = take end file

  abbrev section : List ℕ
  section = drop end file

  abbrev bs : List DayBooking
  bs = (decode file).bookings

  pub front_bad : good_file front ≡ false → good_second file ≡ false
  front_bad e = refuted (good_second file) (λ good. true≢false (sym (ap good_file (front_cut file good end within there) ∙ front_good file good) ∙ e))

  module _ (good : good_file front ≡ true) where
    whole_is : front ++ section ≡ file
    whole_is = take-append-drop end file

    day_is : decode front ≡ decode file
    day_is = sym (joined_day front section good) ∙ ap decode whole_is

    pub front_slots : SlotsGood bs
    front_slots = rw day_is at (file_slots front good)

    -- what a good file has behind its front
    module _ (whole : good_second file ≡ true) where
      behind_laid : section ≡ marks_section (marks_in section)
      behind_laid = (good_joined front section good (ap good_second whole_is ∙ whole)).0

      behind_good : marks_good bs (marks_in section) ≡ true
      behind_good = ap (λ d. marks_good d.bookings (marks_in section)) (sym day_is) ∙ (good_joined front section good (ap good_second whole_is ∙ whole)).1

    -- what is left of the file, and how many bookings its ledger has, as the code has them
    module _ {rest : List ℕ} {n : ℕ} (cut : rest ≡ section) (many : n ≡ length bs + 1) where
      pub numbers_bad : (NumbersGood n rest → ⊥) → good_second file ≡ false
      numbers_bad h =
          refuted (good_second file) (λ whole.
          h (rw (many, cut) (record { laid = behind_laid whole; rules = numbers_ruled bs (marks_in section) (behind_good whole) })))

      pub slots_bad : slots_differ bs (marks_in rest) ≡ false → good_second file ≡ false
      slots_bad e =
          refuted (good_second file) (λ whole. true≢false (sym (slots_ruled bs (marks_in section) (behind_good whole)) ∙ rw cut at e))

      pub second_good : NumbersGood n rest → slots_differ bs (marks_in rest) ≡ true → SecondEnds file end
      second_good good-numbers e =
          let numbers : NumbersGood (length bs + 1) section = rw (many, cut) at good-numbers in
          record {
            within = within;
            whole = ap good_second (sym whole_is)
                ∙ joined_good front section good numbers.laid
                (ap (λ d. marks_good d.bookings (marks_in section)) day_is ∙ both_ruled bs (marks_in section) numbers.rules (rw cut at e));
            front = good;
            day = day_is;
            back = numbers.laid ∙ ap (λ l. marks_section (marks_in l)) there;
          }
