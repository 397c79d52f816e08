-- CR 9: what reading a good file of either form makes is a ledger that holds its day, in the second form with its marks; and the file of a ledger is good in either
-- form. Assumes nothing.
use mathlib.Core.Path.{◌≡◌, refl, sym, ap, ap₂, subst, ◌∙◌}
use mathlib.Core.Bool.{true}
use mathlib.Core.List.{List, ◌++◌}
use mathlib.Core.Logic.{◌≢◌}
use Prim.Native.Nat.{ℕ, zero, suc, ◌+◌, ◌*◌, ◌<◌, ◌≤◌}
use native.Mathlib.Omega.{arith}
use lib.ListN.{length, get_or, length-append}
use lib.Seq.{ext_get_or}
use borrow.Author.Tests.{eq-eqb, eqb-true}
use Rattle.loops.specs.Total.{count}
use Rattle.loops.specs.Fill.{chosen}
use Rattle.loops.proofs.Total.{total_zero, count_some, distinct_most}
use Rattle.loops.proofs.Fill.{length_chosen, chosen_at, chosen_is, chosen_rising, Chosen}
use Rattle.terms.specs.declared.form.Form.{Form}
use Rattle.terms.specs.declared.form.Form.TheVariants.{First, Second}
use Rattle.terms.specs.Answers.{is_taken}
use Rattle.rules.specs.Layout.{size, slots, most_bookings, most_parents, bookings, polls, parents_field, name_of, slot_of, parent_of, mark_of, is_marked}
use Rattle.rules.specs.Sound.{Ledger}
use Rattle.rule_laws.proofs.ButMarks.{ButMarks, many_same, setting_same, slot_same, name_same, ordinal_same, state_same}
use Rattle.day_file.specs.Day.{Day, slot_in, day_of, marks_of}
use Rattle.day_file.specs.Bytes.{number_bytes, encode, marks_section, day_file, file_of}
use Rattle.day_file.specs.Decode.{decode, decode_marked}
use Rattle.day_file.specs.Marks.{MarksRight, remarked}
use Rattle.day_file.specs.Replay.{replay, good_file, good_second}
use Rattle.day_file.specs.Calls.{good_in, words_in}
use Rattle.day_file.proofs.Codec.{Few, Short}
use Rattle.day_file.proofs.Joined.{length_counted, length_joined_even, length_high_first}
use Rattle.day_file.proofs.Remarked.{marks_right, right_marks, but_marks, marks_again, Ledger_remarked}
use Rattle.day_file.proofs.SecondFile.{marks_read, marks_few, second_encoded, second_taken, second_marks, joined_good}
use Rattle.promises.specs.Lasting.{Grown}
use Rattle.promises.specs.DayFile.{Names64, SameDay}
use Rattle.promises.proofs.DayRows.{bookings_told, slot_told}
use Rattle.promises.proofs.Stages.{replay_ledger, replayed_day}
use Rattle.promises.proofs.DayFile.{day_same}
use Rattle.promises.proofs.Good.{replay_taken, file_again, day_file_good}

-- ---- words that differ in marks alone

module _ (w v : List ℕ) (but : ButMarks w v) where
  parent_same : (i a : ℕ) → a < most_parents → parent_of v i a ≡ parent_of w i a
  parent_same i a l = but.same i (parents_field + a) (omega arith) (omega arith)

  pub but_grown : Grown w v
  but_grown =
      record {
        more = omega (arith, many_same w v but);
        name = λ i u. name_same w v but i;
        slot = λ i u. slot_same w v but i;
        parent = λ i a u l. parent_same i a l;
      }

  pub but_day : SameDay w v
  but_day =
      record {
        setting = sym (setting_same w v but);
        bookings_same = sym (many_same w v but);
        name = λ i u. sym (name_same w v but i);
        slot = λ i u. sym (slot_same w v but i);
        parent = λ i a u l. sym (parent_same i a l);
        polls_same = sym (but.head 5 (omega arith));
        ordinal = λ i u. sym (ordinal_same w v but i);
        state = λ i u. sym (state_same w v but i);
      }

-- ---- a day and good marks

module _ (d : Day) (taken : is_taken (replay d).answer ≡ true) (marks : List ℕ) (right : MarksRight d.bookings marks) where
  abbrev w : List ℕ
  w = (replay d).words

  ledger : Ledger w
  ledger = replay_ledger d taken

  day : day_of w ≡ d
  day = replayed_day d taken

  below : (a : ℕ) → a < length marks → get_or marks a 0 < bookings w
  below a u = omega (arith, right.below a u, bookings_told w d day ledger)

  apart : (a b : ℕ) → a < b → b < length marks → slot_of w (get_or marks a 0) ≢ slot_of w (get_or marks b 0)
  apart a b l u e =
      right.apart a b l u
      (slot_told w d day ledger (get_or marks a 0) (below a (omega arith)) ∙ e ∙ sym (slot_told w d day ledger (get_or marks b 0) (below b u)))

  pub replayed_but : ButMarks w (remarked marks w)
  replayed_but = but_marks w marks ledger.whole ledger.sound.bookings_most below

  pub remarked_ledger : Ledger (remarked marks w)
  remarked_ledger = Ledger_remarked w marks ledger.whole ledger.sound.bookings_most below ledger right.some right.genesis apart

  pub remarked_marks : marks_of (remarked marks w) ≡ marks
  remarked_marks = marks_again w marks ledger.whole ledger.sound.bookings_most below right.rising

  pub remarked_day : day_of (remarked marks w) ≡ d
  remarked_day = sym (day_same w (remarked marks w) ledger (but_day w (remarked marks w) replayed_but)) ∙ day

-- ---- what reading makes

module _ (file : List ℕ) (good : good_second file ≡ true) where
  pub second_right : MarksRight (decode file).bookings (decode_marked file).marks
  second_right = marks_right (decode file).bookings (decode_marked file).marks (second_marks file good)

pub good_taken : (form : Form) (file : List ℕ) → good_in form file ≡ true → is_taken (replay (decode file)).answer ≡ true
good_taken First file good = replay_taken file good
good_taken Second file good = second_taken file good

pub made_ledger : (form : Form) (file : List ℕ) → good_in form file ≡ true → Ledger (words_in form file)
made_ledger First file good = replay_ledger (decode file) (replay_taken file good)
made_ledger Second file good = remarked_ledger (decode file) (second_taken file good) (decode_marked file).marks (second_right file good)

pub made_day : (form : Form) (file : List ℕ) → good_in form file ≡ true → day_of (words_in form file) ≡ decode file
made_day First file good = replayed_day (decode file) (replay_taken file good)
made_day Second file good = remarked_day (decode file) (second_taken file good) (decode_marked file).marks (second_right file good)

-- so it is the file of what it makes
pub made_again : (form : Form) (file : List ℕ) → good_in form file ≡ true → file_of form (words_in form file) ≡ file
made_again First file good = file_again file good
made_again Second file good =
    ap₂ (λ d marks. encode d ++ marks_section marks) (made_day Second file good)
    (remarked_marks (decode file) (second_taken file good) (decode_marked file).marks (second_right file good))
    ∙ second_encoded file good

-- ---- the marks of a ledger

module _ (w : List ℕ) (ledger : Ledger w) where
  abbrev numbers : List ℕ
  numbers = chosen (is_marked w) (bookings w)

  number_is : (a : ℕ) → a < length numbers → Chosen (is_marked w) (bookings w) a (get_or numbers a 0)
  number_is a u = chosen_is (is_marked w) (bookings w) a u

  genesis_marked_lem : is_marked w 0 ≡ true
  genesis_marked_lem = eq-eqb _ 1 ledger.sound.genesis_mark

  some_marked : 0 < length numbers
  some_marked = omega (arith, length_chosen (is_marked w) (bookings w), count_some (is_marked w) (bookings w) 0 ledger.sound.bookings_least genesis_marked_lem)

  genesis_first : get_or numbers 0 0 ≡ 0
  genesis_first =
      ap (λ k. get_or numbers k 0) (sym (total_zero _)) ∙ chosen_at (is_marked w) (bookings w) 0 ledger.sound.bookings_least genesis_marked_lem

  slots_apart : (a b : ℕ) → a < b → b < length numbers → slot_of w (get_or numbers a 0) ≢ slot_of w (get_or numbers b 0)
  slots_apart a b l u =
      let one = number_is a (omega arith) in
      let other = number_is b u in
      ledger.sound.mark_alone (get_or numbers a 0) (get_or numbers b 0) one.below other.below
      (λ e. omega (arith, chosen_rising (is_marked w) (bookings w) a b l u)) (eqb-true _ 1 one.passes) (eqb-true _ 1 other.passes)

  slot_below : (i : ℕ) → i < bookings w → slot_of w i < slots
  slot_below zero u = omega (arith, ledger.sound.genesis_slot)
  slot_below (suc i) u = (ledger.sound.booking (suc i) (omega arith) u).slot_most

  -- from one to a mark for each slot
  pub marks_some : 1 ≤ length (marks_of w)
  unfolding marks_of
  marks_some = some_marked

  pub marks_most : length (marks_of w) ≤ slots
  unfolding marks_of
  marks_most =
      distinct_most (λ a. slot_of w (get_or numbers a 0)) (length numbers) slots (λ a u. slot_below (get_or numbers a 0) (number_is a u).below) slots_apart

  pub marks_fit : Few Short (marks_of w)
  unfolding marks_of
  marks_fit =
      marks_few numbers (bookings w) (omega (arith, ledger.sound.bookings_most)) (omega (arith, marks_most)) (λ a u. (number_is a u).below)

  pub marks_of_right : MarksRight (day_of w).bookings (marks_of w)
  unfolding marks_of
  marks_of_right =
      let slot : (a : ℕ) → a < length numbers → slot_in (day_of w).bookings (get_or numbers a 0) ≡ slot_of w (get_or numbers a 0) =
      λ a u. slot_told w (day_of w) refl ledger (get_or numbers a 0) (number_is a u).below in
      record {
        some = some_marked;
        genesis = genesis_first;
        rising = chosen_rising (is_marked w) (bookings w);
        below = λ a u. omega (arith, (number_is a u).below, bookings_told w (day_of w) refl ledger);
        apart = λ a b l u e. slots_apart a b l u (sym (slot a (omega arith)) ∙ e ∙ slot b u);
      }

-- how many bytes they take, on any words
pub length_second : (w : List ℕ) → length (file_of Second w) ≡ length (day_file w) + (2 + 2 * length (marks_of w))
length_second w =
    omega (
      arith,
      length-append (day_file w) (marks_section (marks_of w)),
      length_counted number_bytes (marks_of w),
      length_joined_even number_bytes 2 (length_high_first 2) (marks_of w),
    )

-- ---- the file of a ledger

module _ (w : List ℕ) (ledger : Ledger w) (named : Names64 w) (day : decode (day_file w) ≡ day_of w) where
  -- with any good marks behind it
  pub with_marks_good : (marks : List ℕ) → Few Short marks → MarksRight (day_of w).bookings marks → good_second (day_file w ++ marks_section marks) ≡ true
  with_marks_good marks few right =
      let read = marks_read marks few in
      joined_good (day_file w) (marks_section marks) (day_file_good w ledger named) (ap marks_section (sym read))
      (right_marks _ _ (subst (λ l. MarksRight (decode (day_file w)).bookings l) (sym read) (subst (λ (d : Day). MarksRight d.bookings marks) (sym day) right)))
