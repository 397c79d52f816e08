-- The value with 14 and 15 is the lowest row that breaks a rule: the test searches the rows from 0 on, and nothing after the test gives these numbers.
-- Rests on specs/Damage.antt and on the laws of rows and of searches. Assumes nothing.
use Rattle.std.specs.Prelude.{Err, None, Option, Some}
use mathlib.Core.Path.{◌≡◌, refl, sym, ◌∙◌}
use mathlib.Core.Bool.{Bool, true, false, not, ◌&&◌, cond, true≢false}
use mathlib.Core.List.{List}
use Prim.Native.Nat.{ℕ, ◌<◌}
use native.Mathlib.Omega.{arith}
use lib.IntN.{ℤ}
use lib.ListN.{length}
use lib.Dec.{eqb}
use borrow.Author.Tests.{eqb-false, not-true, not-false}
use Rattle.loops.specs.Search.{first}
use Rattle.loops.proofs.Bools.{and_left, and_right}
use Rattle.loops.proofs.Search.{→all, first_le, first_hit, first_before}
use Rattle.terms.specs.declared.setting.Setting.{Setting}
use Rattle.terms.specs.declared.answer.Refusal.TheVariants.{WrongLength, DamagedHeader, DamagedRecord, DamagedSlot, WrongIndex}
use Rattle.terms.specs.Answers.{number, value, done, Answer}
use Rattle.rules.specs.Layout.{size, slots}
use Rattle.rules.specs.IsSound.{header_good, record_row, record_rows, bad_record, slot_good, bad_slot}
use Rattle.rules.specs.RowRules.{RecordRules, SlotRules}
use Rattle.rules.specs.Open.{opened}
use Rattle.rules.specs.Book.{look_up, number_of, booked}
use Rattle.rules.specs.Poll.{polled}
use Rattle.rules.specs.Readings.{reading_of}
use Rattle.rules.specs.Listing.{list_call}
use Rattle.rules.specs.Calls.{open_answer, open_call, damage_of, test_of, beside_of, unless_stopped, tested, book_answer, book_call, asked_of, poll_answer, poll_call, reading_call}
use Rattle.terms.specs.declared.form.Form.{Form}
use Rattle.day_file.specs.Bytes.{file_of}
use Rattle.day_file.specs.Calls.{laid, write_file_answer, write_file_call, good_in, words_in, read_file_answer, read_file_call}
use Rattle.name_index.specs.Index.{look_up_in, newest, with_number, built}
use Rattle.name_index.specs.Calls.{is_wrong_index, index_tested, enter_answer, index_build_call, index_enter_call, index_find_call}
use Rattle.rule_laws.proofs.Sound.{tests→Sound, header_kept_lem, record_kept, slot_kept_lem}
use Rattle.rule_laws.proofs.RowRules.{Rules→headerGood, record_row→Rules, Rules→recordRow, slot_good→Rules, Rules→slotGood}
use Rattle.rule_laws.proofs.Calls.{leaves_answer, hands_over_answer}
use Rattle.rule_laws.proofs.Tested.{tested_in_order, beside_in_order, beside_right}
use Rattle.promises.specs.Run.{Call, Open, Book, Poll, Ask, WriteFile, ReadFile, IndexBuild, IndexEnter, IndexFind, outcome_of}
use Rattle.promises.specs.Damage.{SoundByRows, Lowest, NamesDamage, DamageNamed}

pub sound_by_rows : SoundByRows
unfolding SoundByRows
sound_by_rows w = (
  λ sound. record { header_kept = header_kept_lem w sound; records_kept = λ row u. record_kept w sound row; slots_kept = slot_kept_lem w sound },
  λ kept.
      tests→Sound w (Rules→headerGood w kept.header_kept) (→all (record_row w) record_rows (λ row u. Rules→recordRow w row (kept.records_kept row u)))
      (→all (slot_good w) slots (λ row u. Rules→slotGood w row (kept.slots_kept row u))),
)

-- ---- a search over rows finds the lowest that breaks a rule

lowest : (good : ℕ → Bool) {Rules : ℕ → Type 0} (end : ℕ) → ((i : ℕ) → good i ≡ true → Rules i) → ((i : ℕ) → Rules i → good i ≡ true)
    → not (eqb (first (λ i. not (good i)) end) end) ≡ true → Lowest Rules end (first (λ i. not (good i)) end)
lowest good end to from e =
    let bad : ℕ → Bool = λ i. not (good i) in
    let within : first bad end < end = omega (arith, first_le bad end, eqb-false (first bad end) end (not-true _ e)) in
    record {
      within = within;
      breaks = λ rules. true≢false (sym (from (first bad end) rules) ∙ not-true _ (first_hit bad end within));
      kept = λ j l. to j (not-false (good j) (first_before bad end j l));
    }

record_lowest : (w : List ℕ) → not (eqb (bad_record w) record_rows) ≡ true → Lowest (RecordRules w) record_rows (bad_record w)
unfolding bad_record
record_lowest w = lowest (record_row w) record_rows (record_row→Rules w) (Rules→recordRow w)

slot_lowest : (w : List ℕ) → not (eqb (bad_slot w) slots) ≡ true → Lowest (SlotRules w) slots (bad_slot w)
unfolding bad_slot
slot_lowest w = lowest (slot_good w) slots (slot_good→Rules w) (Rules→slotGood w)

-- ---- other numbers name nothing

abbrev is_other : Answer → Bool
is_other a = not (eqb (number a) 14) && not (eqb (number a) 15)

other_cond : (t : Bool) (a b : Answer) → is_other (cond t a b) ≡ cond t (is_other a) (is_other b)
other_cond true a b = refl
other_cond false a b = refl

both_true : (t : Bool) → cond t true true ≡ true
both_true true = refl
both_true false = refl

other_asked : (f : Option ℕ) (rest : ℕ → Answer) → ((i : ℕ) → is_other (rest i) ≡ true) → is_other (asked_of f rest) ≡ true
other_asked (Some i) rest other = other i
other_asked None rest other = refl

module _ (w : List ℕ) where
  other_names : (a : Answer) → is_other a ≡ true → NamesDamage w (number a) (value a)
  other_names a e =
      record {
        damaged_record = λ q. absurd (eqb-false (number a) 14 (not-true _ (and_left (not (eqb (number a) 14)) _ e)) q);
        damaged_slot = λ q. absurd (eqb-false (number a) 15 (not-true _ (and_right (not (eqb (number a) 14)) _ e)) q);
      }

  -- what begins with the test
  tested_names : (rest : Answer) → is_other rest ≡ true → NamesDamage w (number (tested test_of w rest)) (value (tested test_of w rest))
  tested_names rest other =
      rw (tested_in_order w rest)
      (go (not (eqb (length w) size)) (not (header_good w)) (not (eqb (bad_record w) record_rows)) (not (eqb (bad_slot w) slots)) (record_lowest w) (slot_lowest w))
    where
      answer : (long header records entries : Bool) → Answer
      answer long header records entries =
          cond long (Err WrongLength)
          (cond header (Err DamagedHeader)
          (cond records (Err (DamagedRecord (bad_record w)))
          (cond entries (Err (DamagedSlot (bad_slot w)))
          rest)))

      go : (long header records entries : Bool)
          → (records ≡ true → Lowest (RecordRules w) record_rows (bad_record w))
          → (entries ≡ true → Lowest (SlotRules w) slots (bad_slot w))
          → NamesDamage w (number (answer long header records entries)) (value (answer long header records entries))
      go true header records entries broken bad = other_names (Err WrongLength) refl
      go false true records entries broken bad = other_names (Err DamagedHeader) refl
      go false false true entries broken bad = record { damaged_record = λ q. (bad_record w, refl, broken refl); damaged_slot = λ q. absurd (omega arith) }
      go false false false true broken bad = record { damaged_record = λ q. absurd (omega arith); damaged_slot = λ q. (bad_slot w, refl, bad refl) }
      go false false false false broken bad = other_names rest other

-- ---- the calls

open_names : (w : List ℕ) (s : Setting) → NamesDamage w (number (open_call w s).answer) (value (open_call w s).answer)
unfolding open_call
open_names w s = rw (leaves_answer (open_answer w s) w (opened s)) (other_names w (open_answer w s) (simp (other_cond, both_true)))

book_names : (w : List ℕ) (name slot : ℕ) (parents : List ℕ)
    → NamesDamage w (number (book_call w name slot parents).answer) (value (book_call w name slot parents).answer)
unfolding book_call
book_names w name slot parents =
    rw (leaves_answer (book_answer test_of w name slot parents) w (booked w name slot parents)) (tested_names w _ (simp (other_cond, both_true)))

poll_names : (w : List ℕ) (name : ℕ) (votes : List ℕ) → NamesDamage w (number (poll_call w name votes).answer) (value (poll_call w name votes).answer)
unfolding poll_call
poll_names w name votes =
    rw (leaves_answer (poll_answer test_of w name votes) w (polled w (number_of (look_up w name)) votes))
    (tested_names w _ (other_asked (look_up w name) _ (λ i. simp (other_cond, both_true))))

reading_names : (f : ℕ → ℤ) (w : List ℕ) (name : ℕ) → NamesDamage w (number (reading_call f w name)) (value (reading_call f w name))
reading_names f w name = tested_names w _ (other_asked (look_up w name) _ (λ i. refl))

write_names : (form : Form) (w buffer : List ℕ) → NamesDamage w (number (write_file_call form w buffer).answer) (value (write_file_call form w buffer).answer)
unfolding write_file_call
write_names form w buffer =
    rw (hands_over_answer (write_file_answer test_of form w buffer) w buffer (laid (file_of form w) buffer)) (tested_names w _ (simp (other_cond, both_true)))

read_names : (form : Form) (w file : List ℕ) → NamesDamage w (number (read_file_call form w file).answer) (value (read_file_call form w file).answer)
unfolding read_file_call
read_names form w file =
    rw (leaves_answer (read_file_answer (good_in form) w file) w (words_in form file))
    (other_names w (read_file_answer (good_in form) w file) (simp (other_cond, both_true)))

-- what begins with the test of words and index
index_names : (w index : List ℕ) (rest : Answer) → is_other rest ≡ true
    → NamesDamage w (number (index_tested damage_of w index rest)) (value (index_tested damage_of w index rest))
unfolding beside_of
index_names w index rest other = go (is_wrong_index index)
  where
    go : (is_wrong : Bool) → let a = unless_stopped (beside_of is_wrong WrongIndex w) rest in NamesDamage w (number a) (value a)
    go true = rw (beside_in_order true WrongIndex w rest) (other_names w (cond (not (eqb (length w) size)) (Err WrongLength) (Err WrongIndex)) (simp (other_cond, both_true)))
    go false = rw (beside_right WrongIndex w) (tested_names w rest other)

build_names : (w index : List ℕ) → NamesDamage w (number (index_build_call w index).answer) (value (index_build_call w index).answer)
unfolding index_build_call
build_names w index = rw (hands_over_answer (index_tested damage_of w index done) w index (built w)) (index_names w index done refl)

enter_names : (w index : List ℕ) → NamesDamage w (number (index_enter_call w index).answer) (value (index_enter_call w index).answer)
unfolding index_enter_call
enter_names w index =
    rw (hands_over_answer (enter_answer damage_of w index) w index (with_number w (newest w) index)) (index_names w index _ (simp (other_cond, both_true)))

find_names : (w index : List ℕ) (name : ℕ) → NamesDamage w (number (index_find_call w index name)) (value (index_find_call w index name))
unfolding index_find_call
find_names w index name = index_names w index _ (other_asked (look_up_in w index name) _ (λ i. refl))

calls_name : (c : Call) (w : List ℕ) → NamesDamage w (number (outcome_of c w).answer) (value (outcome_of c w).answer)
unfolding outcome_of
calls_name (Open s) w = open_names w s
calls_name (Book name slot parents) w = book_names w name slot parents
calls_name (Poll name votes) w = poll_names w name votes
calls_name (Ask what name) w = reading_names (reading_of what w) w name
calls_name (WriteFile form buffer) w = write_names form w buffer
calls_name (ReadFile form file) w = read_names form w file
calls_name (IndexBuild index) w = build_names w index
calls_name (IndexEnter index) w = enter_names w index
calls_name (IndexFind index name) w = find_names w index name

list_names : (w : List ℕ) → NamesDamage w (number (list_call w)) (value (list_call w))
unfolding list_call
list_names w = tested_names w done refl

pub damage_named : DamageNamed
damage_named = record { calls = calls_name; list = list_names }
