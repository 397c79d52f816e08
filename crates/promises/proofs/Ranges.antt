-- Every number answered lies in its range: a refused call has value 0 or a row, and a taken reading is that of a booking of a sound workspace.
-- Rests on the bounds of the readings. Assumes nothing.
use Rattle.std.specs.Prelude.{Err, Ok}
use mathlib.Core.Path.{◌≡◌, refl, ap, subst}
use mathlib.Core.List.{List}
use mathlib.Core.Logic.{◌≢◌}
use Prim.Native.Nat.{ℕ, ◌<◌, ◌≤◌}
use native.Mathlib.Decide.{ℕ_discrete}
use native.Mathlib.Omega.{arith}
use lib.IntN.{ℤ, pos, nat_abs}
use lib.ListN.{length}
use Rattle.loops.specs.Total.{bit}
use Rattle.terms.specs.Answers.{number, value, Answer}
use Rattle.rules.specs.Layout.{bookings, setting_in, confidence_of}
use Rattle.rules.specs.Readings.{query_of, accepted_of, lead_of, size_of}
use Rattle.rules.specs.Book.{look_up, number_of}
use Rattle.rules.specs.Calls.{reading_call}
use Rattle.rules.specs.Sound.{Ledger}
use Rattle.rule_laws.proofs.Calls.{refusal_number_within, number_refused, value_refused}
use Rattle.rule_laws.proofs.Lookup.{found_below_lem}
use Rattle.rule_laws.proofs.Readings.{query_le, accepted_le, confidence_le, lead_le, size_least, size_most}
use Rattle.terms.specs.declared.form.Form.{Form}
use Rattle.terms.specs.declared.form.Form.TheVariants.{First, Second}
use Rattle.day_file.specs.Bytes.{day_file, file_of}
use Rattle.day_file.specs.Calls.{words_in}
use Rattle.day_file.proofs.Lengths.{edition_length_most, day_file_least, day_file_most}
use Rattle.name_index.proofs.Probing.{found_of}
use Rattle.promises.specs.Run.{outcome_of}
use Rattle.promises.specs.Damage.{NamesDamage}
use Rattle.promises.specs.DayFile.{least_file, most_file, SecondLength}
use Rattle.promises.specs.MoveFile.{other_form}
use Rattle.promises.specs.Ranges.{Between, Ranges}
use Rattle.promises.proofs.Damage.{damage_named}
use Rattle.promises.proofs.Taken.{reading_taken, write_taken, read_value, move_taken, move_number, build_taken, enter_taken, find_taken}
use Rattle.promises.proofs.SecondForm.{second_length}
use Rattle.promises.proofs.Forms.{made_ledger}
use Rattle.promises.proofs.MoveFile.{moved_is}

number_le : (a : Answer) → number a ≤ 27
number_le (Ok v) = omega arith
number_le (Err r) = (refusal_number_within r).1

between : (least most n : ℕ) → least ≤ n → n ≤ most → Between least most (pos n)
between least most n l u = record { number = n; is = refl; above = l; below = u }

-- ---- a refused call has value 0, or with 14 and 15 a row

refused_row : (w : List ℕ) (a : Answer) → NamesDamage w (number a) (value a) → number a ≢ 0 → Between 0 512 (value a)
refused_row w a names h = go (ℕ_discrete (number a) 14) (ℕ_discrete (number a) 15)
  where
    go : Dec (number a ≡ 14) → Dec (number a ≡ 15) → Between 0 512 (value a)
    go (yes e) d =
        let named = names.damaged_record e in
        rw named.1 (between 0 512 named.0 (omega arith) (omega (arith, named.2.within)))
    go (no k) (yes e) =
        let named = names.damaged_slot e in
        rw named.1 (between 0 512 named.0 (omega arith) (omega (arith, named.2.within)))
    go (no k) (no l) = rw (value_refused a h k l) (between 0 512 0 (omega arith) (omega arith))

-- ---- what holds of the reading at every booking of a ledger holds of the value of a taken one

module _ (P : ℤ → Type 0) (f : ℕ → ℤ) (w : List ℕ) (name : ℕ) (holds : (i : ℕ) → Ledger w → i < bookings w → P (f i)) where
  value_taken : number (reading_call f w name) ≡ 0 → P (value (reading_call f w name))
  value_taken = go (reading_call f w name) refl
    where
      go : (a : Answer) → reading_call f w name ≡ a → number a ≡ 0 → P (value a)
      go (Ok v) e z =
          let taken = reading_taken f w name v e in
          subst P taken.2 (holds (number_of (look_up w name)) taken.0 (found_below_lem w name _ taken.1))
      go (Err r) e z = absurd (number_refused r z)

-- a number up to the most
value_most : (most : ℕ) (g : ℕ → ℕ) (w : List ℕ) (name : ℕ) → ((i : ℕ) → Ledger w → i < bookings w → g i ≤ most)
    → number (reading_call (λ i. pos (g i)) w name) ≡ 0 → Between 0 most (value (reading_call (λ i. pos (g i)) w name))
value_most most g w name bound =
    value_taken (Between 0 most) (λ i. pos (g i)) w name (λ i ledger h. between 0 most (g i) (omega arith) (bound i ledger h))

-- a number from minus the most to the most
value_within : (most : ℕ) (f : ℕ → ℤ) (w : List ℕ) (name : ℕ) → ((i : ℕ) → Ledger w → i < bookings w → nat_abs (f i) ≤ most)
    → number (reading_call f w name) ≡ 0 → nat_abs (value (reading_call f w name)) ≤ most
value_within most f w name bound = value_taken (λ z. nat_abs z ≤ most) f w name bound

-- ---- a file

file_between : (form : Form) (w : List ℕ) → Ledger w → Between (least_file form) (most_file form) (pos (length (file_of form w)))
unfolding SecondLength
file_between First w ledger =
    between _ _ (length (day_file w)) (omega (arith, day_file_least w ledger)) (omega (arith, day_file_most w ledger, edition_length_most (setting_in w).edition))
file_between Second w ledger =
    let more = second_length w ledger in
    between _ _ (length (file_of Second w)) (omega (arith, more, day_file_least w ledger))
    (omega (arith, more, day_file_most w ledger, edition_length_most (setting_in w).edition))

-- ---- the ranges

pub ranges : Ranges
ranges = record {
  numbers = λ c w. omega (arith, number_le (outcome_of c w).answer);
  refused = λ c w. refused_row w (outcome_of c w).answer (damage_named.calls c w);
  query = λ w name. value_most _ (λ i. bit (query_of w i)) w name (λ i ledger h. omega (arith, query_le w i));
  accepted = λ w name. value_most _ (λ i. bit (accepted_of w i)) w name (λ i ledger h. omega (arith, accepted_le w i));
  lead = λ w name. value_within _ (lead_of w) w name (λ i ledger h. omega (arith, lead_le w ledger.sound i h));
  confidence = λ w name. value_most _ (confidence_of w) w name (λ i ledger h. omega (arith, confidence_le w ledger.sound i h));
  size = λ w name taken.
      value_taken (Between _ _) (λ i. pos (size_of w i)) w name
      (λ i ledger h.
      between _ _ (size_of w i) (omega (arith, size_least w ledger.sound i h)) (omega (arith, size_most w ledger.sound i, ledger.sound.bookings_most)))
      taken;
  writing = λ form w buffer taken.
      let file = write_taken form w buffer taken in
      rw file.1 (file_between form w file.0);
  reading_file = read_value;
  moving_numbers = move_number;
  moving = λ form file out taken.
      let o = move_taken form file out taken in
      rw (ap (λ x. value x.answer) o.3, moved_is form file o.0) (file_between (other_form form) (words_in form file) (made_ledger form file o.0));
  building = λ w index taken. ap (λ o. value o.answer) (build_taken w index taken).2;
  entering = λ w index taken. ap (λ o. value o.answer) (enter_taken w index taken).3;
  finding = λ w index name taken.
      let found = find_taken w index name taken in
      let of = found_of w index name found.0 found.2 found.3 in
      rw found.4 (between _ _ found.0 (omega arith) (omega (arith, of.0, found.1.sound.bookings_most)));
}
