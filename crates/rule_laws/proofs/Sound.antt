-- The test `is_sound` and the statement `Sound` agree. The test goes by rows, and each field of the statement is read off the rules of the row that it is about.
use mathlib.Core.Path.{◌≡◌, sym, ◌∙◌}
use mathlib.Core.Bool.{Bool, true}
use mathlib.Core.List.{List, [], ◌∷◌}
use mathlib.Core.Logic.{◌≢◌, Ne-symm}
use Prim.Native.Nat.{ℕ, ◌≤◌, ◌<◌}
use native.Mathlib.Omega.{arith}
use lib.ListN.{get_or}
use Rattle.loops.specs.Search.{all}
use Rattle.loops.proofs.Search.{all→, →all}
use Rattle.rules.specs.IsSound.{header_good, record_row, record_rows, slot_good, is_sound}
use Rattle.rules.specs.Sound.{Sound}
use Rattle.rules.specs.RowRules.{HeaderRules, Genesis, RulesBelow, RulesFrom, RecordRules, SlotRules}
use Rattle.rules.specs.Layout.{slots, bookings, name_of, slot_of, ordinal_of, mark_of}
use Rattle.loops.proofs.Bools.{row_at, row_by}
use Rattle.rule_laws.proofs.Bookings.{either_order}
use Rattle.rule_laws.proofs.RowRules.{
  header_good→Rules,
  Rules→headerGood,
  record_row→Rules,
  Rules→recordRow,
  slot_good→Rules,
  Rules→slotGood,
}

abbrev sound_tests : List ℕ → List Bool
sound_tests w = header_good w ∷ all (record_row w) record_rows ∷ all (slot_good w) slots ∷ []

-- ---- from the test to the statement

module _ (w : List ℕ) (e : is_sound w ≡ true) where
  sound_at : (k : ℕ) → get_or (sound_tests w) k true ≡ true
  unfolding is_sound
  sound_at = row_at (sound_tests w) e

  header_rules : HeaderRules w
  header_rules = header_good→Rules w (sound_at 0)

  record_rules : (i : ℕ) → i < record_rows → RecordRules w i
  record_rules i u = record_row→Rules w i (all→ (record_row w) record_rows (sound_at 1) i u)

  slot_rules : (s : ℕ) → s < slots → SlotRules w s
  slot_rules s u = slot_good→Rules w s (all→ (slot_good w) slots (sound_at 2) s u)

  rules_below : (i : ℕ) → i < bookings w → RulesBelow w i
  rules_below i u = (record_rules i (omega (arith, header_rules.bookings_most))).below u

  rules_from : (i : ℕ) → bookings w ≤ i → i < record_rows → RulesFrom w i
  rules_from i l u = (record_rules i u).from l

  genesis_rules : Genesis w
  genesis_rules = (rules_below 0 header_rules.bookings_least).genesis (omega arith)

  ordinal_new_lem : (i : ℕ) → i < bookings w → (j : ℕ) → j < i → ordinal_of w j ≢ 0 → ordinal_of w j ≢ ordinal_of w i
  ordinal_new_lem i u j l q r = (rules_below i u).ordinal_new j l (λ z. q (r ∙ z)) r

  mark_new_lem : (i : ℕ) → i < bookings w → (j : ℕ) → j < i → mark_of w j ≡ 1 → mark_of w i ≡ 1 → slot_of w j ≢ slot_of w i
  mark_new_lem i u j l mj mi = (rules_below i u).mark_new j l mi mj

  pub is_sound→Sound : Sound w
  is_sound→Sound = record {
    bookings_least = header_rules.bookings_least;
    bookings_most = header_rules.bookings_most;
    setting = header_rules.setting;
    polls_most = header_rules.polls_most;
    spare_zero = header_rules.spare_zero;
    genesis_name = genesis_rules.name;
    genesis_slot = genesis_rules.slot;
    genesis_parents = genesis_rules.parents;
    genesis_state = genesis_rules.state;
    genesis_ordinal = genesis_rules.ordinal;
    genesis_mark = genesis_rules.mark;
    name_alone = either_order (bookings w) (λ i j. name_of w i ≢ name_of w j) (λ i j. Ne-symm) (λ i u. (rules_below i u).name_new);
    booking = λ i l u. (rules_below i u).booking l;
    ordinal_most = λ i u. (rules_below i u).ordinal_most;
    ordinal_held = (rules_from (bookings w) (omega arith) (omega (arith, header_rules.bookings_most))).ordinal_held (omega arith);
    ordinal_alone = either_order (bookings w) (λ i j. ordinal_of w i ≢ 0 → ordinal_of w i ≢ ordinal_of w j) (λ i j r q d. r (λ z. q (d ∙ z)) (sym d)) ordinal_new_lem;
    mark_known = λ i u. (rules_below i u).mark_known;
    mark_alone = either_order (bookings w) (λ i j. mark_of w i ≡ 1 → mark_of w j ≡ 1 → slot_of w i ≢ slot_of w j) (λ i j r mj mi same. r mi mj (sym same)) mark_new_lem;
    rest_zero = λ i f l u v. (rules_from i l (omega arith)).zero u f v;
    empty_entry = λ s u. (slot_rules s u).empty;
    held_entry = λ s u. (slot_rules s u).held;
    confidence_most = λ i u. (rules_below i u).confidence_most;
    counter_most = λ s u. (slot_rules s u).counter_most;
  }

-- the same from the three tests
pub tests→Sound : (w : List ℕ) → header_good w ≡ true → all (record_row w) record_rows ≡ true → all (slot_good w) slots ≡ true → Sound w
unfolding is_sound
tests→Sound w header records entries = is_sound→Sound w (row_by (sound_tests w) header records entries)

-- ---- from the statement to the test

module _ (w : List ℕ) (sound : Sound w) where
  pub header_kept_lem : HeaderRules w
  header_kept_lem = record {
    bookings_least = sound.bookings_least;
    bookings_most = sound.bookings_most;
    setting = sound.setting;
    polls_most = sound.polls_most;
    spare_zero = sound.spare_zero;
  }

  genesis_kept : Genesis w
  genesis_kept = record {
    name = sound.genesis_name;
    slot = sound.genesis_slot;
    parents = sound.genesis_parents;
    state = sound.genesis_state;
    ordinal = sound.genesis_ordinal;
    mark = sound.genesis_mark;
  }

  pub record_kept : (i : ℕ) → RecordRules w i
  record_kept i = record {
    below = λ u. record {
      genesis = λ z. genesis_kept;
      booking = λ l. sound.booking i l u;
      name_new = λ j l. sound.name_alone j i (omega arith) u (omega arith);
      ordinal_most = sound.ordinal_most i u;
      ordinal_new = λ j l q r. sound.ordinal_alone i j u (omega arith) (omega arith) q (sym r);
      mark_known = sound.mark_known i u;
      mark_new = λ j l mi mj. sound.mark_alone j i (omega arith) u (omega arith) mj mi;
      confidence_most = sound.confidence_most i u;
    };
    from = λ l. record { zero = λ u f v. sound.rest_zero i f l u v; ordinal_held = λ here. sound.ordinal_held };
  }

  pub slot_kept_lem : (s : ℕ) → s < slots → SlotRules w s
  slot_kept_lem s u = record { empty = sound.empty_entry s u; held = sound.held_entry s u; counter_most = sound.counter_most s u }

  pub Sound→isSound : is_sound w ≡ true
  unfolding is_sound
  Sound→isSound =
      row_by (sound_tests w) (Rules→headerGood w header_kept_lem) (→all (record_row w) record_rows (λ i u. Rules→recordRow w i (record_kept i)))
      (→all (slot_good w) slots (λ s u. Rules→slotGood w s (slot_kept_lem s u)))
