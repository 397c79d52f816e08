-- What the test of a workspace tells: nothing stops a call exactly on a ledger, and there every call but open is what follows the test.
use Rattle.std.specs.Prelude.{Err, None, Ok, Some}
use mathlib.Core.Path.{◌≡◌, refl, sym, ap, ◌∙◌}
use mathlib.Core.Bool.{Bool, true, false, not, cond, true≢false}
use mathlib.Core.List.{List}
use mathlib.Core.Logic.{◌≢◌}
use Prim.Native.Nat.{ℕ}
use lib.IntN.{ℤ}
use lib.ListN.{length}
use lib.Dec.{eqb}
use borrow.Author.Tests.{eqb-true, eq-eqb, ne_eqb}
use Rattle.terms.specs.declared.answer.Refusal.{Refusal}
use Rattle.terms.specs.declared.answer.Refusal.TheVariants.{WrongLength, DamagedHeader, DamagedRecord, DamagedSlot, UnknownName}
use Rattle.terms.specs.Answers.{outcome, leaves, handover, hands_over, Answer, Tested}
use Rattle.rules.specs.Layout.{size, slots}
use Rattle.rules.specs.IsSound.{header_good, record_row, record_rows, bad_record, slot_good, bad_slot}
use Rattle.rules.specs.Sound.{Ledger}
use Rattle.rules.specs.Book.{look_up}
use Rattle.rules.specs.Calls.{damage_of, test_of, beside_of, unless_stopped, tested, asked_of, reading_call}
use Rattle.loops.specs.Search.{all}
use Rattle.loops.proofs.Search.{→all}
use Rattle.rule_laws.proofs.RowRules.{Rules→headerGood, Rules→recordRow, Rules→slotGood}
use Rattle.rule_laws.proofs.Sound.{tests→Sound, header_kept_lem, record_kept, slot_kept_lem}

-- ---- what stops

stopped_cond : (t : Bool) (r : Refusal) (more : Tested) (rest : Answer) → unless_stopped (cond t (Err r) more) rest ≡ cond t (Err r) (unless_stopped more rest)
stopped_cond true r more rest = refl
stopped_cond false r more rest = refl

-- a call's refusals 2, 14 and 15 in their order, before its rest
pub damaged_in_order : (w : List ℕ) (rest : Answer)
    → unless_stopped (damage_of w) rest
    ≡ cond (not (header_good w)) (Err DamagedHeader)
    (cond (not (eqb (bad_record w) record_rows)) (Err (DamagedRecord (bad_record w)))
    (cond (not (eqb (bad_slot w) slots)) (Err (DamagedSlot (bad_slot w)))
    rest))
unfolding damage_of
damaged_in_order w rest = simp stopped_cond

-- 1 before them
pub tested_first_length : (w : List ℕ) (rest : Answer)
    → tested test_of w rest ≡ cond (not (eqb (length w) size)) (Err WrongLength) (unless_stopped (damage_of w) rest)
unfolding test_of
tested_first_length w rest = stopped_cond (not (eqb (length w) size)) WrongLength (damage_of w) rest

-- and, where a second buffer has a length of its own, its refusal between them
pub beside_in_order : (is_wrong : Bool) (r : Refusal) (w : List ℕ) (rest : Answer)
    → unless_stopped (beside_of is_wrong r w) rest
    ≡ cond (not (eqb (length w) size)) (Err WrongLength)
    (cond is_wrong (Err r)
    (unless_stopped (damage_of w) rest))
unfolding beside_of
beside_in_order is_wrong r w rest = simp stopped_cond

-- all four in their order
pub tested_in_order : (w : List ℕ) (rest : Answer)
    → tested test_of w rest
    ≡ cond (not (eqb (length w) size)) (Err WrongLength)
    (cond (not (header_good w)) (Err DamagedHeader)
    (cond (not (eqb (bad_record w) record_rows)) (Err (DamagedRecord (bad_record w)))
    (cond (not (eqb (bad_slot w) slots)) (Err (DamagedSlot (bad_slot w)))
    rest)))
unfolding test_of damage_of
tested_in_order w rest = simp stopped_cond

pub stop_tested : (w : List ℕ) (r : Refusal) (rest : Answer) → test_of w ≡ Err r → tested test_of w rest ≡ Err r
stop_tested w r rest e = ap (λ t. unless_stopped t rest) e

-- a writing call that is stopped leaves every word
pub stop_leaves : (w after : List ℕ) (r : Refusal) (rest : Answer) → test_of w ≡ Err r → leaves (tested test_of w rest) w after ≡ outcome (Err r) w
stop_leaves w after r rest e = ap (λ a. leaves a w after) (stop_tested w r rest e)

-- and one that hands bytes over every byte
pub stop_hands_over : (w words before after : List ℕ) (r : Refusal) (rest : Answer) → test_of w ≡ Err r
    → hands_over (tested test_of w rest) words before after ≡ handover (Err r) words before
stop_hands_over w words before after r rest e = ap (λ a. hands_over a words before after) (stop_tested w r rest e)

-- ---- the damage, case by case

module _ (w : List ℕ) where
  pub damage_header : header_good w ≡ false → Err DamagedHeader ≡ damage_of w
  unfolding damage_of
  damage_header f = rw f

  module _ (header : header_good w ≡ true) where
    pub damage_record : (row : ℕ) → row ≡ bad_record w → row ≢ record_rows → Err (DamagedRecord row) ≡ damage_of w
    unfolding damage_of
    damage_record row e h = rw (header, ← e, ne_eqb row record_rows h)

    module _ (records : record_rows ≡ bad_record w) where
      pub damage_slot : (s : ℕ) → s ≡ bad_slot w → s ≢ slots → Err (DamagedSlot s) ≡ damage_of w
      unfolding damage_of
      damage_slot s e h = rw (header, ← records, ← e, ne_eqb s slots h)

      pub damage_none : slots ≡ bad_slot w → Ok tt ≡ damage_of w
      unfolding damage_of
      damage_none e = rw (header, ← records, ← e)

-- a workspace of the right length is tested for damage
pub test_long : (w : List ℕ) → length w ≡ size → test_of w ≡ damage_of w
unfolding test_of
test_long w long = rw (eq-eqb (length w) size long)

-- ---- what is fine

abbrev is_fine : Tested → Bool
is_fine (Ok tt) = true
is_fine (Err r) = false

fine_cond : (t : Bool) (r : Refusal) (more : Tested) → cond (not t) (Err r) more ≡ Ok tt → (t ≡ true) × (more ≡ Ok tt)
fine_cond true r more e = (refl, e)
fine_cond false r more e = absurd (true≢false (sym (ap is_fine e)))

pub fine_ledger : (w : List ℕ) → test_of w ≡ Ok tt → Ledger w
unfolding test_of damage_of bad_record bad_slot
fine_ledger w e =
    let long = fine_cond (eqb (length w) size) _ _ e in
    let header = fine_cond (header_good w) _ _ long.1 in
    let records = fine_cond (all (record_row w) record_rows) _ _ header.1 in
    let entries = fine_cond (all (slot_good w) slots) _ _ records.1 in
    record {
      whole = eqb-true (length w) size long.0;
      sound = tests→Sound w header.0 records.0 entries.0;
    }

pub ledger_fine : (w : List ℕ) → Ledger w → test_of w ≡ Ok tt
unfolding test_of damage_of bad_record bad_slot
ledger_fine w l =
    rw (
      eq-eqb (length w) size l.whole,
      Rules→headerGood w (header_kept_lem w l.sound),
      →all (record_row w) record_rows (λ i u. Rules→recordRow w i (record_kept w l.sound i)),
      →all (slot_good w) slots (λ s u. Rules→slotGood w s (slot_kept_lem w l.sound s u)),
    )

-- beside a second buffer of the right length the test is the same, and what is fine has one
pub beside_right : (r : Refusal) (w : List ℕ) → beside_of false r w ≡ test_of w
unfolding beside_of test_of
beside_right r w = refl

pub beside_fine : (is_wrong : Bool) (r : Refusal) (w : List ℕ) → beside_of is_wrong r w ≡ Ok tt → (is_wrong ≡ false) × Ledger w
unfolding beside_of
beside_fine true r w e =
    let long = fine_cond (eqb (length w) size) _ _ e in
    absurd (true≢false (sym (ap is_fine long.1)))
beside_fine false r w e = (refl, fine_ledger w (sym (beside_right r w) ∙ e))

pub tested_known : (w : List ℕ) → Ledger w → (rest : Answer) → tested test_of w rest ≡ rest
tested_known w l rest = ap (λ t. unless_stopped t rest) (ledger_fine w l)

-- ---- a reading on a ledger: what is found is read, and where nothing is found the answer is refusal 10

module _ (reading : ℕ → ℤ) (w : List ℕ) (name : ℕ) (ledger : Ledger w) where
  pub reading_found : (i : ℕ) → look_up w name ≡ Some i → reading_call reading w name ≡ Ok (reading i)
  reading_found i e = rw (tested_known w ledger (asked_of (look_up w name) (λ j. Ok (reading j))), e)

  pub reading_absent : look_up w name ≡ None → reading_call reading w name ≡ Err UnknownName
  reading_absent e = rw (tested_known w ledger (asked_of (look_up w name) (λ j. Ok (reading j))), e)
