-- CR 1: what 2, 14 and 15 split among them, and what the value of 14 and 15 says. The rules of a row, in words, stand in rules/specs/RowRules.antt.
use Rattle.std.specs.Prelude.{◌≡◌, List, ◌↔◌, ℕ, ◌<◌, ℤ, pos}
use Rattle.terms.specs.Answers.{number, value}
use Rattle.rules.specs.Layout.{slots}
use Rattle.rules.specs.IsSound.{record_rows}
use Rattle.rules.specs.Sound.{Sound}
use Rattle.rules.specs.RowRules.{HeaderRules, RecordRules, SlotRules}
use Rattle.rules.specs.Listing.{list_call}
use Rattle.promises.specs.Run.{Call, outcome_of}

-- neither the header nor a row breaks a rule
pub record Undamaged (w : List ℕ) : Type 0 where
  pub header_kept : HeaderRules w
  pub records_kept : (row : ℕ) → row < record_rows → RecordRules w row
  pub slots_kept : (row : ℕ) → row < slots → SlotRules w row

-- that is soundness as document 01 says it: 2, 14 and 15 split all of it among them, and add nothing
unfoldable pub SoundByRows : Type 0
SoundByRows = (w : List ℕ) → Sound w ↔ Undamaged w

-- some row below the end breaks a rule
pub record Broken (Rules : ℕ → Type 0) (end : ℕ) : Type 0 where
  pub row : ℕ
  pub within : row < end
  pub breaks : Rules row → ⊥

-- the row is the lowest below the end that breaks a rule
pub record Lowest (Rules : ℕ → Type 0) (end row : ℕ) : Type 0 where
  pub within : row < end
  pub breaks : Rules row → ⊥
  pub kept : (lower : ℕ) → lower < row → Rules lower

-- with the number 14 the value is the lowest record row, from 0 to 512, that breaks a rule; with 15 it is the lowest such slot
pub record NamesDamage (w : List ℕ) (number : ℕ) (value : ℤ) : Type 0 where
  pub damaged_record : number ≡ 14 → (row : ℕ) × (value ≡ pos row) × Lowest (RecordRules w) record_rows row
  pub damaged_slot : number ≡ 15 → (row : ℕ) × (value ≡ pos row) × Lowest (SlotRules w) slots row

-- the value is the lowest number of a record, or slot, that breaks a rule: of every call on any words, and of the listing
pub record DamageNamed : Type 0 where
  pub calls : (c : Call) (w : List ℕ) → NamesDamage w (number (outcome_of c w).answer) (value (outcome_of c w).answer)
  pub list : (w : List ℕ) → NamesDamage w (number (list_call w)) (value (list_call w))
