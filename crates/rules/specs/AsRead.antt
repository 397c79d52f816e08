-- Document 01, "Readings", CR 5 and CR 7, as people read them: what it is to meet the rule of acceptance, and what a rival is.
-- rule_laws/proofs/Marked.antt and rule_laws/proofs/Readings.antt show that the definitions of Marks.antt and Readings.antt say the same on sound workspaces.
use Rattle.std.specs.Prelude.{◌≡◌, List, ◌≢◌, ◌⊎◌, ℕ, ◌<◌, ◌≤◌}
use Rattle.rules.specs.Layout.{setting_in, slot_of, confidence_of, mark_of, preferred_in, last_in, counter_in, held_in}
use Rattle.rules.specs.Ancestry.{Parent}
use Rattle.rules.specs.Sound.{BookingOf}

-- ---- the rule of acceptance, with the parents' acceptance read from their marks

-- the counter of the booking's slot is above β, and in edition 1 at least β
pub record Enough (w : List ℕ) (i beta : ℕ) : Type 0 where
  pub above : (setting_in w).edition ≢ 1 → beta < counter_in w (slot_of w i)
  pub at_least : (setting_in w).edition ≡ 1 → beta ≤ counter_in w (slot_of w i)

-- all parents are accepted, the slot has one booking and its counter is enough for β1
pub record FirstArm (w : List ℕ) (i : ℕ) : Type 0 where
  pub parents : (p : ℕ) → Parent w i p → mark_of w p ≡ 1
  pub alone : held_in w (slot_of w i) ≡ 1
  pub counter : Enough w i (setting_in w).beta1

-- the booking is both preferred and last in its slot and the counter is enough for β2
pub record SecondArm (w : List ℕ) (i : ℕ) : Type 0 where
  pub preferred : preferred_in w (slot_of w i) ≡ i
  pub last : last_in w (slot_of w i) ≡ i
  pub counter : Enough w i (setting_in w).beta2

-- the genesis meets it; others exactly by one of the arms
abbrev pub Meets : List ℕ → ℕ → Type 0
Meets w i = (i ≡ 0) ⊎ FirstArm w i ⊎ SecondArm w i

-- ---- rivals

-- another booking of the slot
pub record Rival (w : List ℕ) (i j : ℕ) : Type 0 where
  pub in_slot : BookingOf w (slot_of w i) j
  pub another : j ≢ i

-- ---- a mark is earned

-- it meets the rule, and no other in its slot is marked
pub record Earned (w : List ℕ) (i : ℕ) : Type 0 where
  pub meets : Meets w i
  pub unrivalled : (j : ℕ) → Rival w i j → mark_of w j ≢ 1

-- ---- lead

-- the greatest confidence among the slot's other bookings, or 0
pub record MostOfRivals (w : List ℕ) (i m : ℕ) : Type 0 where
  pub above : (j : ℕ) → Rival w i j → confidence_of w j ≤ m
  pub held : (m ≡ 0) ⊎ ((j : ℕ) × Rival w i j × (confidence_of w j ≡ m))
