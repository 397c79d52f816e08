-- Where settling starts within its bounds, each turn finds its slot fit: the preferred number is a booking's at all times, and a
-- counter rises by one at most.
use mathlib.Core.Path.{◌≡◌, ◌∙◌}
use mathlib.Core.Bool.{Bool, true, false, cond}
use mathlib.Core.List.{List}
use mathlib.Core.Logic.{⊎_elim}
use Prim.Native.Nat.{ℕ, ◌<◌}
use native.Mathlib.Decide.{ℕ_discrete}
use native.Mathlib.Omega.{arith}
use Rattle.rules.specs.Layout.{most_bookings, slot_at, slot_field, preferred_field, counter_field, slot_of, preferred_in}
use Rattle.rules.specs.Poll.{prefer, settled}
use Rattle.rule_laws.proofs.Settled.{is_above, length_prefer, word_prefer_other, preferred_prefer_same, length_settled, field_settled_kept}
use Rattle.rule_laws.proofs.SettledTurns.{Settles, SlotsFit, settled_carried}
use Rattle.rule_laws.proofs.SettledSlots.{counter_settled_le}
use Rattle.poll_writes.specs.Settling.{Settleable, Settling}

-- the preference leaves the slot fit for the rest of the turn
pub prefer_settleable : {w : List ℕ} {s j : ℕ} → Settleable w s → j < most_bookings → Settleable (prefer s j w) s
prefer_settleable {w} {s} {j} h l = record {
  whole = length_prefer s j w ∙ h.whole;
  slot_fits = h.slot_fits;
  preferred_fits = rw (preferred_prefer_same s j w (omega (arith, h.whole, h.slot_fits))) (either (is_above s j w));
  counter_fits = rw (word_prefer_other s j w (slot_at s counter_field) (λ e. omega arith)) h.counter_fits;
}
  where
    either : (b : Bool) → cond b j (preferred_in w s) < most_bookings
    either true = l
    either false = h.preferred_fits

-- the slot of booking j after the turns below j
module _ (m w : List ℕ) (n : ℕ) (h : Settling w n) (j : ℕ) (l : j < n) where
  abbrev before : List ℕ
  before = settled m j w

  abbrev place : ℕ
  place = slot_of w j

  fit : SlotsFit w j
  fit = record { whole = h.whole; few = omega (arith, h.few); fits = λ i b. h.slot_fits i (omega arith) }

  preferred_turn : (i : ℕ) (v v' : List ℕ) → i < j → Settles w v v' i → preferred_in v place < most_bookings → preferred_in v' place < most_bookings
  preferred_turn i v v' b turn e = go (ℕ_discrete place (slot_of w i))
    where
      go : Dec (place ≡ slot_of w i) → preferred_in v' place < most_bookings
      go (yes q) =
          ⊎_elim
          (λ (f : preferred_in v' (slot_of w i) ≡ i). rw (q, f) (omega (arith, h.few)))
          (λ (f : preferred_in v' (slot_of w i) ≡ preferred_in v (slot_of w i)). rw (q, f) (rw q at e))
          turn.preferred
      go (no d) = rw (turn.others place preferred_field d (omega arith)) e

  preferred_before : preferred_in before place < most_bookings
  preferred_before = settled_carried m w (λ i v. preferred_in v place < most_bookings) j fit (λ i v e b. b) preferred_turn (h.preferred_fits j l)

  pub settled_settleable : Settleable before (slot_of before j)
  settled_settleable =
      rw (field_settled_kept m j w j slot_field (omega (arith, h.few)) (omega arith))
      (record {
        whole = length_settled m j w ∙ h.whole;
        slot_fits = h.slot_fits j l;
        preferred_fits = preferred_before;
        counter_fits = omega (arith, counter_settled_le m w j fit place, h.counter_fits j l);
      })
