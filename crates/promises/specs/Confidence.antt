-- Confidence is counted, not invented; the total is the sum of ancestries; the preferred one leads its slot.
use Rattle.std.specs.Prelude.{◌≡◌, List, [], ◌∷◌, ℕ, suc, ◌+◌, ◌<◌, ◌≤◌}
use Rattle.loops.specs.Total.{total}
use Rattle.rules.specs.Layout.{bookings, slot_of, confidence_of, preferred_in}
use Rattle.rules.specs.Ancestry.{Reaches}
use Rattle.rules.specs.Readings.{size_of}
use Rattle.promises.specs.Run.{Call, Opening, after}

-- c of the bookings whose polls succeeded have j in their ancestry
pub data Counted (w : List ℕ) (j : ℕ) : List ℕ → ℕ → Type 0 where
  none : Counted w j [] 0
  counts : {i : ℕ} {successes : List ℕ} {c : ℕ} → Reaches w i j → Counted w j successes c → Counted w j (i ∷ successes) (suc c)
  passes : {i : ℕ} {successes : List ℕ} {c : ℕ} → (Reaches w i j → ⊥) → Counted w j successes c → Counted w j (i ∷ successes) c

-- each booking's confidence is the number of successful polls whose booking has it in its ancestry
unfoldable pub ConfidenceIsCounted : Type 0
ConfidenceIsCounted =
    (o : Opening) (calls : List Call) (j : ℕ) → j < bookings (after o calls).words
    → Counted (after o calls).words j (after o calls).history.successes (confidence_of (after o calls).words j)

-- the sizes of the ancestries of the bookings whose polls succeeded, together
unfoldable pub sizes : List ℕ → List ℕ → ℕ
sizes w [] = 0
sizes w (i ∷ successes) = size_of w i + sizes w successes

-- all confidences together are the sum over the successful polls of the ancestry's size
unfoldable pub TotalIsSummed : Type 0
TotalIsSummed =
    (o : Opening) (calls : List Call)
    → total (confidence_of (after o calls).words) (bookings (after o calls).words)
    ≡ sizes (after o calls).words (after o calls).history.successes

-- in every slot with a booking no rival has more confidence than the preferred one
unfoldable pub PreferredIsMost : Type 0
PreferredIsMost =
    (o : Opening) (calls : List Call) (i : ℕ) → i < bookings (after o calls).words
    → confidence_of (after o calls).words i
    ≤ confidence_of (after o calls).words (preferred_in (after o calls).words (slot_of (after o calls).words i))
