-- What never changes while a ledger is open, and what p counts.
use Rattle.std.specs.Prelude.{◌≡◌, false, List, ◌↔◌, ℕ, ◌<◌, ◌≤◌}
use Rattle.rules.specs.Layout.{bookings, polls, most_parents, name_of, slot_of, parent_of}
use Rattle.rules.specs.Ancestry.{Reaches, ancestry}
use Rattle.rules.specs.Sound.{Ledger}
use Rattle.promises.specs.Run.{Call, outcome_of, opens, Opening, after}

-- what w says of its bookings, u says of them too
pub record Grown (w u : List ℕ) : Type 0 where
  pub more : bookings w ≤ bookings u
  pub name : (i : ℕ) → i < bookings w → name_of u i ≡ name_of w i
  pub slot : (i : ℕ) → i < bookings w → slot_of u i ≡ slot_of w i
  pub parent : (i a : ℕ) → i < bookings w → a < most_parents → parent_of u i a ≡ parent_of w i a

-- until the next opening, or file that is read, no call changes a booking's name, slot or parents, and none disappears
unfoldable pub BookingsLast : Type 0
BookingsLast = (c : Call) (w : List ℕ) → opens c ≡ false → Ledger w → Grown w (outcome_of c w).words

-- nor a booking's ancestry, as people read it and as a list of members
unfoldable pub AncestryLasts : Type 0
AncestryLasts =
    (c : Call) (w : List ℕ) → opens c ≡ false → Ledger w → (i : ℕ) → i < bookings w
    → (ancestry (outcome_of c w).words i ≡ ancestry w i) × ((j : ℕ) → Reaches (outcome_of c w).words i j ↔ Reaches w i j)

-- p counts the taken polls since the last taken opening or file that was read, those of the file among them
unfoldable pub PollsAreCounted : Type 0
PollsAreCounted = (o : Opening) (calls : List Call) → polls (after o calls).words ≡ (after o calls).history.taken
