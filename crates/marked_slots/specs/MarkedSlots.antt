-- Which slots have a mark so far, as a bit for each slot.
use Rattle.std.specs.Prelude.{ℕ, Bool, ◌&&◌, ◌||◌, not, cond, List, leb}
use Rattle.bits.specs.Bits.{bit_at}
use Rattle.bits.specs.Members.{set_below}
use Rattle.rules.specs.Layout.{none, slot_of, mark_of, is_marked}

-- the slot of record j if it is marked, else what no bit stands for
abbrev pub marked_slot : List ℕ → ℕ → ℕ
marked_slot w j = cond (is_marked w j) (slot_of w j) none

-- the slots of the marked records below i
abbrev pub marks_below : List ℕ → ℕ → List ℕ
marks_below w i = set_below (marked_slot w) i

-- the rule of record i's mark, with bits for the marked slots of the lower records in place of a look back
abbrev pub mark_good_by : List ℕ → List ℕ → ℕ → Bool
mark_good_by marked w i = leb (mark_of w i) 1 && (not (is_marked w i) || not (bit_at marked (slot_of w i)))
