-- How many of the records so far each slot has, as a table over the slots.
use Rattle.std.specs.Prelude.{ℕ, ◌+◌, List, get_or, set, replicate}
use Rattle.loops.specs.Turns.{up_to}
use Rattle.rules.specs.Layout.{slots, slot_of}

-- one booking more for slot s; a slot past the end counts nowhere
abbrev pub counted : ℕ → List ℕ → List ℕ
counted s h = set h s (get_or h s 0 + 1)

-- the bookings of each slot among the records below i
unfoldable pub held_below : List ℕ → ℕ → List ℕ
held_below w i = up_to (λ j. counted (slot_of w j)) i (replicate slots 0)
