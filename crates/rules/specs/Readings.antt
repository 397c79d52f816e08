-- Document 01, "Readings", and CR 5: what each says of booking i. They change nothing.
use Rattle.std.specs.Prelude.{ℕ, Bool, ◌&&◌, ◌||◌, not, cond, List, ℤ, pos, ◌-ℤ◌, eqb}
use Rattle.loops.specs.Search.{all}
use Rattle.loops.specs.Total.{bit, count, greatest}
use Rattle.terms.specs.declared.answer.Reading.{Reading}
use Rattle.terms.specs.declared.answer.Reading.TheVariants.{Query, Accepted, Lead, Confidence, Size}
use Rattle.rules.specs.Ancestry.{ancestry, is_member}
use Rattle.rules.specs.Layout.{bookings, slot_of, confidence_of, is_marked, preferred_in, last_in}

abbrev pub is_preferred : List ℕ → ℕ → Bool
is_preferred w j = eqb (preferred_in w (slot_of w j)) j

abbrev pub is_last : List ℕ → ℕ → Bool
is_last w j = eqb (last_in w (slot_of w j)) j

-- ---- query: every member of the ancestry is preferred in its slot

-- j is no member of m, or is preferred
abbrev pub passes_query : List ℕ → List ℕ → ℕ → Bool
passes_query w m j = not (is_member m j) || is_preferred w j

unfoldable pub query_of : List ℕ → ℕ → Bool
query_of w i = all (passes_query w (ancestry w i)) (bookings w)

-- ---- accepted: the mark, which polls set (Marks.antt)

abbrev pub accepted_of : List ℕ → ℕ → Bool
accepted_of = is_marked

-- ---- lead: confidence minus the greatest confidence among the slot's other bookings, or minus 0

abbrev pub is_rival : List ℕ → ℕ → ℕ → Bool
is_rival w i j = eqb (slot_of w j) (slot_of w i) && not (eqb j i)

abbrev pub rival_confidence : List ℕ → ℕ → ℕ → ℕ
rival_confidence w i j = cond (is_rival w i j) (confidence_of w j) 0

unfoldable pub rivals_most : List ℕ → ℕ → ℕ
rivals_most w i = greatest (rival_confidence w i) (bookings w)

unfoldable pub lead_of : List ℕ → ℕ → ℤ
lead_of w i = pos (confidence_of w i) -ℤ pos (rivals_most w i)

-- ---- size: how many members the ancestry has

unfoldable pub size_of : List ℕ → ℕ → ℕ
size_of w i = count (is_member (ancestry w i)) (bookings w)

-- ---- the value of each reading of booking i: yes is 1, and no is 0

abbrev pub reading_of : Reading → List ℕ → ℕ → ℤ
reading_of Query w i = pos (bit (query_of w i))
reading_of Accepted w i = pos (bit (accepted_of w i))
reading_of Lead w i = lead_of w i
reading_of Confidence w i = pos (confidence_of w i)
reading_of Size w i = pos (size_of w i)
