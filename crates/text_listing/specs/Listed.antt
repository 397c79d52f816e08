-- Document 01, "The text program": after the header one line for each booking, in rising number.
use Rattle.std.specs.Prelude.{ℕ, zero, suc, ◌+◌, ◌*◌, List, [], ◌∷◌, ◌++◌, length, Err, Ok}
use Rattle.loops.specs.Total.{bit}
use Rattle.rules.specs.Layout.{most_bookings, bookings, slot_of, state_of, confidence_of}
use Rattle.rules.specs.Readings.{is_preferred, accepted_of}
use Rattle.text_print.specs.Print.{refusal_prints}
use Rattle.text_print.specs.Columns.{list_header, field_most, row_prints}
use Rattle.terms.specs.Answers.{Answer}

-- number, slot, state, confidence, preferred, accepted
unfoldable pub list_row : List ℕ → ℕ → List ℕ
list_row w i = i ∷ slot_of w i ∷ state_of w i ∷ confidence_of w i ∷ bit (is_preferred w i) ∷ bit (accepted_of w i) ∷ []

-- the rows of the bookings below n
unfoldable pub rows_print : List ℕ → ℕ → List ℕ
rows_print w zero = []
rows_print w (suc i) = rows_print w i ++ row_prints (list_row w i)

unfoldable pub list_prints : List ℕ → List ℕ
list_prints w = list_header ++ rows_print w (bookings w)

-- a taken `list` prints the listing
abbrev pub list_shows : Answer → List ℕ → List ℕ
list_shows (Ok v) w = list_prints w
list_shows (Err r) w = refusal_prints r

-- ---- how many bytes each takes at most

-- six fields
abbrev pub row_most : ℕ
row_most = field_most * 6

abbrev pub header_most : ℕ
header_most = length list_header

-- the longest listing, and so the most that any line prints
abbrev pub line_most : ℕ
line_most = header_most + row_most * most_bookings
