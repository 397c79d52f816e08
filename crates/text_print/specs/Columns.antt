-- Document 01, "The text program": the lines of the listing. Each ends with a line feed.
use Rattle.std.specs.Prelude.{ℕ, List, [], ◌∷◌, ◌++◌}
use Rattle.text_bytes.specs.Bytes.{bytes, line_feed, space}
use Rattle.text_put.specs.Decimal.{decimal}

abbrev pub list_header : List ℕ
list_header = bytes "number slot state confidence preferred accepted\n"

-- ---- rows

-- a number and the byte after it
abbrev pub field_prints : ℕ → ℕ → List ℕ
field_prints v after = decimal v ++ (after ∷ [])

-- what follows a field: a line feed after the last, one space after any other
abbrev pub end_of : List ℕ → ℕ
end_of [] = line_feed
end_of (v ∷ vs) = space

unfoldable pub row_prints : List ℕ → List ℕ
row_prints [] = []
row_prints (v ∷ vs) = field_prints v (end_of vs) ++ row_prints vs

-- how many bytes a field takes at most: twenty digits and what follows them
abbrev pub field_most : ℕ
field_most = 21
