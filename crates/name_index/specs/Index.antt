-- CR 6: the index, 1,024 cells lent beside the ledger. Where probing leads, what a lookup finds by any index, what entering writes, what is built.
use Rattle.std.specs.Prelude.{ℕ, ◌+◌, ◌-◌, ◌%◌, Bool, ◌&&◌, ◌||◌, not, cond, List, get_or, set, replicate, eqb, ltb, None, Option, Some}
use Rattle.loops.specs.Turns.{up_to}
use Rattle.loops.specs.Search.{first, all}
use Rattle.rules.specs.Layout.{bookings, name_of}
use Rattle.name_index.specs.Hash.{hash_of}

abbrev pub cells : ℕ
cells = 1024

-- what an empty cell holds
abbrev pub empty : ℕ
empty = 65535

-- what cell c holds; past the index every cell reads as empty
abbrev pub cell : List ℕ → ℕ → ℕ
cell index c = get_or index c empty

abbrev pub is_empty : ℕ → Bool
is_empty held = eqb held empty

-- ---- probing

-- where a name's probing begins
abbrev pub home : ℕ → ℕ
home name = hash_of name % cells

-- the cell that is tried after t others, from cell h up by one and round
abbrev pub tried : ℕ → ℕ → ℕ
tried h t = (h + t) % cells

-- how many cells are passed over until one is met whose content ends the probing; all of them if none does
abbrev pub passed : (ends : ℕ → Bool) → List ℕ → ℕ → ℕ
passed ends index h = first (λ t. ends (cell index (tried h t))) cells

-- the cell where probing from h ends; past the index if every cell was tried
unfoldable pub probe : (ends : ℕ → Bool) → List ℕ → ℕ → ℕ
probe ends index h = cond (ltb (passed ends index h) cells) (tried h (passed ends index h)) cells

-- ---- looking up

-- the number i is a booking's that has the name; a number at or above n is nobody's
abbrev pub is_of : List ℕ → ℕ → ℕ → Bool
is_of w name i = ltb i (bookings w) && eqb (name_of w i) name

-- probing goes on until the name or an empty cell is met; every other number is passed over
abbrev pub ends_lookup : List ℕ → ℕ → ℕ → Bool
ends_lookup w name held = is_empty held || is_of w name held

-- the number that a cell holds, if any
abbrev pub held_number : ℕ → Option ℕ
held_number held = cond (is_empty held) None (Some held)

-- what a lookup finds by any index of 1,024 cells
unfoldable pub look_up_in : List ℕ → List ℕ → ℕ → Option ℕ
look_up_in w index name = held_number (cell index (probe (ends_lookup w name) index (home name)))

-- ---- entering

-- no cell is empty
abbrev pub is_full : List ℕ → Bool
is_full index = all (λ c. not (is_empty (cell index c))) cells

-- the index with booking i's number in the first empty cell from its name's home on. It doesn't stop at its own name: who is entered twice stands twice
unfoldable pub with_number : List ℕ → ℕ → List ℕ → List ℕ
with_number w i index = set index (probe is_empty index (home (name_of w i))) i

-- the newest booking's number
abbrev pub newest : List ℕ → ℕ
newest w = bookings w - 1

-- ---- building

abbrev pub empty_index : List ℕ
empty_index = replicate cells empty

-- the empty index with numbers 0 to n − 1 entered in rising order
unfoldable pub built : List ℕ → List ℕ
built w = up_to (with_number w) (bookings w) empty_index
