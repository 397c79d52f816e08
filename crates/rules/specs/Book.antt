-- Document 01, "Book", and CR 5: each parent's name is looked up; the booking becomes number n, and enters its slot.
use Rattle.std.specs.Prelude.{ℕ, ◌+◌, ◌/◌, ◌%◌, ◌^◌, Bool, true, false, cond, List, [], ◌∷◌, length, get_or, ltb, eqb, None, Option, Some}
use Rattle.std.proofs.lemmas.List.Edits.{sets}
use Rattle.loops.specs.Search.{first, any, found_below}
use Rattle.rules.specs.Layout.{none, bookings, name_of, record_at, slot_at, held_in, held_field, bookings_field, with_entry, with_header}

-- ---- looking a name up

-- the number of the booking with the name
unfoldable pub look_up : List ℕ → ℕ → Option ℕ
look_up w name = found_below (bookings w) (first (λ i. eqb (name_of w i) name) (bookings w))

abbrev pub is_absent : Option ℕ → Bool
is_absent (Some i) = false
is_absent None = true

abbrev pub is_found : Option ℕ → Bool
is_found (Some i) = true
is_found None = false

abbrev pub number_of : Option ℕ → ℕ
number_of (Some i) = i
number_of None = none

-- ---- the parents, by name in the order given

abbrev pub parent_found : List ℕ → List ℕ → ℕ → Option ℕ
parent_found w parents a = look_up w (get_or parents a 0)

-- some parent's name isn't booked
unfoldable pub has_unknown : List ℕ → List ℕ → Bool
has_unknown w parents = any (λ a. is_absent (parent_found w parents a)) (length parents)

-- a parent is named twice
unfoldable pub has_twice : List ℕ → Bool
has_twice parents = any (λ a. any (λ b. eqb (get_or parents b 0) (get_or parents a 0)) a) (length parents)

-- what stands at parent place a: the parent's number, or nothing past the list's end
abbrev pub parent_number : List ℕ → List ℕ → ℕ → ℕ
parent_number w parents a = cond (ltb a (length parents)) (number_of (parent_found w parents a)) none

-- the four parent places
abbrev pub parent_numbers : List ℕ → List ℕ → List ℕ
parent_numbers w parents = parent_number w parents 0 ∷ parent_number w parents 1 ∷ parent_number w parents 2 ∷ parent_number w parents 3 ∷ []

-- ---- what a taken booking leaves; p has its four parent places

-- name in four parts, slot, parents, state 0, confidence 0, no ordinal, no mark
abbrev pub new_record : ℕ → ℕ → List ℕ → List ℕ
new_record name slot p =
    name / 2 ^ 48 ∷ name / 2 ^ 32 % 65536 ∷ name / 2 ^ 16 % 65536 ∷ name % 65536
    ∷ slot
    ∷ get_or p 0 0 ∷ get_or p 1 0 ∷ get_or p 2 0 ∷ get_or p 3 0
    ∷ 0 ∷ 0 ∷ 0 ∷ 0 ∷ []

-- in an empty slot it becomes preferred and last, with counter 0; otherwise only the slot's number of bookings rises
unfoldable pub entered : ℕ → ℕ → List ℕ → List ℕ
entered s i w = cond (eqb (held_in w s) 0) (sets w (slot_at s 0) (i ∷ i ∷ 0 ∷ 1 ∷ [])) (with_entry w s held_field (held_in w s + 1))

-- the booking becomes number n
abbrev pub booked_with : List ℕ → ℕ → ℕ → List ℕ → List ℕ
booked_with w name slot p =
    with_header (entered slot (bookings w) (sets w (record_at (bookings w) 0) (new_record name slot p))) bookings_field (bookings w + 1)

-- with the parents by name
unfoldable pub booked : List ℕ → ℕ → ℕ → List ℕ → List ℕ
booked w name slot parents = booked_with w name slot (parent_numbers w parents)
