-- What each word reads after a taken booking: record n and its slot's entry are written, n rises, and everything else stays.
use mathlib.Core.Path.{◌≡◌, ◌∙◌}
use mathlib.Core.List.{List}
use mathlib.Core.Logic.{◌≢◌}
use Prim.Native.Nat.{ℕ, ◌+◌, ◌*◌, ◌/◌, ◌%◌, ◌^◌, ◌<◌}
use native.Mathlib.Omega.{arith}
use lib.ListN.{length, get_or}
use lib.Seq.{sets}
use Rattle.rules.specs.Layout.{
  size,
  most_bookings,
  slots,
  most_parents,
  header_words,
  record_words,
  slot_words,
  record_at,
  header,
  field,
  entry,
  bookings_field,
  polls_field,
  held_field,
  slot_field,
  parents_field,
  state_field,
  confidence_field,
  ordinal_field,
  bookings,
  polls,
  setting_in,
  name_of,
  slot_of,
  parent_of,
  state_of,
  confidence_of,
  ordinal_of,
  held_in,
}
use Rattle.rules.specs.Book.{parent_number, parent_numbers, new_record, entered, booked}
use Rattle.rule_laws.proofs.Bookings.{at_place}
use Rattle.rule_laws.proofs.Words.{
  length_with_header,
  header_with_header_same,
  header_with_header_other,
  field_with_header_kept,
  entry_with_header_kept,
  length_sets_record,
  header_sets_record_kept,
  field_sets_record_same,
  field_sets_record_other,
  entry_sets_record_kept,
  setting_in_kept,
  name_of_kept,
}
use Rattle.promises.proofs.Entered.{
  first_entry,
  length_entered,
  header_entered_kept,
  field_entered_kept,
  entry_entered_other,
  entry_entered_empty,
  entry_entered_beside,
  held_entered,
}

-- a name is its four parts together; the first is not cut, so this holds of any number
parts_join : (name : ℕ) → ((name / 2 ^ 48 * 65536 + name / 2 ^ 32 % 65536) * 65536 + name / 2 ^ 16 % 65536) * 65536 + name % 65536 ≡ name
parts_join name = omega arith

module _ (w : List ℕ) (name slot : ℕ) (parents : List ℕ) where
  -- with the record written, and then with the slot entered too
  abbrev recorded : List ℕ
  recorded = sets w (record_at (bookings w) 0) (new_record name slot (parent_numbers w parents))

  abbrev placed : List ℕ
  placed = entered slot (bookings w) recorded

  length_recorded : length recorded ≡ length w
  length_recorded = length_sets_record w (bookings w) (new_record name slot (parent_numbers w parents))

  length_placed : length placed ≡ length w
  length_placed = length_entered slot (bookings w) recorded ∙ length_recorded

  pub length_booked : length (booked w name slot parents) ≡ length w
  unfolding booked
  length_booked = length_with_header placed bookings_field (bookings w + 1) ∙ length_placed

  -- ---- the header

  pub bookings_booked : length w ≡ size → bookings (booked w name slot parents) ≡ bookings w + 1
  unfolding booked
  bookings_booked whole = header_with_header_same placed bookings_field (bookings w + 1) (omega (arith, length_placed))

  pub header_booked_kept : (g : ℕ) → 0 < g → g < header_words → header (booked w name slot parents) g ≡ header w g
  unfolding booked
  header_booked_kept g l h =
      header_with_header_other placed bookings_field (bookings w + 1) g (omega arith)
      ∙ header_entered_kept slot (bookings w) recorded g h
      ∙ header_sets_record_kept w (bookings w) (new_record name slot (parent_numbers w parents)) g h

  pub polls_booked : polls (booked w name slot parents) ≡ polls w
  polls_booked = header_booked_kept polls_field (omega arith) (omega arith)

  pub setting_in_booked : setting_in (booked w name slot parents) ≡ setting_in w
  setting_in_booked = setting_in_kept w (booked w name slot parents) (λ g l h d. header_booked_kept g l (omega arith))

  -- ---- another record

  module _ (j : ℕ) (within : j < most_bookings) (another : j ≢ bookings w) where
    pub field_booked_other : (g : ℕ) → g < record_words → field (booked w name slot parents) j g ≡ field w j g
    unfolding booked
    field_booked_other g h =
        field_with_header_kept placed bookings_field (bookings w + 1) j g (omega arith)
        ∙ field_entered_kept slot (bookings w) recorded j g within h
        ∙ field_sets_record_other w (bookings w) (new_record name slot (parent_numbers w parents)) j g (omega arith) h another

    pub name_of_booked_other : name_of (booked w name slot parents) j ≡ name_of w j
    name_of_booked_other = name_of_kept w (booked w name slot parents) j j (λ g h. field_booked_other g (omega arith))

  -- ---- the new record

  module _ (whole : length w ≡ size) (room : bookings w < most_bookings) where
    pub field_booked_same : (g : ℕ) → g < record_words → field (booked w name slot parents) (bookings w) g ≡ get_or (new_record name slot (parent_numbers w parents)) g 0
    unfolding booked
    field_booked_same g h =
        field_with_header_kept placed bookings_field (bookings w + 1) (bookings w) g (omega arith)
        ∙ field_entered_kept slot (bookings w) recorded (bookings w) g room h
        ∙ field_sets_record_same w (bookings w) (new_record name slot (parent_numbers w parents)) g h (omega arith)

    pub name_of_booked_same : name_of (booked w name slot parents) (bookings w) ≡ name
    name_of_booked_same =
        omega (arith, parts_join name, field_booked_same 0 (omega arith), field_booked_same 1 (omega arith), field_booked_same 2 (omega arith), field_booked_same 3 (omega arith))

    pub slot_of_booked_same : slot_of (booked w name slot parents) (bookings w) ≡ slot
    slot_of_booked_same = field_booked_same slot_field (omega arith)

    pub parent_of_booked_same : (a : ℕ) → a < most_parents → parent_of (booked w name slot parents) (bookings w) a ≡ parent_number w parents a
    parent_of_booked_same =
        at_place (λ a. parent_of (booked w name slot parents) (bookings w) a ≡ parent_number w parents a)
        (field_booked_same parents_field (omega arith)) (field_booked_same (parents_field + 1) (omega arith))
        (field_booked_same (parents_field + 2) (omega arith)) (field_booked_same (parents_field + 3) (omega arith))

    pub state_of_booked_same : state_of (booked w name slot parents) (bookings w) ≡ 0
    state_of_booked_same = field_booked_same state_field (omega arith)

    pub confidence_of_booked_same : confidence_of (booked w name slot parents) (bookings w) ≡ 0
    confidence_of_booked_same = field_booked_same confidence_field (omega arith)

    pub ordinal_of_booked_same : ordinal_of (booked w name slot parents) (bookings w) ≡ 0
    ordinal_of_booked_same = field_booked_same ordinal_field (omega arith)

  -- ---- slot entries

  module _ (room : bookings w < most_bookings) where
    entry_recorded : (t g : ℕ) → entry recorded t g ≡ entry w t g
    entry_recorded t g = entry_sets_record_kept w (bookings w) (new_record name slot (parent_numbers w parents)) t g room (omega arith)

    entry_placed : (t g : ℕ) → entry (booked w name slot parents) t g ≡ entry placed t g
    unfolding booked
    entry_placed t g = entry_with_header_kept placed bookings_field (bookings w + 1) t g (omega arith)

    pub entry_booked_other : (t g : ℕ) → g < slot_words → t ≢ slot → entry (booked w name slot parents) t g ≡ entry w t g
    entry_booked_other t g h d = entry_placed t g ∙ entry_entered_other slot (bookings w) recorded t g h d ∙ entry_recorded t g

    -- in a slot with bookings only their number rises
    pub entry_booked_beside : (g : ℕ) → g < slot_words → g ≢ held_field → held_in w slot ≢ 0 → entry (booked w name slot parents) slot g ≡ entry w slot g
    entry_booked_beside g h q d =
        entry_placed slot g
        ∙ entry_entered_beside slot (bookings w) recorded g h q (λ e. omega (arith, entry_recorded slot held_field))
        ∙ entry_recorded slot g

    module _ (whole : length w ≡ size) (known : slot < slots) where
      pub held_in_booked : held_in w slot ≢ 0 → held_in (booked w name slot parents) slot ≡ held_in w slot + 1
      held_in_booked d =
          entry_placed slot held_field
          ∙ held_entered slot (bookings w) recorded (omega (arith, length_recorded)) (λ e. omega (arith, entry_recorded slot held_field))
          ∙ rw (entry_recorded slot held_field)

      -- in an empty one the booking is preferred and last, and alone
      pub entry_booked_empty : (g : ℕ) → g < slot_words → held_in w slot ≡ 0 → entry (booked w name slot parents) slot g ≡ get_or (first_entry (bookings w)) g 0
      entry_booked_empty g h e =
          entry_placed slot g
          ∙ entry_entered_empty slot (bookings w) recorded g h (omega (arith, length_recorded)) (entry_recorded slot held_field ∙ e)
