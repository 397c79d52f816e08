-- The slots of the marks: where that of a marked booking is read, and that the bits set are those of the marks before. Assumes nothing.
use mathlib.Core.Path.{◌≡◌, sym, ap, ap₂, subst, ◌∙◌}
use mathlib.Core.List.{List, []}
use Prim.Native.Nat.{ℕ, suc, ◌+◌, ◌-◌, ◌<◌, ◌≤◌}
use native.Mathlib.Omega.{arith}
use lib.ListN.{length, get_or, drop}
use Rattle.bits.specs.Bits.{bit_at}
use Rattle.bits.specs.Members.{set_below}
use Rattle.bits.proofs.SetBelow.{bit_at_set_below}
use Rattle.day_file.specs.Day.{DayBooking, booking_in, slot_in}
use Rattle.day_file.specs.Decode.{value_of, read_number, read_many, read_setting, read_booking, decode, marks_in}
use Rattle.day_file.specs.Marks.{slot_marked}
use Rattle.day_file.proofs.ReadMany.{length_read_many, read_many_at}
use Rattle.day_file.proofs.SecondFile.{marks_many}
use Rattle.day_marks.specs.Judged.{NumbersGood, SlotsGood}
use Rattle.day_marks.proofs.Readers.{many_and}
use Rattle.day_marks.proofs.MarkNumbers.{Risen, good_risen}

module _ (file : List ℕ) where
  -- the bookings' bytes, behind their count
  abbrev pub rows : List ℕ
  rows = drop 2 (read_setting file).rest

  abbrev pub behind : ℕ → List ℕ
  behind j = (read_many read_booking j rows).rest

  pub bookings_many : length (decode file).bookings ≡ (read_number (read_setting file).rest).value
  unfolding decode
  bookings_many = length_read_many read_booking (value_of 2 (read_setting file).rest) rows

  -- as many as the code counts with the genesis
  pub ledger_many : (start : ℕ) {n : ℕ} → drop start file ≡ (read_setting file).rest → n ≡ (read_number (drop start file)).value → n + 1 ≡ length (decode file).bookings + 1
  ledger_many start there told = ap (λ k. k + 1) (told ∙ ap (λ l. (read_number l).value) there ∙ sym bookings_many)

  pub booking_is : (j : ℕ) → j < length (decode file).bookings → booking_in (decode file).bookings j ≡ (read_booking (behind j)).value
  unfolding decode
  booking_is j u =
      read_many_at read_booking (record { name = 0; slot = 0; parents = [] }) (value_of 2 (read_setting file).rest) j rows (omega (arith, bookings_many))

  -- the booking with a number that isn't the genesis's
  module _ (m : ℕ) (some : 0 < m) (few : m < length (decode file).bookings + 1) where
    in_row : slot_in (decode file).bookings m ≡ (booking_in (decode file).bookings (m - 1)).slot
    in_row =
        let row : m ≡ suc (m - 1) = omega arith in
        ap (slot_in (decode file).bookings) row

    pub slot_is : (slot at there : ℕ) → slot ≡ (read_number (drop there file)).value → drop there file ≡ drop 8 (drop at file) → drop at file ≡ behind (m - 1)
        → slot ≡ slot_in (decode file).bookings m
    slot_is slot at there e f g =
        e ∙ ap (λ l. (read_number l).value) (f ∙ ap (drop 8) g) ∙ ap (λ (b : DayBooking). b.slot) (sym (booking_is (m - 1) (omega arith))) ∙ sym in_row

    pub slot_below : SlotsGood (decode file).bookings → slot_in (decode file).bookings m < 512
    slot_below below = omega (arith, in_row, below (m - 1) (omega arith))

  -- walked further
  pub behind_further : (walked j at next : ℕ) → walked ≤ j → drop at file ≡ behind walked → drop next file ≡ (read_many read_booking (j - walked) (drop at file)).rest → drop next file ≡ behind j
  behind_further walked j at next u here e =
      let both : walked + (j - walked) ≡ j = omega arith in
      e ∙ ap (λ l. (read_many read_booking (j - walked) l).rest) here ∙ sym (many_and read_booking walked (j - walked) rows) ∙ ap behind both

-- ---- the slots seen

abbrev pub slot_of_mark : List DayBooking → List ℕ → ℕ → ℕ
slot_of_mark bs marks a = slot_in bs (get_or marks a 0)

-- with those of the marks before as bits, the bit of a mark's slot is the law's test
pub seen_is : (bs : List DayBooking) (marks seen : List ℕ) (a slot : ℕ) → seen ≡ set_below (slot_of_mark bs marks) a → slot ≡ slot_of_mark bs marks a → slot_of_mark bs marks a < 512
    → bit_at seen slot ≡ slot_marked bs marks a
seen_is bs marks seen a slot e f few = ap₂ bit_at e f ∙ bit_at_set_below (slot_of_mark bs marks) a (slot_of_mark bs marks a) few

-- ---- a mark as the code reads it

module _ (file section : List ℕ) (numbers : NumbersGood (length (decode file).bookings + 1) section) (count : ℕ) (told : count ≡ (read_number section).value) where
  abbrev bs : List DayBooking
  bs = (decode file).bookings

  abbrev marks : List ℕ
  marks = marks_in section

  pub marks_counted : count ≡ length marks
  marks_counted = told ∙ sym (marks_many section)

  pub marks_risen : Risen (length bs + 1) marks
  marks_risen = good_risen (length bs + 1) section numbers

  -- mark a is m, and the bookings walked are not past the mark before
  module _ (a walked m : ℕ) (some : 1 ≤ a) (more : a < count) (near : walked ≤ get_or marks (a - 1) 0) (is : m ≡ get_or marks a 0) where
    pub mark_above : walked < m
    mark_above =
        let here : a - 1 + 1 ≡ a = omega arith in
        omega (arith, rw here at (marks_risen.all.rising (a - 1) (omega (arith, marks_counted))))

    mark_few : m < length bs + 1
    mark_few = omega (arith, marks_risen.all.below a (omega (arith, marks_counted)))

    -- its slot, read behind the bookings before it
    module _ (at next there slot : ℕ) (here : drop at file ≡ behind file walked) (end : drop next file ≡ (read_many read_booking (m - 1 - walked) (drop at file)).rest)
        (place : drop there file ≡ drop 8 (drop next file)) (read : slot ≡ (read_number (drop there file)).value) where
      pub walked_further : drop next file ≡ behind file (m - 1)
      walked_further = behind_further file walked (m - 1) at next (omega (arith, mark_above)) here end

      pub slot_read : slot ≡ slot_of_mark bs marks a
      slot_read = slot_is file m (omega (arith, mark_above)) mark_few slot next there read place walked_further ∙ ap (slot_in bs) is

      pub slot_asked : SlotsGood bs → (seen : List ℕ) → seen ≡ set_below (slot_of_mark bs marks) a → bit_at seen slot ≡ slot_marked bs marks a
      slot_asked good seen e =
          seen_is bs marks seen a slot e slot_read (subst (λ k. slot_in bs k < 512) is (slot_below file m (omega (arith, mark_above)) mark_few good))
