-- The readings of a booking and of a poll: what they leave, what they read where numbers stand, and how long their bytes are.
-- Rests on specs/Parts.antt. Assumes nothing.
use mathlib.Core.Path.{◌≡◌, refl, sym, ap, ap₂, ◌∙◌}
use mathlib.Core.Bool.{Bool, true, false, true≢false}
use mathlib.Core.List.{List, ◌++◌, append_assoc}
use Prim.Native.Nat.{ℕ, ◌+◌, ◌*◌, ◌^◌, ◌<◌, ◌≤◌}
use native.Mathlib.Numerals.{add-one}
use native.Mathlib.Omega.{arith}
use lib.ListN.{length, drop, length-append, length-drop}
use lib.Seq.{drop-drop}
use Rattle.std.specs.Prelude.{None}
use Rattle.std.specs.Bool.{then_some}
use Rattle.loops.proofs.Bools.{and_left, and_right, and_both}
use Rattle.day_file.specs.Day.{DayBooking}
use Rattle.day_file.specs.Bytes.{number_bytes, name_bytes, joined, counted, booking_bytes, poll_bytes}
use Rattle.day_file.specs.Decode.{Read, value_of, read_number, read_name, read_many, read_counted, read_booking, read_poll}
use Rattle.day_file.specs.InTurn.{places}
use Rattle.day_file.proofs.Joined.{length_high_first, length_joined_even}
use Rattle.day_file.proofs.Lengths.{length_booking_bytes, length_poll_bytes}
use Rattle.day_file.proofs.Codec.{number_undone, name_undone}
use Rattle.day_file.proofs.ReadMany.{length_read_many, read_many_more}
use Rattle.day_judge.specs.Parts.{HoldsMany, behind, name_read, fields_good, parents_good}
use Rattle.day_judge.specs.Judged.{booking_from, RowEnds, RowJudged}
use Rattle.day_judge.proofs.Walk.{Leaves, many_leave, holds_row}
use Rattle.day_judge.proofs.Rules.{fields_parents, parents_placed}

-- ---- numbers

pub number_leaves : Leaves number_bytes read_number
number_leaves l = ap (λ k. drop k l) (sym (length_high_first 2 (value_of 2 l)))

pub number_read_lem : {l rest : List ℕ} (n : ℕ) → n < 65536 → l ≡ number_bytes n ++ rest → read_number l ≡ record { value = n; rest = rest }
number_read_lem {rest = rest} n small e = ap read_number e ∙ number_undone.undoes n small rest

pub name_read_lem : {l rest : List ℕ} (n : ℕ) → n < 2 ^ 64 → l ≡ name_bytes n ++ rest → read_name l ≡ record { value = n; rest = rest }
name_read_lem {rest = rest} n small e = ap read_name e ∙ name_undone.undoes n small rest

-- ---- a booking

pub booking_leaves : Leaves booking_bytes read_booking
booking_leaves l =
    let x = drop 2 (drop 2 (drop 8 l)) in
    let c = value_of 2 (drop 2 (drop 8 l)) in
    let parents = (read_many read_number c x).value in
    let long : 8 + (2 + (2 + length (joined number_bytes parents))) ≡ length (booking_bytes (read_booking l).value) = omega (arith, length_booking_bytes (read_booking l).value, length_joined_even number_bytes 2 (length_high_first 2) parents) in
    let k = length (joined number_bytes parents) in
    many_leave number_bytes read_number number_leaves c x
    ∙ drop-drop k 2 (drop 2 (drop 8 l)) ∙ drop-drop (2 + k) 2 (drop 8 l) ∙ drop-drop (2 + (2 + k)) 8 l
    ∙ ap (λ m. drop m l) long

-- ---- a poll

pub poll_leaves : Leaves poll_bytes read_poll
poll_leaves l = drop-drop 2 2 l ∙ ap (λ k. drop k l) (sym (length_poll_bytes (read_poll l).value))

-- ---- a booking at an offset, as it is judged

pub row_short : (sections : List ℕ) (at j : ℕ) → length sections < at + 12 → RowJudged sections at j None
row_short sections at j h g = omega (arith, length_booking_bytes (booking_from sections at))

-- where its count was read
module _ (sections : List ℕ) (at count : ℕ) (fc : count < 65536) (g : drop (at + 10) sections ≡ number_bytes count ++ drop (at + 10 + 2) sections) where
  abbrev numbers : List ℕ
  numbers = (read_many read_number count (drop (at + 12) sections)).value

  parents_are : (booking_from sections at).parents ≡ numbers
  parents_are =
      let ten : at + 8 + 2 ≡ at + 10 = omega arith in
      let past : at + 10 + 2 ≡ at + 12 = omega arith in
      let there : drop 2 (drop 8 (drop at sections)) ≡ drop (at + 10) sections = ap (drop 2) (drop-drop 8 at sections) ∙ rw ten at (drop-drop 2 (at + 8) sections) in
      ap (λ l. (read_counted read_number l).value) there
      ∙ ap (λ (r : Read ℕ). (read_many read_number r.value r.rest).value) (rw past at (number_read_lem count fc g))

  many_are : length (booking_from sections at).parents ≡ count
  many_are = ap length parents_are ∙ length_read_many read_number count (drop (at + 12) sections)

  -- its bytes end there
  pub booking_end : at + length (booking_bytes (booking_from sections at)) ≡ at + 12 + 2 * count
  booking_end = omega (arith, length_booking_bytes (booking_from sections at), many_are)

  -- so what stands behind one booking more starts there
  pub behind_more : (i : ℕ) → behind (drop 2 sections) i ≡ drop at sections → behind (drop 2 sections) (i + 1) ≡ drop (at + 12 + 2 * count) sections
  behind_more i there =
      ap (λ (m : Read (List DayBooking)). m.rest) (read_many_more read_booking i (drop 2 sections)) ∙ ap (λ l. (read_booking l).rest) there ∙ booking_leaves (drop at sections)
      ∙ drop-drop (length (booking_bytes (booking_from sections at))) at sections ∙ ap (λ k. drop k sections) booking_end

-- and its slot
module _ (sections : List ℕ) (at j slot count : ℕ) (fs : slot < 65536) (fc : count < 65536)
    (f : drop (at + 8) sections ≡ number_bytes slot ++ drop (at + 8 + 2) sections)
    (g : drop (at + 10) sections ≡ number_bytes count ++ drop (at + 10 + 2) sections) where
  abbrev placed : List ℕ
  placed = numbers sections at count fc g

  slot_is : (booking_from sections at).slot ≡ slot
  slot_is = ap (λ l. (read_number l).value) (drop-drop 8 at sections) ∙ ap (λ (r : Read ℕ). r.value) (number_read_lem slot fs f)

  abbrev fields_test : Bool
  fields_test = fields_good j (booking_from sections at).slot (length (booking_from sections at).parents)

  abbrev parents_test : Bool
  parents_test = parents_good j (booking_from sections at).parents (length (booking_from sections at).parents)

  fields_same : fields_test ≡ fields_good j slot count
  fields_same = ap₂ (fields_good j) slot_is (many_are sections at count fc g)

  pub row_fields : fields_good j slot count ≡ false → RowJudged sections at j None
  row_fields e h = absurd (true≢false (sym (and_left fields_test parents_test h) ∙ fields_same ∙ e))

  pub row_room : length sections < at + 12 + 2 * count → RowJudged sections at j None
  row_room h q = omega (arith, booking_end sections at count fc g)

  -- and its parents
  module _ (parents : List ℕ) (same : parents ≡ places placed) (fields : fields_good j slot count ≡ true) where
    parents_same : parents_test ≡ parents_good j parents count
    parents_same =
        let many = length_read_many read_number count (drop (at + 12) sections) in
        ap (λ l. parents_good j l (length l)) (parents_are sections at count fc g)
        ∙ sym (parents_placed j placed (omega (arith, many, fields_parents j slot count fields)))
        ∙ ap₂ (parents_good j) (sym same) many

    row_parents : parents_good j parents count ≡ false → RowJudged sections at j None
    row_parents e h = absurd (true≢false (sym (and_right fields_test parents_test h) ∙ parents_same ∙ e))

    row_ends : drop (at + 12) sections ≡ joined number_bytes placed ++ drop (at + 12 + 2 * count) sections → at + 12 + 2 * count ≤ length sections
        → parents_good j parents count ≡ true → RowEnds sections at j (at + 12 + 2 * count)
    row_ends laid room good =
        record {
          rules = and_both fields_test parents_test (fields_same ∙ fields) (parents_same ∙ good);
          laid = f ∙ ap₂ (λ s t. number_bytes s ++ t) (sym slot_is) behind_slot;
          past = omega arith;
          within = room;
        }
      where
        next : List ℕ
        next = drop (at + 12 + 2 * count) sections

        behind_slot : drop (at + 8 + 2) sections ≡ counted number_bytes (booking_from sections at).parents ++ next
        behind_slot =
            let ten : at + 8 + 2 ≡ at + 10 = omega arith in
            let past : at + 10 + 2 ≡ at + 12 = omega arith in
            ap (λ k. drop k sections) ten ∙ rw past at g
            ∙ ap₂ (λ c t. number_bytes c ++ t) (sym (many_are sections at count fc g)) (laid ∙ ap (λ l. joined number_bytes l ++ next) (sym (parents_are sections at count fc g)))
            ∙ sym (append_assoc (number_bytes (length (booking_from sections at).parents)) (joined number_bytes (booking_from sections at).parents) next)

    -- as the parents are asked
    pub row_asked : drop (at + 12) sections ≡ joined number_bytes placed ++ drop (at + 12 + 2 * count) sections → at + 12 + 2 * count ≤ length sections
        → (t : Bool) → t ≡ parents_good j parents count → RowJudged sections at j (then_some t (at + 12 + 2 * count))
    row_asked laid room true e = row_ends laid room (sym e)
    row_asked laid room false e = row_parents (sym e)

-- ---- a booking that was walked

pub behind_none : (l : List ℕ) → behind l 0 ≡ l
unfolding read_many
behind_none l = refl

module _ (sections : List ℕ) (at i : ℕ) (there : behind (drop 2 sections) i ≡ drop at sections) where
  -- its bytes are there
  pub row_fits : (n : ℕ) → i < n → HoldsMany booking_bytes read_booking n (drop 2 sections) → at + length (booking_bytes (booking_from sections at)) ≤ length sections
  row_fits n u so =
      let row = rw there at (holds_row booking_bytes read_booking booking_leaves n i (drop 2 sections) u so) in
      omega (arith, ap length row, length-append (booking_bytes (booking_from sections at)) (read_booking (drop at sections)).rest, length-drop at sections, length_booking_bytes (booking_from sections at))

  pub name_is : (name : ℕ) → name < 2 ^ 64 → drop at sections ≡ name_bytes name ++ drop (at + 8) sections → name_read (drop 2 sections) (i + 1) ≡ name
  name_is name small e =
      ap (name_read (drop 2 sections)) (add-one i) ∙ ap (λ l. (read_name l).value) there ∙ ap (λ (r : Read ℕ). r.value) (name_read_lem name small e)
