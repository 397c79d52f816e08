-- The bookings one after the other: how the rules of the next are asked, and one more that was walked.
-- Rests on specs/Judged.antt. Assumes nothing.
use mathlib.Core.Path.{◌≡◌, refl, sym, ap, ap₂, ◌∙◌}
use mathlib.Core.Bool.{Bool, true, not, ◌&&◌, true≢false}
use mathlib.Core.List.{List, [], ◌++◌, append_assoc}
use Prim.Native.Nat.{ℕ, zero, suc, ◌+◌, ◌^◌, ◌<◌, ◌≤◌}
use native.Mathlib.Numerals.{add-one}
use native.Mathlib.Omega.{arith}
use lib.Dec.{eqb}
use lib.ListN.{length, drop}
use Rattle.std.specs.Prelude.{None}
use Rattle.loops.proofs.Bools.{and_left, and_right}
use Rattle.loops.proofs.Search.{all→, any_same}
use Rattle.day_file.specs.Day.{DayBooking, booking_in, name_in}
use Rattle.day_file.specs.Bytes.{number_bytes, name_bytes, counted, booking_bytes}
use Rattle.day_file.specs.Decode.{Read, read_many, read_booking}
use Rattle.day_file.specs.DayRules.{booking_passes}
use Rattle.day_file.proofs.ReadMany.{read_many_at, read_many_more}
use Rattle.day_judge.specs.Parts.{Holds, row_at, name_read, is_named, row_good, BookingsGood}
use Rattle.day_judge.specs.Judged.{Walked, booking_from, RowEnds, RowJudged}
use Rattle.day_judge.proofs.Walk.{left_is, holds_more, holds_none}
use Rattle.day_judge.proofs.Rules.{booking_rules}
use Rattle.day_judge.proofs.Rows.{booking_leaves, behind_none, row_fits, name_is}

pub walked_none : (sections : List ℕ) → 2 ≤ length sections → Walked sections 0 2
walked_none sections u =
    record { laid = holds_none booking_bytes read_booking booking_leaves (drop 2 sections); there = behind_none (drop 2 sections); past = omega arith; within = u }

-- the booking after j others, where it starts at the offset
module _ (sections : List ℕ) (n j at : ℕ) (u : j < n) (walked : Walked sections j at) where
  abbrev rows : List ℕ
  rows = drop 2 sections

  abbrev bookings : List DayBooking
  bookings = (read_many read_booking n rows).value

  row_is : (i : ℕ) → i < n → booking_in bookings i ≡ row_at rows i
  row_is i l = read_many_at read_booking (record { name = 0; slot = 0; parents = [] }) n i rows l

  names_are : (k : ℕ) → k ≤ n → name_in bookings k ≡ name_read rows k
  names_are zero l = refl
  names_are (suc i) l = ap (λ (b : DayBooking). b.name) (row_is i (omega arith))

  -- its rules: no lower number has its name, and those of its own fields
  rules_are : booking_passes bookings j ≡ not (is_named rows (j + 1) (name_read rows (j + 1))) && row_good j (booking_from sections at)
  rules_are =
      let own = row_is j u in
      let named : (booking_in bookings j).name ≡ name_read rows (j + 1) = ap (λ (b : DayBooking). b.name) own ∙ ap (name_read rows) (sym (add-one j)) in
      booking_rules bookings j
      ∙ ap₂ (λ (t : Bool) (b : DayBooking). not t && row_good j b)
      (any_same _ _ (j + 1) (λ k l. ap₂ eqb (names_are k (omega arith)) named))
      (own ∙ ap (λ l. (read_booking l).value) walked.there)

  module _ (name : ℕ) (small : name < 2 ^ 64) (e : drop at sections ≡ name_bytes name ++ drop (at + 8) sections) where
    own_name : name_read rows (j + 1) ≡ name
    own_name = name_is sections at j walked.there name small e

    -- the rules as they were asked
    pub next_rules : booking_passes bookings j ≡ not (is_named rows (j + 1) name) && row_good j (booking_from sections at)
    next_rules = rules_are ∙ ap (λ x. not (is_named rows (j + 1) x) && row_good j (booking_from sections at)) own_name

    -- and behind it
    pub walked_more : (next : ℕ) → RowEnds sections at j next → Walked sections (j + 1) next
    walked_more next row =
        let b = booking_from sections at in
        let front = name_bytes b.name in
        let slot = number_bytes b.slot in
        let parents = counted number_bytes b.parents in
        let named : b.name ≡ name = ap (λ l. (read_booking l).value.name) (sym walked.there) ∙ ap (name_read rows) (sym (add-one j)) ∙ own_name in
        let whole : drop at sections ≡ booking_bytes b ++ drop next sections =
        e ∙ ap₂ (λ x t. name_bytes x ++ t) (sym named) row.laid
        ∙ sym (append_assoc front slot (parents ++ drop next sections)) ∙ sym (append_assoc (front ++ slot) parents (drop next sections)) in
        let left = left_is booking_bytes read_booking booking_leaves (drop at sections) (drop next sections) whole in
        let held : Holds booking_bytes read_booking (drop at sections) = whole ∙ ap (λ t. booking_bytes b ++ t) (sym left) in
        record {
          laid = holds_more booking_bytes read_booking booking_leaves j rows walked.laid (rw (← walked.there) at held);
          there = ap (λ (m : Read (List DayBooking)). m.rest) (read_many_more read_booking j rows) ∙ ap (λ l. (read_booking l).rest) walked.there ∙ left;
          past = omega (arith, walked.past, row.past);
          within = row.within;
        }

    -- a name that is taken
    pub name_refused : is_named rows (j + 1) name ≡ true → BookingsGood rows n → ⊥
    name_refused taken good =
        true≢false (sym (and_left (not (is_named rows (j + 1) name)) (row_good j (booking_from sections at)) (sym next_rules ∙ all→ (booking_passes bookings) n good.rules j u)) ∙ ap not taken)

  -- missing bytes, or another rule that is broken
  pub row_refused : RowJudged sections at j None → BookingsGood rows n → ⊥
  row_refused short good =
      let rules = and_right (not (is_named rows (j + 1) (name_read rows (j + 1)))) (row_good j (booking_from sections at)) (sym rules_are ∙ all→ (booking_passes bookings) n good.rules j u) in
      omega (arith, short rules, row_fits sections at j walked.there n u good.laid)
