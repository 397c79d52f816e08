-- The rules of a booking as the judge asks them are the law's: its own fields first, then its name; and parents in their places are parents in a list.
-- Rests on specs/Parts.antt. Assumes nothing.
use mathlib.Core.Path.{◌≡◌, refl, sym, ap, ap₂, ◌∙◌}
use mathlib.Core.Bool.{Bool, true, false, not, ◌&&◌}
use mathlib.Core.List.{List}
use Prim.Native.Nat.{ℕ, zero, suc, ◌+◌, ◌<◌, ◌≤◌}
use native.Mathlib.Omega.{arith}
use lib.Dec.{eqb, ltb}
use lib.ListN.{length, get_or}
use borrow.Author.Tests.{lt-ltb, ltb-true, ltb-false, not-true}
use Rattle.loops.specs.Search.{any}
use Rattle.loops.proofs.Bools.{and_left, and_right, neither}
use Rattle.loops.proofs.Search.{all_same, any_same, all_but}
use Rattle.rules.specs.Layout.{most_bookings, most_parents}
use Rattle.rules.specs.Book.{has_twice}
use Rattle.rules.specs.Calls.{is_bad_slot, is_bad_count}
use Rattle.day_file.specs.Day.{DayBooking, booking_in}
use Rattle.day_file.specs.InTurn.{places}
use Rattle.day_file.specs.DayRules.{name_free, lower_only, booking_passes}
use Rattle.day_judge.specs.Parts.{fields_good, parents_good, row_good}

-- ---- the rules of a booking

regroup : (n s c l t f : Bool) → n && s && c && l && t && f ≡ n && ((s && c && f) && (l && t))
regroup false s c l t f = refl
regroup true false c l t f = refl
regroup true true false l t f = refl
regroup true true true false t true = refl
regroup true true true false t false = refl
regroup true true true true false true = refl
regroup true true true true false false = refl
regroup true true true true true true = refl
regroup true true true true true false = refl

pub booking_rules : (bs : List DayBooking) (j : ℕ) → booking_passes bs j ≡ name_free bs j && row_good j (booking_in bs j)
unfolding booking_passes has_twice
booking_rules bs j =
    let parents = (booking_in bs j).parents in
    regroup (name_free bs j) (not (is_bad_slot (booking_in bs j).slot)) (not (is_bad_count (length parents))) (lower_only j parents) (not (has_twice parents)) (ltb (j + 1) most_bookings)
    ∙ ap
    (λ (b : Bool). name_free bs j && (fields_good j (booking_in bs j).slot (length parents) && b))
    (sym (all_but (λ a. ltb (get_or parents a 0) (j + 1)) (λ a. any (λ b. eqb (get_or parents b 0) (get_or parents a 0)) a) (length parents)))

-- what the rules of its own fields say of how many there are
module _ (j slot count : ℕ) (e : fields_good j slot count ≡ true) where
  abbrev slot_test : Bool
  slot_test = not (is_bad_slot slot)

  abbrev count_test : Bool
  count_test = not (is_bad_count count)

  pub fields_parents : count ≤ most_parents
  fields_parents =
      let counted = and_right slot_test count_test (and_left (slot_test && count_test) (ltb (j + 1) most_bookings) e) in
      ltb-false most_parents count (neither (eqb count 0) (ltb most_parents count) (not-true (is_bad_count count) counted)).1

  pub fields_number : j + 1 < most_bookings
  fields_number = ltb-true (j + 1) most_bookings (and_right (slot_test && count_test) (ltb (j + 1) most_bookings) e)

-- ---- parents in their places

get_d_places : (parents : List ℕ) (a : ℕ) → a < length parents → length parents ≤ most_parents → get_or (places parents) a 0 ≡ get_or parents a 0
get_d_places parents zero u m = rw (lt-ltb 0 (length parents) u)
get_d_places parents (suc zero) u m = rw (lt-ltb 1 (length parents) u)
get_d_places parents (suc (suc zero)) u m = rw (lt-ltb 2 (length parents) u)
get_d_places parents (suc (suc (suc zero))) u m = rw (lt-ltb 3 (length parents) u)
get_d_places parents (suc (suc (suc (suc a)))) u m = absurd (omega arith)

pub parents_placed : (j : ℕ) (parents : List ℕ) → length parents ≤ most_parents → parents_good j (places parents) (length parents) ≡ parents_good j parents (length parents)
parents_placed j parents m =
    all_same _ _ (length parents) (λ a u.
    let here = get_d_places parents a u m in
    ap₂ (λ (x y : Bool). x && not y) (ap (λ (x : ℕ). ltb x (j + 1)) here)
    (any_same _ _ a (λ b v. ap₂ eqb (get_d_places parents b (omega arith) m) here)))
