-- Bits say which ordinals the records so far hold, and their number whether one is missing.
use mathlib.Core.Path.{◌≡◌, refl, ap, ◌∙◌}
use mathlib.Core.Bool.{true, cond, not, ◌&&◌, ◌||◌, and-eq-true_iff}
use mathlib.Core.List.{List, [], ◌∷◌}
use Prim.Native.Nat.{ℕ, suc, ◌+◌, ◌*◌, ◌-◌, ◌<◌, ◌≤◌}
use native.Mathlib.Numerals.{add-one}
use native.Mathlib.Omega.{arith}
use lib.Dec.{eqb, eqb-suc-suc, leb, ltb}
use borrow.Author.Tests.{leb-true, ltb-true, eq-eqb, ne_eqb}
use Rattle.bits.specs.Bits.{bit_at}
use Rattle.bits.specs.Members.{bit_words}
use Rattle.bits.proofs.SetBelow.{set_below_length, bit_at_set_below}
use Rattle.loops.specs.Search.{all}
use Rattle.loops.specs.Total.{bit, count}
use Rattle.loops.proofs.Bools.{row, row_at, and_judged}
use Rattle.loops.proofs.Search.{→any, →none, all_same}
use Rattle.loops.proofs.Total.{total_same, total_split, total_cut, total_more, total_zero, count_all}
use Rattle.rules.specs.Layout.{most_bookings, slots, bookings, polls, slot_of, state_of, ordinal_of}
use Rattle.rules.specs.IsSound.{name_new, parents_good, state_good, ordinal_new, booking_good, ordinals_held}
use Rattle.rules.specs.RowRules.{RulesBelow}
use Rattle.marked_slots.specs.MarkedSlots.{marks_below, mark_good_by}
use Rattle.marked_slots.proofs.MarkedSlots.{mark_good_marked}
use Rattle.rule_laws.proofs.RowRules.{record_row→Rules}
use Rattle.sound_records.specs.Ordinals.{ordinals_below, SeenTo}
use Rattle.sound_records.proofs.RecordRows.{lowest_below, good_before}

-- ---- the bits judge an ordinal as a look back does

-- where the state is good the ordinal is no more than p, and so has a bit
ordinal_lt : (w : List ℕ) (i : ℕ) → polls w < most_bookings → state_good w i ≡ true → ordinal_of w i < most_bookings
unfolding state_good
ordinal_lt w i h e =
    omega (arith, leb-true (ordinal_of w i) (polls w) ((and-eq-true_iff (leb (state_of w i) 2 && cond (eqb (state_of w i) 0) (eqb (ordinal_of w i) 0) (not (eqb (ordinal_of w i) 0))) (leb (ordinal_of w i) (polls w))).0 e).1)

-- and the bits of marked slots judge its mark so, since its slot has a bit where the slot is good
pub booking_good_seen : (w : List ℕ) (i : ℕ) → polls w < most_bookings
    → (name_new w i && leb 1 (slot_of w i) && ltb (slot_of w i) slots && parents_good w i && state_good w i
    && (eqb (ordinal_of w i) 0 || not (bit_at (ordinals_below w i) (ordinal_of w i))) && mark_good_by (marks_below w i) w i) ≡ booking_good w i
unfolding booking_good
booking_good_seen w i h =
    let before = name_new w i ∷ leb 1 (slot_of w i) ∷ ltb (slot_of w i) slots ∷ parents_good w i ∷ state_good w i ∷ ordinal_new w i ∷ [] in
    ap (λ t. t && mark_good_by (marks_below w i) w i)
    (and_judged (name_new w i && leb 1 (slot_of w i) && ltb (slot_of w i) slots && parents_good w i) (state_good w i) _ _ (λ e. rw (bit_at_set_below (ordinal_of w) i (ordinal_of w i) (ordinal_lt w i h e))))
    ∙ and_judged true (row before) _ _ (λ e. mark_good_marked w i (omega (arith, ltb-true (slot_of w i) slots (row_at before e 2))))

-- ---- a pass over all records

module _ (w seen : List ℕ) (p i : ℕ) (h : polls w < bookings w) (fits : bookings w ≤ most_bookings) (polled : p ≡ polls w) (noted : seen ≡ ordinals_below w i) (reached : i ≡ bookings w) where
  -- the bits that it leaves say whether every ordinal is held
  pub seen_held : all (λ o. bit_at seen (o + 1)) p ≡ ordinals_held w
  seen_held =
      rw (polled, noted, reached) (all_same _ _ (polls w) (λ o l. bit_at_set_below (ordinal_of w) (bookings w) (o + 1) (omega arith)))

  -- where no record breaks a rule they are 0 and none above p
  pub seen_to : lowest_below w ≡ bookings w → SeenTo p seen
  seen_to none-bad =
      rw (polled, noted, reached)
      (record {
        whole = set_below_length (ordinal_of w) (bookings w);
        within = omega arith;
        genesis =
            bit_at_set_below (ordinal_of w) (bookings w) 0 (omega arith)
            ∙ →any (λ j. eqb (ordinal_of w j) 0) (bookings w) 0 (omega arith) (eq-eqb (ordinal_of w 0) 0 ((rules 0 (omega arith)).genesis refl).ordinal);
        none_above = λ o l u.
            bit_at_set_below (ordinal_of w) (bookings w) o u
            ∙ →none (λ j. eqb (ordinal_of w j) o) (bookings w) (λ j v. ne_eqb (ordinal_of w j) o (λ e. omega (arith, (rules j v).ordinal_most)));
      })
    where
      rules : (j : ℕ) → j < bookings w → RulesBelow w j
      rules j u = (record_row→Rules w j (good_before w fits none-bad j u)).below u

-- ---- the number of bits

-- that of 0, and those of 1 to p
seen_count : (p : ℕ) (seen : List ℕ) → SeenTo p seen → count (bit_at seen) (64 * bit_words) ≡ suc (count (λ o. bit_at seen (o + 1)) p)
seen_count p seen m =
    let f : ℕ → ℕ = λ o. bit (bit_at seen o) in
    let e : 64 * bit_words ≡ 1 + p + (most_bookings - (1 + p)) = omega (arith, m.within) in
    ap (count (bit_at seen)) e
    ∙ total_cut f (1 + p) (most_bookings - (1 + p)) (λ o l u. ap bit (m.none_above o (omega arith) (omega (arith, m.within))))
    ∙ omega (
      arith,
      total_split f 1 p,
      total_more f 0,
      total_zero f,
      ap bit m.genesis,
      total_same (λ o. f (1 + o)) (λ o. f (o + 1)) p (λ o l. ap f (omega arith)),
    )

-- so p + 1 exactly if each of 1 to p is seen
pub seen_count_all : (p : ℕ) (seen : List ℕ) → SeenTo p seen → eqb (count (bit_at seen) (64 * bit_words)) (p + 1) ≡ all (λ o. bit_at seen (o + 1)) p
seen_count_all p seen m =
    rw (seen_count p seen m, add-one p, eqb-suc-suc (count (λ o. bit_at seen (o + 1)) p) p) (count_all (λ o. bit_at seen (o + 1)) p)
