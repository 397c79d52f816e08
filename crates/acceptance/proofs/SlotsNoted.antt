-- One turn of the pass, told by whether the slot has a mark: where it has, nothing changes; where not, the rule decides alone.
-- Setting a mark gives its slot one, and no other slot.
use mathlib.Core.Path.{◌≡◌, refl, sym, ap, subst, ◌∙◌}
use mathlib.Core.Bool.{Bool, true, false, true≢false, ◌&&◌, not, cond, and-true, and-false}
use mathlib.Core.List.{List}
use mathlib.Core.Logic.{◌≢◌}
use Prim.Native.Nat.{ℕ, ◌<◌}
use native.Mathlib.Omega.{arith}
use native.Mathlib.Decide.{ℕ_discrete}
use lib.Dec.{eqb}
use lib.ListN.{set}
use lib.Seq.{set-get_or}
use borrow.Author.Tests.{eqb-true, eq-eqb, ne_eqb, not-true}
use Rattle.loops.specs.Search.{any}
use Rattle.loops.proofs.Search.{any→, →any, any_same}
use Rattle.loops.proofs.Bools.{and_left, and_right, and_both}
use Rattle.rules.specs.Layout.{slots, record_at, bookings, slot_field, mark_field, slot_of, mark_of, is_marked}
use Rattle.rules.specs.Sound.{Ledger}
use Rattle.rules.specs.AsRead.{Rival}
use Rattle.rules.specs.Marks.{meets_rule, another_marked, mark_one}
use Rattle.rule_laws.proofs.Words.{header_with_field_kept, field_with_field_same, field_with_field_other, field_with_field_beside}
use Rattle.rule_laws.proofs.Slots.{slot_of_lt}
use Rattle.rule_laws.proofs.Marked.{earns, with_mark, another_false, another_none}
use Rattle.bits.specs.Bits.{bit_at, with_bit}
use Rattle.bits.proofs.Bits.{with_bit_length, bit_at_with_bit_same, bit_at_with_bit_other}
use Rattle.marked_slots.specs.MarkedSlots.{marks_below}
use Rattle.marked_slots.proofs.MarkedSlots.{marks_below_length, marked_below_lem}
use Rattle.acceptance.specs.SlotsNoted.{has_mark, SlotsNoted, MarkedOne}

-- the bits as they are noted before the pass, of all n bookings
pub noted_at_start : (w : List ℕ) (n : ℕ) {noted : List ℕ} → n ≡ bookings w → noted ≡ marks_below w n → SlotsNoted w noted
noted_at_start w n all made =
    rw (made, all) (record { long = marks_below_length w (bookings w); each = λ s h. marked_below_lem w (bookings w) s (omega arith) })

-- ---- the turn of booking j

module _ (w : List ℕ) (j : ℕ) where
  -- a booking of j's slot with a mark is j, if no other has one
  own_mark : has_mark w (slot_of w j) ≡ true → another_marked w j ≡ false → mark_of w j ≡ 1
  own_mark e free = go (ℕ_discrete i j)
    where
      hit : (i : ℕ) × (i < bookings w) × ((is_marked w i && eqb (slot_of w i) (slot_of w j)) ≡ true)
      hit = any→ (λ i. is_marked w i && eqb (slot_of w i) (slot_of w j)) (bookings w) e

      i : ℕ
      i = hit.0

      mark : mark_of w i ≡ 1
      mark = eqb-true (mark_of w i) 1 (and_left _ _ hit.2)

      go : Dec (i ≡ j) → mark_of w j ≡ 1
      go (yes q) = ap (mark_of w) (sym q) ∙ mark
      go (no d) =
          absurd
          (another_none w j free i
          (record { in_slot = record { below = hit.1; slot = eqb-true (slot_of w i) (slot_of w j) (and_right (is_marked w i) _ hit.2) }; another = d })
          mark)

  -- its slot has a mark: the turn changes nothing
  pub mark_one_held : has_mark w (slot_of w j) ≡ true → mark_one j w ≡ w
  unfolding mark_one
  mark_one_held e = go (earns w j) refl
    where
      go : (b : Bool) → earns w j ≡ b → cond b (with_mark w j) w ≡ w
      go true q =
          subst (λ v. set w (record_at j mark_field) v ≡ w) (own_mark e (not-true _ (and_right (meets_rule w j) _ q))) (set-get_or w (record_at j mark_field) 0)
      go false q = refl

  -- it has none: the rule decides
  pub mark_one_free : has_mark w (slot_of w j) ≡ false → mark_one j w ≡ cond (meets_rule w j) (with_mark w j) w
  unfolding mark_one
  mark_one_free e =
      ap (λ t. cond (meets_rule w j && not t) (with_mark w j) w) (another_false w j nobody) ∙ ap (λ t. cond t (with_mark w j) w) (and-true (meets_rule w j))
    where
      nobody : (i : ℕ) → Rival w j i → mark_of w i ≢ 1
      nobody i rival mark =
          true≢false
          (sym
          (→any (λ k. is_marked w k && eqb (slot_of w k) (slot_of w j)) (bookings w) i rival.in_slot.below
          (and_both _ _ (eq-eqb (mark_of w i) 1 mark) (eq-eqb (slot_of w i) (slot_of w j) rival.in_slot.slot)))
          ∙ e)

-- ---- once j is marked

module _ (w : List ℕ) (ledger : Ledger w) (j : ℕ) (below : j < bookings w) where
  many : bookings (with_mark w j) ≡ bookings w
  many = header_with_field_kept w j mark_field 1 0 (omega arith)

  slot_same : (i : ℕ) → slot_of (with_mark w j) i ≡ slot_of w i
  slot_same i = field_with_field_beside w j mark_field 1 i slot_field (omega arith) (omega arith) (omega arith)

  has_mark_own : has_mark (with_mark w j) (slot_of w j) ≡ true
  has_mark_own =
      →any (λ i. is_marked (with_mark w j) i && eqb (slot_of (with_mark w j) i) (slot_of w j)) (bookings (with_mark w j)) j (omega (arith, many))
      (and_both _ _ (eq-eqb (mark_of (with_mark w j) j) 1 mark) (eq-eqb (slot_of (with_mark w j) j) (slot_of w j) (slot_same j)))
    where
      mark : mark_of (with_mark w j) j ≡ 1
      mark = field_with_field_same w j mark_field 1 (omega (arith, ledger.whole, ledger.sound.bookings_most))

  has_mark_other : (s : ℕ) → s ≢ slot_of w j → has_mark (with_mark w j) s ≡ has_mark w s
  has_mark_other s d =
      ap (any (λ i. is_marked (with_mark w j) i && eqb (slot_of (with_mark w j) i) s)) many
      ∙ any_same (λ i. is_marked (with_mark w j) i && eqb (slot_of (with_mark w j) i) s) (λ i. is_marked w i && eqb (slot_of w i) s) (bookings w)
      (λ i l. ap (λ x. is_marked (with_mark w j) i && eqb x s) (slot_same i) ∙ go i (ℕ_discrete i j))
    where
      go : (i : ℕ) → Dec (i ≡ j) → is_marked (with_mark w j) i && eqb (slot_of w i) s ≡ is_marked w i && eqb (slot_of w i) s
      go i (yes q) = simp (ne_eqb (slot_of w i) s (λ e. d (sym e ∙ ap (slot_of w) q)), and-false)
      go i (no n) = rw (field_with_field_other w j mark_field 1 i mark_field (omega arith) (omega arith) n)

  -- and its slot's bit is set
  pub noted_with_mark : (noted : List ℕ) → SlotsNoted w noted → SlotsNoted (with_mark w j) (with_bit (slot_of w j) noted)
  noted_with_mark noted h = record { long = with_bit_length (slot_of w j) noted ∙ h.long; each = λ s u. go s u (ℕ_discrete s (slot_of w j)) }
    where
      go : (s : ℕ) → s < slots → Dec (s ≡ slot_of w j) → bit_at (with_bit (slot_of w j) noted) s ≡ has_mark (with_mark w j) s
      go s u (yes e) = rw e (bit_at_with_bit_same noted (slot_of w j) (omega (arith, h.long)) ∙ sym has_mark_own)
      go s u (no d) = bit_at_with_bit_other noted (slot_of w j) s (omega (arith, h.long)) d ∙ h.each s u ∙ sym (has_mark_other s d)

-- ---- the three ways that a turn ends, with s for the slot of j as it was read

module _ (w : List ℕ) (ledger : Ledger w) (j : ℕ) (below : j < bookings w) (noted : List ℕ) (h : SlotsNoted w noted) (s : ℕ) (slot : s ≡ slot_of w j) where
  told : (b : Bool) → bit_at noted s ≡ b → has_mark w (slot_of w j) ≡ b
  told b e = sym (h.each (slot_of w j) (slot_of_lt w ledger.sound j below)) ∙ ap (bit_at noted) (sym slot) ∙ e

  pub turn_held : bit_at noted s ≡ true → MarkedOne w j w noted
  turn_held set = record { after = sym (mark_one_held w j (told true set)); slots = h }

  module _ (free : bit_at noted s ≡ false) where
    by_rule : (b : Bool) → meets_rule w j ≡ b → mark_one j w ≡ cond b (with_mark w j) w
    by_rule b e = mark_one_free w j (told false free) ∙ ap (λ t. cond t (with_mark w j) w) e

    pub turn_undue : meets_rule w j ≡ false → MarkedOne w j w noted
    turn_undue e = record { after = sym (by_rule false e); slots = h }

    pub turn_due : {w' noted' : List ℕ} → meets_rule w j ≡ true → w' ≡ with_mark w j → noted' ≡ with_bit s noted → MarkedOne w j w' noted'
    turn_due e written set =
        record {
          after = written ∙ sym (by_rule true e);
          slots = rw (written, set, slot) (noted_with_mark w ledger j below noted h);
        }
