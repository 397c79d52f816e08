-- A slot's bit is set exactly if a marked record has the slot, so that the bits judge a mark as a look back does.
use mathlib.Core.Path.{◌≡◌, refl, ◌∙◌}
use mathlib.Core.Bool.{Bool, true, false, ◌&&◌, cond}
use mathlib.Core.List.{List}
use Prim.Native.Nat.{ℕ, ◌<◌}
use native.Mathlib.Omega.{arith}
use lib.Dec.{eqb}
use lib.ListN.{length}
use borrow.Author.Tests.{ne_eqb}
use Rattle.loops.specs.Search.{any}
use Rattle.loops.proofs.Search.{any_same}
use Rattle.bits.specs.Bits.{bit_at}
use Rattle.bits.specs.Members.{bit_words}
use Rattle.bits.proofs.SetBelow.{set_below_length, bit_at_set_below}
use Rattle.rules.specs.Layout.{most_bookings, none, slot_of, is_marked}
use Rattle.rules.specs.IsSound.{mark_good}
use Rattle.marked_slots.specs.MarkedSlots.{marked_slot, marks_below, mark_good_by}

-- a number that has a bit is none that stands for no slot
slot_or_none : (t : Bool) (r s : ℕ) → s < most_bookings → eqb (cond t r none) s ≡ t && eqb r s
slot_or_none true r s h = refl
slot_or_none false r s h = ne_eqb none s (λ e. omega arith)

module _ (w : List ℕ) (i : ℕ) where
  pub marks_below_length : length (marks_below w i) ≡ bit_words
  marks_below_length = set_below_length (marked_slot w) i

  -- some record below i is marked and has slot s
  pub marked_below_lem : (s : ℕ) → s < most_bookings → bit_at (marks_below w i) s ≡ any (λ j. is_marked w j && eqb (slot_of w j) s) i
  marked_below_lem s h =
      bit_at_set_below (marked_slot w) i s (omega arith) ∙ any_same _ _ i (λ j l. slot_or_none (is_marked w j) (slot_of w j) s h)

  -- where the record's own slot has a bit
  pub mark_good_marked : slot_of w i < most_bookings → mark_good_by (marks_below w i) w i ≡ mark_good w i
  unfolding mark_good
  mark_good_marked h = rw (marked_below_lem (slot_of w i) h)
