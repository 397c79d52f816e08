-- The pass over the marks keeps a ledger a ledger: a turn sets one mark, in a slot where no other is. Assumes nothing.
use mathlib.Core.Path.{◌≡◌, refl, sym, ap, ◌∙◌}
use mathlib.Core.Bool.{Bool, true, false, cond}
use mathlib.Core.List.{List}
use mathlib.Core.Logic.{◌≢◌}
use Prim.Native.Nat.{ℕ, ◌<◌, ◌≤◌}
use native.Mathlib.Omega.{arith}
use native.Mathlib.Decide.{ℕ_discrete}
use borrow.Author.Tests.{not-true}
use Rattle.loops.proofs.Turns.{up_to_kept}
use Rattle.loops.proofs.Bools.{and_right}
use Rattle.rules.specs.Layout.{most_bookings, bookings, mark_field, slot_of, mark_of}
use Rattle.rules.specs.Sound.{Sound, Ledger}
use Rattle.rules.specs.Marks.{meets_rule, another_marked, mark_one, marked_below, marked}
use Rattle.rule_laws.proofs.Words.{
  length_with_field,
  header_with_field_kept,
  field_with_field_same,
  field_with_field_other,
  field_with_field_beside,
  entry_with_field_kept,
}
use Rattle.rule_laws.proofs.Marked.{earns, with_mark, another_none, word_mark_one_other}
use Rattle.rule_laws.proofs.ButMarks.{ButMarks, MarksSound, Ledger_but_marks}

module _ (w : List ℕ) (ledger : Ledger w) (j : ℕ) (below : j < bookings w) (free : another_marked w j ≡ false) where
  sound : Sound w
  sound = ledger.sound

  v : List ℕ
  v = with_mark w j

  few : j < most_bookings
  few = omega (arith, sound.bookings_most)

  mark_own : mark_of v j ≡ 1
  unfolding v
  mark_own = field_with_field_same w j mark_field 1 (omega (arith, ledger.whole, few))

  mark_other : (i : ℕ) → i ≢ j → mark_of v i ≡ mark_of w i
  unfolding v
  mark_other i d = field_with_field_other w j mark_field 1 i mark_field (omega arith) (omega arith) d

  but_marks : ButMarks w v
  unfolding v
  but_marks =
      record {
        long = length_with_field w j mark_field 1;
        head = header_with_field_kept w j mark_field 1;
        same = λ i g h d. field_with_field_beside w j mark_field 1 i g (omega arith) h d;
        entries = λ s g. entry_with_field_kept w j mark_field 1 s g few (omega arith);
      }

  mark_known_lem : (i : ℕ) → i < bookings w → mark_of v i ≤ 1
  mark_known_lem i u = go (ℕ_discrete i j)
    where
      go : Dec (i ≡ j) → mark_of v i ≤ 1
      go (yes e) = rw e (omega (arith, mark_own))
      go (no d) = omega (arith, mark_other i d, sound.mark_known i u)

  -- no other booking of the slot was marked
  alone : (i : ℕ) → i < bookings w → i ≢ j → mark_of w i ≡ 1 → slot_of w i ≢ slot_of w j
  alone i u d mark e = another_none w j free i (record { in_slot = record { below = u; slot = e }; another = d }) mark

  mark_alone_lem : (i k : ℕ) → i < bookings w → k < bookings w → i ≢ k → mark_of v i ≡ 1 → mark_of v k ≡ 1 → slot_of w i ≢ slot_of w k
  mark_alone_lem i k u x d mi mk = go (ℕ_discrete i j) (ℕ_discrete k j)
    where
      go : Dec (i ≡ j) → Dec (k ≡ j) → slot_of w i ≢ slot_of w k
      go (yes p) (yes q) = absurd (d (p ∙ sym q))
      go (yes p) (no q) = λ e. alone k x q (sym (mark_other k q) ∙ mk) (sym e ∙ ap (slot_of w) p)
      go (no p) (yes q) = λ e. alone i u p (sym (mark_other i p) ∙ mi) (e ∙ ap (slot_of w) q)
      go (no p) (no q) = sound.mark_alone i k u x d (sym (mark_other i p) ∙ mi) (sym (mark_other k q) ∙ mk)

  genesis_mark_lem : mark_of v 0 ≡ 1
  genesis_mark_lem = go (ℕ_discrete 0 j)
    where
      go : Dec (0 ≡ j) → mark_of v 0 ≡ 1
      go (yes e) = ap (mark_of v) e ∙ mark_own
      go (no d) = mark_other 0 d ∙ sound.genesis_mark

  Ledger_with_mark : Ledger v
  Ledger_with_mark =
      Ledger_but_marks w v but_marks ledger
      (record {
        genesis = genesis_mark_lem;
        known = mark_known_lem;
        alone = mark_alone_lem;
        rest = λ i l u. mark_other i (λ q. omega (arith, below)) ∙ sound.rest_zero i mark_field l u (omega arith);
      })

pub Ledger_mark_one : (w : List ℕ) → Ledger w → (j : ℕ) → j < bookings w → Ledger (mark_one j w)
unfolding mark_one v
Ledger_mark_one w ledger j below = go (earns w j) refl
  where
    go : (b : Bool) → earns w j ≡ b → Ledger (cond b (with_mark w j) w)
    go true e = Ledger_with_mark w ledger j below (not-true _ (and_right (meets_rule w j) _ e))
    go false e = ledger

pub bookings_mark_one : (j : ℕ) (w : List ℕ) → bookings (mark_one j w) ≡ bookings w
bookings_mark_one j w = word_mark_one_other j w 0 (λ e. omega arith)

-- so is every turn's outcome, and the whole pass
pub Ledger_marked_below : (w : List ℕ) → Ledger w → (n : ℕ) → n ≤ bookings w → Ledger (marked_below n w)
Ledger_marked_below w ledger n most =
    (up_to_kept mark_one (λ v. Ledger v × (bookings v ≡ bookings w)) n
    (λ j l v h. (Ledger_mark_one v h.0 j (omega (arith, h.1)), bookings_mark_one j v ∙ h.1)) w (ledger, refl)).0

pub Ledger_marked : (w : List ℕ) → Ledger w → Ledger (marked w)
Ledger_marked w ledger = Ledger_marked_below w ledger (bookings w) (omega arith)
