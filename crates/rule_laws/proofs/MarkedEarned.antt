-- Whose marks the pass leaves, on a ledger: those that were there, and those that are earned by the words that it leaves. Assumes nothing.
-- Turn i reads the marks of lower numbers, which no later turn changes, and finds a rival's mark just where there is one at the end.
use mathlib.Core.Path.{◌≡◌, refl, sym, ap, ◌∙◌}
use mathlib.Core.Bool.{Bool, true, false, not, cond}
use mathlib.Core.List.{List}
use mathlib.Core.Logic.{◌≢◌, inl, inr}
use Prim.Native.Nat.{ℕ, ◌+◌, ◌<◌, ◌≤◌}
use native.Mathlib.Omega.{arith}
use native.Mathlib.Decide.{dec_lt}
use Rattle.loops.proofs.Bools.{and_left, and_both}
use Rattle.terms.specs.declared.setting.Setting.{Setting}
use Rattle.rules.specs.Layout.{most_bookings, most_parents, entry, bookings, setting_in, slot_field, parents_field, preferred_field, last_field, counter_field, held_field, slot_of, parent_of, mark_of}
use Rattle.rules.specs.Ancestry.{Parent}
use Rattle.rules.specs.Sound.{Ledger}
use Rattle.rules.specs.AsRead.{Enough, Meets, Rival, Earned}
use Rattle.rules.specs.Marks.{meets_rule, marked_below, marked}
use Rattle.rule_laws.proofs.Ancestry.{Parent_lt}
use Rattle.rule_laws.proofs.Words.{setting_in_kept}
use Rattle.rule_laws.proofs.Marked.{earns, meets_is, another_false, mark_mark_one_same, length_marked, header_marked_kept, field_marked_beside, mark_marked_rest, entry_marked_kept, mark_turn}
use Rattle.rule_laws.proofs.MarkedSound.{Ledger_marked}

-- ---- what the rule reads, in words that differ in marks alone

-- u and v have the same bookings, setting and entries
record Alike (u v : List ℕ) : Type 0 where
  many : bookings v ≡ bookings u
  setting : setting_in v ≡ setting_in u
  slot : (i : ℕ) → slot_of v i ≡ slot_of u i
  parent : (i a : ℕ) → a < most_parents → parent_of v i a ≡ parent_of u i a
  entries : (s g : ℕ) → entry v s g ≡ entry u s g

module _ (u v : List ℕ) (alike : Alike u v) (i : ℕ) where
  slot_entry : (g : ℕ) → entry v (slot_of v i) g ≡ entry u (slot_of u i) g
  slot_entry g = ap (λ s. entry v s g) (alike.slot i) ∙ alike.entries (slot_of u i) g

  enough_kept : (beta : Setting → ℕ) → Enough u i (beta (setting_in u)) → Enough v i (beta (setting_in v))
  enough_kept beta e =
      let edition : (setting_in v).edition ≡ (setting_in u).edition = ap (λ s. s.edition) alike.setting in
      let same : beta (setting_in v) ≡ beta (setting_in u) = ap beta alike.setting in
      record {
        above = λ d. omega (arith, same, slot_entry counter_field, e.above (λ q. d (edition ∙ q)));
        at_least = λ q. omega (arith, same, slot_entry counter_field, e.at_least (sym edition ∙ q));
      }

  -- the rule holds still where the parents' marks do
  Meets_kept : ((p : ℕ) → Parent u i p → mark_of u p ≡ 1 → mark_of v p ≡ 1) → Meets u i → Meets v i
  Meets_kept marks (inl z) = inl z
  Meets_kept marks (inr (inl f)) =
      inr
      (inl
      (record {
        parents = λ p a.
            let before : Parent u i p
            = record { place = a.place; within = a.within; stands = sym (alike.parent i a.place a.within) ∙ a.stands; used = a.used } in
            marks p before (f.parents p before);
        alone = slot_entry held_field ∙ f.alone;
        counter = enough_kept (λ s. s.beta1) f.counter;
      }))
  Meets_kept marks (inr (inr s)) =
      inr
      (inr
      (record {
        preferred = slot_entry preferred_field ∙ s.preferred;
        last = slot_entry last_field ∙ s.last;
        counter = enough_kept (λ s. s.beta2) s.counter;
      }))

  Rival_kept : (j : ℕ) → Rival u i j → Rival v i j
  Rival_kept j r =
      record {
        in_slot = record { below = omega (arith, alike.many, r.in_slot.below); slot = alike.slot j ∙ r.in_slot.slot ∙ sym (alike.slot i) };
        another = r.another;
      }

Alike_sym : (u v : List ℕ) → Alike u v → Alike v u
Alike_sym u v a =
    record {
      many = sym a.many;
      setting = sym a.setting;
      slot = λ i. sym (a.slot i);
      parent = λ i p l. sym (a.parent i p l);
      entries = λ s g. sym (a.entries s g);
    }

-- ---- the pass

module _ (w : List ℕ) (ledger : Ledger w) where
  few : bookings w ≤ most_bookings
  few = ledger.sound.bookings_most

  -- the words before a turn are like those before the pass
  alike_below : (n : ℕ) → n ≤ bookings w → Alike w (marked_below n w)
  alike_below n l =
      record {
        many = header_marked_kept n w 0 (omega arith);
        setting = setting_in_kept w (marked_below n w) (λ g a b d. header_marked_kept n w g (omega arith));
        slot = λ i. field_marked_beside n w i slot_field (omega arith) (omega arith);
        parent = λ i a h. field_marked_beside n w i (parents_field + a) (omega arith) (omega arith);
        entries = λ s g. entry_marked_kept n w s g (omega (arith, few));
      }

  -- turn i sets the mark if it is earned then
  mark_decided : (n i : ℕ) → n ≤ bookings w → i < n → mark_of (marked_below n w) i ≡ cond (earns (marked_below i w) i) 1 (mark_of w i)
  mark_decided n i l u =
      mark_turn n w i u
      ∙ mark_mark_one_same i (marked_below i w) (omega (arith, length_marked i w, ledger.whole, few))
      ∙ ap (cond (earns (marked_below i w) i) 1) (mark_marked_rest i w i (omega arith))

  -- a mark that is there stays
  mark_stays_below : (n : ℕ) → n ≤ bookings w → (i : ℕ) → mark_of w i ≡ 1 → mark_of (marked_below n w) i ≡ 1
  mark_stays_below n l i e = go (dec_lt i n)
    where
      kept : (b : Bool) → cond b 1 (mark_of w i) ≡ 1
      kept true = refl
      kept false = e

      go : Dec (i < n) → mark_of (marked_below n w) i ≡ 1
      go (yes u) = mark_decided n i l u ∙ kept (earns (marked_below i w) i)
      go (no h) = mark_marked_rest n w i (omega arith) ∙ e

  pub mark_stays : (i : ℕ) → mark_of w i ≡ 1 → mark_of (marked w) i ≡ 1
  mark_stays = mark_stays_below (bookings w) (omega arith)

  -- the mark of a lower number is the same before turn n and at the end
  mark_final : (n i : ℕ) → n ≤ bookings w → i < n → mark_of (marked w) i ≡ mark_of (marked_below n w) i
  mark_final n i l u = mark_turn (bookings w) w i (omega arith) ∙ sym (mark_turn n w i u)

  -- what is marked before a turn is marked at the end
  mark_grows : (n : ℕ) → n ≤ bookings w → (i : ℕ) → mark_of (marked_below n w) i ≡ 1 → mark_of (marked w) i ≡ 1
  mark_grows n l i e = go (dec_lt i n)
    where
      go : Dec (i < n) → mark_of (marked w) i ≡ 1
      go (yes u) = mark_final n i l u ∙ e
      go (no h) = mark_stays i (sym (mark_marked_rest n w i (omega arith)) ∙ e)

  alike_since : (n : ℕ) → n ≤ bookings w → Alike (marked_below n w) (marked w)
  alike_since n l =
      let early = alike_below n l in
      let late = alike_below (bookings w) (omega arith) in
      record {
        many = late.many ∙ sym early.many;
        setting = late.setting ∙ sym early.setting;
        slot = λ i. late.slot i ∙ sym (early.slot i);
        parent = λ i a h. late.parent i a h ∙ sym (early.parent i a h);
        entries = λ s g. late.entries s g ∙ sym (early.entries s g);
      }

  module _ (i : ℕ) (below : i < bookings w) where
    here : i ≤ bookings w
    here = omega arith

    below_after : i < bookings (marked w)
    below_after = omega (arith, (alike_below (bookings w) (omega arith)).many)

    -- a mark that was not there is earned
    pub marked→Earned : mark_of w i ≢ 1 → mark_of (marked w) i ≡ 1 → Earned (marked w) i
    marked→Earned new now =
        let e = earned (earns (marked_below i w) i) refl in
        let sound = (Ledger_marked w ledger).sound in
        record {
          meets =
              Meets_kept (marked_below i w) (marked w) (alike_since i here) i (λ p a. mark_grows i here p)
              ((meets_is (marked_below i w) i).0 (and_left (meets_rule (marked_below i w) i) _ e));
          unrivalled = λ j r m. sound.mark_alone j i r.in_slot.below below_after r.another m now r.in_slot.slot;
        }
      where
        earned : (b : Bool) → earns (marked_below i w) i ≡ b → earns (marked_below i w) i ≡ true
        earned true e = e
        earned false e = absurd (new (sym (ap (λ b. cond b 1 (mark_of w i)) e) ∙ sym (mark_decided (bookings w) i (omega arith) below) ∙ now))

    -- and what is earned is marked
    pub Earned→marked : Earned (marked w) i → mark_of (marked w) i ≡ 1
    Earned→marked earned =
        let back = Alike_sym (marked_below i w) (marked w) (alike_since i here) in
        let lower : (p : ℕ) → Parent (marked w) i p → p < i = λ p. Parent_lt (marked w) (Ledger_marked w ledger).sound i p below_after in
        let meets =
        Meets_kept (marked w) (marked_below i w) back i (λ p a m. sym (mark_final i p here (lower p a)) ∙ m) earned.meets in
        let alone =
        another_false (marked_below i w) i
        (λ j r m. earned.unrivalled j (Rival_kept (marked_below i w) (marked w) (alike_since i here) i j r) (mark_grows i here j m)) in
        mark_decided (bookings w) i (omega arith) below
        ∙ ap (λ b. cond b 1 (mark_of w i)) (and_both _ _ ((meets_is (marked_below i w) i).1 meets) (ap not alone))
