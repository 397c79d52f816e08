-- The rule of acceptance as people read it, and what the pass over the marks does: turn j may set the mark of record j, and every other word stays.
-- No turn takes a mark away, and a booking's rule reads the marks of lower numbers only, so at the end the marks are just those that were there and those that are earned.
-- Assumes nothing.
use mathlib.Core.Path.{◌≡◌, refl, sym, ap, subst, ◌∙◌}
use mathlib.Core.Bool.{Bool, true, false, true≢false, ◌&&◌, ◌||◌, not, cond, and-eq-true_iff}
use mathlib.Core.List.{List}
use mathlib.Core.Logic.{◌≢◌, inl, inr, ⊎_elim, ◌↔◌}
use Prim.Native.Nat.{ℕ, ◌<◌, ◌≤◌}
use native.Mathlib.Omega.{arith}
use lib.ListN.{length, get_or, length-set}
use lib.Seq.{get_or-set_same, get_or-set_other}
use lib.Dec.{eqb}
use borrow.Author.Tests.{eqb-true, eqb-false, eq-eqb, ne_eqb, not-true}
use Rattle.loops.proofs.Turns.{up_to_kept, up_to_since}
use Rattle.loops.proofs.Search.{all→, →all, none→, →none}
use Rattle.loops.proofs.Bools.{and_left, and_right, and_both, refuted, or_right, or_else, or_either}
use Rattle.terms.proofs.Editions.{enough_is}
use Rattle.rules.specs.Layout.{most_bookings, most_parents, header_words, record_words, none, record_at, slot_at, header, field, entry, bookings, setting_in, mark_field, slot_of, parent_of, mark_of, is_marked, counter_in, with_field}
use Rattle.rules.specs.Ancestry.{Parent}
use Rattle.rules.specs.Readings.{is_rival}
use Rattle.rules.specs.Marks.{counter_enough, parent_marked, parents_marked, first_arm, second_arm, meets_rule, another_marked, mark_one, marked_below}
use Rattle.rules.specs.AsRead.{Enough, FirstArm, SecondArm, Meets, Rival}

-- ---- the rule as people read it

module _ (w : List ℕ) (i : ℕ) where
  parents_are : (parents_marked w i ≡ true) ↔ ((p : ℕ) → Parent w i p → mark_of w p ≡ 1)
  parents_are = (to, from)
    where
      to : parents_marked w i ≡ true → (p : ℕ) → Parent w i p → mark_of w p ≡ 1
      to e p a =
          let passed = all→ (parent_marked w i) most_parents e a.place a.within in
          eqb-true (mark_of w p) 1
          (or_right _ _ (subst (λ x. (eqb x none || is_marked w x) ≡ true) a.stands passed) (ne_eqb p none a.used))

      from : ((p : ℕ) → Parent w i p → mark_of w p ≡ 1) → parents_marked w i ≡ true
      from h =
          →all (parent_marked w i) most_parents
          (λ b l.
          or_else _ _ (λ t. eq-eqb _ 1 (h (parent_of w i b) (record { place = b; within = l; stands = refl; used = eqb-false _ _ t }))))

  enough_are : (beta : ℕ) → (counter_enough w i beta ≡ true) ↔ Enough w i beta
  enough_are beta =
      let told = enough_is (setting_in w).edition beta (counter_in w (slot_of w i)) in
      (λ e. record { above = (told.0 e).0; at_least = (told.0 e).1 }, λ f. told.1 (f.above, f.at_least))

  first_are : (first_arm w i ≡ true) ↔ FirstArm w i
  first_are = (to, from)
    where
      to : first_arm w i ≡ true → FirstArm w i
      to e =
          let u = (and-eq-true_iff _ _).0 e in
          let v = (and-eq-true_iff _ _).0 u.0 in
          record { parents = parents_are.0 v.0; alone = eqb-true _ _ v.1; counter = (enough_are _).0 u.1 }

      from : FirstArm w i → first_arm w i ≡ true
      from f = and_both _ _ (and_both _ _ (parents_are.1 f.parents) (eq-eqb _ _ f.alone)) ((enough_are _).1 f.counter)

  second_are : (second_arm w i ≡ true) ↔ SecondArm w i
  second_are = (to, from)
    where
      to : second_arm w i ≡ true → SecondArm w i
      to e =
          let u = (and-eq-true_iff _ _).0 e in
          let v = (and-eq-true_iff _ _).0 u.0 in
          record { preferred = eqb-true _ _ v.0; last = eqb-true _ _ v.1; counter = (enough_are _).0 u.1 }

      from : SecondArm w i → second_arm w i ≡ true
      from f = and_both _ _ (and_both _ _ (eq-eqb _ _ f.preferred) (eq-eqb _ _ f.last)) ((enough_are _).1 f.counter)

  -- the test says what people read, on any words
  pub meets_is : (meets_rule w i ≡ true) ↔ Meets w i
  meets_is = (to, from)
    where
      to : meets_rule w i ≡ true → Meets w i
      to e =
          ⊎_elim
          (λ (f : (eqb i 0 || first_arm w i) ≡ true). ⊎_elim (λ z. inl (eqb-true i 0 z)) (λ g. inr (inl (first_are.0 g))) ((or_either _ _).0 f))
          (λ s. inr (inr (second_are.0 s)))
          ((or_either (eqb i 0 || first_arm w i) (second_arm w i)).0 e)

      early : (eqb i 0 || first_arm w i) ≡ true → meets_rule w i ≡ true
      early e = (or_either (eqb i 0 || first_arm w i) (second_arm w i)).1 (inl e)

      from : Meets w i → meets_rule w i ≡ true
      from (inl z) = early ((or_either (eqb i 0) (first_arm w i)).1 (inl (eq-eqb i 0 z)))
      from (inr (inl f)) = early ((or_either (eqb i 0) (first_arm w i)).1 (inr (first_are.1 f)))
      from (inr (inr s)) = (or_either (eqb i 0 || first_arm w i) (second_arm w i)).1 (inr (second_are.1 s))

  -- another booking of the slot is marked, or none is
  pub another_false : ((j : ℕ) → Rival w i j → mark_of w j ≢ 1) → another_marked w i ≡ false
  unfolding another_marked
  another_false h =
      →none (λ j. is_rival w i j && is_marked w j) (bookings w) (λ j l.
      refuted (is_rival w i j && is_marked w j) (λ e.
      let rival = and_left (is_rival w i j) _ e in
      h j (record { in_slot = record { below = l; slot = eqb-true _ _ (and_left _ _ rival) }; another = eqb-false _ _ (not-true _ (and_right (eqb (slot_of w j) (slot_of w i)) _ rival)) })
      (eqb-true (mark_of w j) 1 (and_right (is_rival w i j) _ e))))

  pub another_none : another_marked w i ≡ false → (j : ℕ) → Rival w i j → mark_of w j ≢ 1
  unfolding another_marked
  another_none e j rival mark =
      true≢false
      (sym
      (and_both _ _ (and_both _ _ (eq-eqb _ _ rival.in_slot.slot) (ap not (ne_eqb _ _ rival.another))) (eq-eqb (mark_of w j) 1 mark))
      ∙ none→ (λ j. is_rival w i j && is_marked w j) (bookings w) e j rival.in_slot.below)

-- ---- one turn

-- booking j meets the rule, and no other of its slot is marked
abbrev pub earns : List ℕ → ℕ → Bool
earns w j = meets_rule w j && not (another_marked w j)

abbrev pub with_mark : List ℕ → ℕ → List ℕ
with_mark w j = with_field w j mark_field 1

module _ (j : ℕ) (w : List ℕ) where
  pub length_mark_one : length (mark_one j w) ≡ length w
  unfolding mark_one
  length_mark_one = elim (earns w j) as (λ b. length (cond b (with_mark w j) w) ≡ length w) [ true ↦ length-set w (record_at j mark_field) 1 | false ↦ refl ]

  pub word_mark_one_other : (k : ℕ) → k ≢ record_at j mark_field → get_or (mark_one j w) k 0 ≡ get_or w k 0
  unfolding mark_one
  word_mark_one_other k d =
      elim (earns w j) as (λ b. get_or (cond b (with_mark w j) w) k 0 ≡ get_or w k 0)
      [ true ↦ get_or-set_other w (record_at j mark_field) k 1 0 d | false ↦ refl ]

  -- its own mark is set if it is earned
  pub mark_mark_one_same : record_at j mark_field < length w → mark_of (mark_one j w) j ≡ cond (earns w j) 1 (mark_of w j)
  unfolding mark_one
  mark_mark_one_same h =
      elim (earns w j) as (λ b. mark_of (cond b (with_mark w j) w) j ≡ cond b 1 (mark_of w j))
      [ true ↦ get_or-set_same w (record_at j mark_field) 1 0 h | false ↦ refl ]

-- ---- all turns below n

module _ (n : ℕ) (w : List ℕ) where
  pub length_marked : length (marked_below n w) ≡ length w
  length_marked = up_to_kept mark_one (λ v. length v ≡ length w) n (λ j l v e. length_mark_one j v ∙ e) w refl

  -- a word that is no mark of a record below n
  word_marked_other : (k : ℕ) → ((j : ℕ) → j < n → k ≢ record_at j mark_field) → get_or (marked_below n w) k 0 ≡ get_or w k 0
  word_marked_other k d = up_to_kept mark_one (λ v. get_or v k 0 ≡ get_or w k 0) n (λ j l v e. word_mark_one_other j v k (d j l) ∙ e) w refl

  pub header_marked_kept : (g : ℕ) → g < header_words → header (marked_below n w) g ≡ header w g
  header_marked_kept g h = word_marked_other g (λ j l e. omega arith)

  -- another field, of any record
  pub field_marked_beside : (i g : ℕ) → g < record_words → g ≢ mark_field → field (marked_below n w) i g ≡ field w i g
  field_marked_beside i g h d = word_marked_other (record_at i g) (λ j l e. d (omega arith))

  -- a record from n on
  pub mark_marked_rest : (i : ℕ) → n ≤ i → mark_of (marked_below n w) i ≡ mark_of w i
  mark_marked_rest i h = word_marked_other (record_at i mark_field) (λ j l e. omega arith)

  pub entry_marked_kept : (s g : ℕ) → n ≤ most_bookings → entry (marked_below n w) s g ≡ entry w s g
  entry_marked_kept s g h = word_marked_other (slot_at s g) (λ j l e. omega arith)

  -- turn j decides the mark of j, and no other turn touches it
  pub mark_turn : (j : ℕ) → j < n → mark_of (marked_below n w) j ≡ mark_of (mark_one j (marked_below j w)) j
  mark_turn j l =
      up_to_since mark_one (λ v. mark_of v j ≡ mark_of (mark_one j (marked_below j w)) j) n j l w refl
      (λ k u h v e. word_mark_one_other k v (record_at j mark_field) (λ q. omega arith) ∙ e)
