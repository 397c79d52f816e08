-- The test of one booking and the statement agree: slot, parents, state, ordinal and mark; and what a value that is new among the lower numbers says.
use mathlib.Core.Path.{◌≡◌, sym, ap, subst, ◌∙◌}
use mathlib.Core.Bool.{Bool, true, true≢false, not, ◌&&◌, ◌||◌, cond}
use mathlib.Core.List.{List, [], ◌∷◌}
use mathlib.Core.Logic.{◌≢◌, ◌↔◌, ⊎_elim}
use Prim.Native.Nat.{ℕ, zero, suc, ◌≤◌, ◌<◌}
use native.Mathlib.Nat.{eq-or-lt_of_le, le_of_suc-le-suc}
use native.Mathlib.Omega.{arith}
use native.Mathlib.Decide.{dec_lt, ℕ_discrete}
use lib.ListN.{get_or}
use lib.Dec.{ltb, leb, eqb}
use borrow.Author.Tests.{leb-true, ltb-true, le-leb, lt-ltb, eqb-true, eqb-false, eq-eqb, ne_eqb, not-true, not-false}
use Rattle.loops.specs.Search.{any}
use Rattle.loops.proofs.Search.{none→, →none}
use Rattle.rules.specs.IsSound.{name_new, parent_good, parents_good, ordinal_new, state_good, mark_good, booking_good}
use Rattle.rules.specs.Sound.{Booking}
use Rattle.rules.specs.Layout.{slots, most_parents, none, polls, slot_of, parent_of, state_of, ordinal_of, mark_of, is_marked}
use Rattle.loops.proofs.Bools.{row_at, row_by, and_left, and_right, and_both, refuted, or_right, or_else, cond_agree, agree_cond}

-- ---- a value that no lower number has

pub new→differs : (f : ℕ → ℕ) (i : ℕ) → not (any (λ j. eqb (f j) (f i)) i) ≡ true → (j : ℕ) → j < i → f j ≢ f i
new→differs f i e j l = eqb-false (f j) (f i) (none→ (λ j. eqb (f j) (f i)) i (not-true _ e) j l)

pub differs→new : (f : ℕ → ℕ) (i : ℕ) → ((j : ℕ) → j < i → f j ≢ f i) → not (any (λ j. eqb (f j) (f i)) i) ≡ true
differs→new f i h = ap not (→none (λ j. eqb (f j) (f i)) i (λ j l. ne_eqb (f j) (f i) (h j l)))

-- what holds between each number and the lower ones holds between any two that differ, if the two may change places
pub either_order : (n : ℕ) (R : ℕ → ℕ → Type 0)
    → ((i j : ℕ) → R i j → R j i)
    → ((i : ℕ) → i < n → (j : ℕ) → j < i → R j i)
    → (i j : ℕ) → i < n → j < n → i ≢ j → R i j
either_order n R turn lower i j li lj q = go (dec_lt i j)
  where
    go : Dec (i < j) → R i j
    go (yes l) = lower j lj i l
    go (no l) = turn j i (lower i li j (omega arith))

-- ---- parents

-- what holds at each of the four places
pub at_place : (P : ℕ → Type 0) → P 0 → P 1 → P 2 → P 3 → (a : ℕ) → a < most_parents → P a
at_place P p q r s zero u = p
at_place P p q r s (suc zero) u = q
at_place P p q r s (suc (suc zero)) u = r
at_place P p q r s (suc (suc (suc zero))) u = s
at_place P p q r s (suc (suc (suc (suc a)))) u = absurd (omega arith)

abbrev parent_tests : List ℕ → ℕ → List Bool
parent_tests w i =
    not (eqb (parent_of w i 0) none)
    ∷ (not (eqb (parent_of w i 1) none) || eqb (parent_of w i 2) none)
    ∷ (not (eqb (parent_of w i 2) none) || eqb (parent_of w i 3) none)
    ∷ parent_good w i 0 ∷ parent_good w i 1 ∷ parent_good w i 2 ∷ parent_good w i 3
    ∷ []

-- what passes on from each place to the next passes on to every later one
passed_on : (n : ℕ) (P : ℕ → Type 0) → ((a : ℕ) → suc a < n → P a → P (suc a)) → (a b : ℕ) → a < b → b < n → P a → P b
passed_on n P next a zero l u p = absurd (omega arith)
passed_on n P next a (suc b) l u p =
    ⊎_elim
    (λ (q : a ≡ b). next b u (subst P q p))
    (λ (q : a < b). next b u (passed_on n P next a b q (omega arith) p))
    (eq-or-lt_of_le (le_of_suc-le-suc l))

module _ (w : List ℕ) (i : ℕ) (e : parents_good w i ≡ true) where
  parents_at : (k : ℕ) → get_or (parent_tests w i) k true ≡ true
  unfolding parents_good
  parents_at = row_at (parent_tests w i) e

  parent_first : parent_of w i 0 ≢ none
  parent_first = eqb-false (parent_of w i 0) none (not-true _ (parents_at 0))

  -- the place after an unused one is unused
  parent_next : (a : ℕ) → suc a < most_parents → parent_of w i a ≡ none → parent_of w i (suc a) ≡ none
  parent_next zero u q = absurd (parent_first q)
  parent_next (suc zero) u q = eqb-true (parent_of w i 2) none (or_right _ _ (parents_at 1) (ap not (eq-eqb _ _ q)))
  parent_next (suc (suc zero)) u q = eqb-true (parent_of w i 3) none (or_right _ _ (parents_at 2) (ap not (eq-eqb _ _ q)))
  parent_next (suc (suc (suc a))) u q = absurd (omega arith)

  parent_good_lem : (a : ℕ) → a < most_parents → parent_good w i a ≡ true
  parent_good_lem = at_place (λ a. parent_good w i a ≡ true) (parents_at 3) (parents_at 4) (parents_at 5) (parents_at 6)

  -- a used place holds a lower number that no earlier place holds
  parent_used : (a : ℕ) → a < most_parents → parent_of w i a ≢ none
      → (ltb (parent_of w i a) i && not (any (λ b. eqb (parent_of w i b) (parent_of w i a)) a)) ≡ true
  parent_used a u q = or_right _ _ (parent_good_lem a u) (ne_eqb _ _ q)

  parent_lower : (a : ℕ) → a < most_parents → parent_of w i a ≢ none → parent_of w i a < i
  parent_lower a u q = ltb-true _ _ (and_left _ _ (parent_used a u q))

  parents_distinct_lem : (a b : ℕ) → a < b → b < most_parents → parent_of w i b ≢ none → parent_of w i a ≢ parent_of w i b
  parents_distinct_lem a b l u q = new→differs (parent_of w i) b (and_right (ltb (parent_of w i b) i) _ (parent_used b u q)) a l

module _ (w : List ℕ) (i : ℕ) (b : Booking w i) where
  -- were the first place unused, all would be
  first_used : parent_of w i 0 ≢ none
  first_used q = go b.parent_some.0 b.parent_some.1 b.parent_some.2
    where
      go : (a : ℕ) → a < most_parents → parent_of w i a ≢ none → ⊥
      go zero u r = r q
      go (suc a) u r = r (b.unused_after 0 (suc a) (omega arith) u q)

  next_unused : (a : ℕ) → suc a < most_parents → (not (eqb (parent_of w i a) none) || eqb (parent_of w i (suc a)) none) ≡ true
  next_unused a u =
      or_else _ _ (λ t. eq-eqb _ _ (b.unused_after a (suc a) (omega arith) u (eqb-true (parent_of w i a) none (not-false _ t))))

  each_parent : (a : ℕ) → a < most_parents → parent_good w i a ≡ true
  each_parent a u =
      or_else _ _ (λ t.
      and_both _ _ (lt-ltb _ _ (b.parents_lower a u (eqb-false _ _ t)))
      (differs→new (parent_of w i) a (λ c l. b.parents_distinct c a l u (eqb-false _ _ t))))

  Booking→parentsGood : parents_good w i ≡ true
  unfolding parents_good
  Booking→parentsGood =
      row_by (parent_tests w i) (ap not (ne_eqb _ _ first_used)) (next_unused 1 (omega arith)) (next_unused 2 (omega arith))
      (each_parent 0 (omega arith)) (each_parent 1 (omega arith)) (each_parent 2 (omega arith)) (each_parent 3 (omega arith))

-- ---- state and ordinal

abbrev state_tests : List ℕ → ℕ → List Bool
state_tests w i =
    leb (state_of w i) 2
    ∷ cond (eqb (state_of w i) 0) (eqb (ordinal_of w i) 0) (not (eqb (ordinal_of w i) 0))
    ∷ leb (ordinal_of w i) (polls w)
    ∷ []

-- two tests for 0 agree exactly if one number is 0 where the other is
agree→zero : (x y : ℕ) → eqb x 0 ≡ eqb y 0 → x ≡ 0 → y ≡ 0
agree→zero x y e q = eqb-true y 0 (sym e ∙ eq-eqb x 0 q)

zero→agree : (x y : ℕ) → (x ≡ 0) ↔ (y ≡ 0) → eqb y 0 ≡ eqb x 0
zero→agree x y h = go (ℕ_discrete x 0)
  where
    go : Dec (x ≡ 0) → eqb y 0 ≡ eqb x 0
    go (yes q) = eq-eqb y 0 (h.0 q) ∙ sym (eq-eqb x 0 q)
    go (no q) = ne_eqb y 0 (λ z. q (h.1 z)) ∙ sym (ne_eqb x 0 q)

module _ (w : List ℕ) (i : ℕ) (e : state_good w i ≡ true) where
  state_at : (k : ℕ) → get_or (state_tests w i) k true ≡ true
  unfolding state_good
  state_at = row_at (state_tests w i) e

  ordinal_waiting_lem : (ordinal_of w i ≡ 0) ↔ (state_of w i ≡ 0)
  ordinal_waiting_lem =
      let agree : eqb (state_of w i) 0 ≡ eqb (ordinal_of w i) 0 = cond_agree _ _ (state_at 1) in
      (agree→zero (ordinal_of w i) (state_of w i) (sym agree), agree→zero (state_of w i) (ordinal_of w i) agree)

  pub state_good→ordinal_most : ordinal_of w i ≤ polls w
  state_good→ordinal_most = leb-true (ordinal_of w i) (polls w) (state_at 2)

Booking→stateGood : (w : List ℕ) (i : ℕ) → Booking w i → ordinal_of w i ≤ polls w → state_good w i ≡ true
unfolding state_good
Booking→stateGood w i b most =
    row_by (state_tests w i) (le-leb _ _ b.state_known)
    (agree_cond _ _ (zero→agree (ordinal_of w i) (state_of w i) b.ordinal_waiting)) (le-leb _ _ most)

-- ---- mark

-- a lower record with a mark in the slot of i
abbrev marks_slot : List ℕ → ℕ → ℕ → Bool
marks_slot w i j = is_marked w j && eqb (slot_of w j) (slot_of w i)

module _ (w : List ℕ) (i : ℕ) (e : mark_good w i ≡ true) where
  pub mark_good→mark_known : mark_of w i ≤ 1
  unfolding mark_good
  mark_good→mark_known = leb-true (mark_of w i) 1 (and_left (leb (mark_of w i) 1) _ e)

  pub mark_good→mark_new : (j : ℕ) → j < i → mark_of w i ≡ 1 → mark_of w j ≡ 1 → slot_of w j ≢ slot_of w i
  unfolding mark_good
  mark_good→mark_new j l mi mj same =
      let none = or_right _ _ (and_right (leb (mark_of w i) 1) _ e) (ap not (eq-eqb (mark_of w i) 1 mi)) in
      true≢false (sym (and_both _ _ (eq-eqb (mark_of w j) 1 mj) (eq-eqb (slot_of w j) (slot_of w i) same)) ∙ none→ (marks_slot w i) i (not-true _ none) j l)

pub →mark_good : (w : List ℕ) (i : ℕ) → mark_of w i ≤ 1
    → ((j : ℕ) → j < i → mark_of w i ≡ 1 → mark_of w j ≡ 1 → slot_of w j ≢ slot_of w i)
    → mark_good w i ≡ true
unfolding mark_good
→mark_good w i known new =
    and_both _ _ (le-leb _ _ known)
    (or_else _ _ (λ t. ap not (→none (marks_slot w i) i (λ j l.
    refuted (marks_slot w i j) (λ e.
    new j l (eqb-true (mark_of w i) 1 (not-false _ t)) (eqb-true (mark_of w j) 1 (and_left _ _ e))
    (eqb-true (slot_of w j) (slot_of w i) (and_right (is_marked w j) _ e)))))))

-- ---- the whole row

abbrev booking_tests : List ℕ → ℕ → List Bool
booking_tests w i =
    name_new w i ∷ leb 1 (slot_of w i) ∷ ltb (slot_of w i) slots ∷ parents_good w i ∷ state_good w i ∷ ordinal_new w i ∷ mark_good w i ∷ []

module _ (w : List ℕ) (i : ℕ) (e : booking_good w i ≡ true) where
  booking_at_lem : (k : ℕ) → get_or (booking_tests w i) k true ≡ true
  unfolding booking_good
  booking_at_lem = row_at (booking_tests w i) e

  pub booking_good→name_new : name_new w i ≡ true
  booking_good→name_new = booking_at_lem 0

  pub booking_good→state_good : state_good w i ≡ true
  booking_good→state_good = booking_at_lem 4

  pub booking_good→ordinal_new : ordinal_new w i ≡ true
  booking_good→ordinal_new = booking_at_lem 5

  pub booking_good→mark_good : mark_good w i ≡ true
  booking_good→mark_good = booking_at_lem 6

  pub booking_good→Booking : Booking w i
  booking_good→Booking = record {
    slot_least = leb-true 1 (slot_of w i) (booking_at_lem 1);
    slot_most = ltb-true (slot_of w i) slots (booking_at_lem 2);
    parent_some = (0, omega arith, parent_first w i (booking_at_lem 3));
    unused_after = passed_on most_parents (λ a. parent_of w i a ≡ none) (parent_next w i (booking_at_lem 3));
    parents_distinct = parents_distinct_lem w i (booking_at_lem 3);
    parents_lower = parent_lower w i (booking_at_lem 3);
    state_known = leb-true (state_of w i) 2 (state_at w i (booking_at_lem 4) 0);
    ordinal_waiting = ordinal_waiting_lem w i (booking_at_lem 4);
  }

pub Booking→bookingGood : (w : List ℕ) (i : ℕ) → Booking w i
    → ordinal_of w i ≤ polls w → name_new w i ≡ true → ordinal_new w i ≡ true → mark_good w i ≡ true
    → booking_good w i ≡ true
unfolding booking_good
Booking→bookingGood w i b most name ordinal mark =
    row_by (booking_tests w i) name (le-leb _ _ b.slot_least) (lt-ltb _ _ b.slot_most) (Booking→parentsGood w i b)
    (Booking→stateGood w i b most) ordinal mark
