-- CR 9: good marks as people read them, and the words with these marks in place of their own: every other word stays, they are a ledger's again, their marks are
-- just these, and their day is the same. Assumes nothing.
use mathlib.Core.Path.{◌≡◌, refl, sym, ap, ◌∙◌}
use mathlib.Core.Bool.{Bool, true, false, ◌&&◌, not, true≢false}
use mathlib.Core.List.{List, [], ◌∷◌}
use mathlib.Core.Logic.{◌≢◌, ◌⊎◌, inl, inr, ⊎_elim}
use Prim.Native.Nat.{ℕ, zero, suc, ◌+◌, ◌-◌, ◌<◌, ◌≤◌}
use native.Mathlib.Nat.{eq-or-lt_of_le}
use native.Mathlib.Decide.{dec_lt, ℕ_discrete}
use native.Mathlib.Omega.{arith}
use lib.ListN.{length, get_or, length-set}
use lib.Seq.{get_or-set_same, get_or-set_other, ext_get_or}
use lib.Dec.{eqb, ltb}
use borrow.Author.Tests.{eqb-true, eqb-false, eq-eqb, ne_eqb, ltb-true, lt-ltb, not-true}
use Rattle.loops.specs.Search.{all, any}
use Rattle.loops.specs.Turns.{up_to}
use Rattle.loops.specs.Fill.{from, chosen}
use Rattle.loops.proofs.Bools.{and_left, and_right, and_both}
use Rattle.loops.proofs.Search.{all→, →all, any→, none→, →none}
use Rattle.loops.proofs.Turns.{up_to_kept, up_to_since}
use Rattle.loops.proofs.Fill.{from_agree, chosen_all, chosen_is, chosen_rising, chosen_at, length_chosen}
use Rattle.loops.proofs.Total.{count_some, distinct_most}
use Rattle.rules.specs.Layout.{size, slots, most_bookings, most_parents, record_words, record_at, slot_at, bookings, polls, mark_field, name_of, slot_of, parent_of, state_of, ordinal_of, mark_of, is_marked, with_field}
use Rattle.rules.specs.Sound.{Ledger}
use Rattle.rule_laws.proofs.ButMarks.{ButMarks, MarksSound, many_same, setting_same, slot_same, name_same, ordinal_same, state_same, Ledger_but_marks}
use Rattle.day_file.specs.Day.{DayBooking, slot_in, parent_count, booking_at, holder, poll_of, day_of, marks_of}
use Rattle.day_file.specs.Marks.{is_rising, starts_with_genesis, are_below, slot_marked, slots_differ, marks_good, MarksRight, unmark, unmarked_below, unmarked, mark_again, marked_again, remarked}

-- ---- good marks as people read them

module _ (bs : List DayBooking) (marks : List ℕ) where
  abbrev rises : ℕ → Bool
  rises a = ltb (get_or marks a 0) (get_or marks (a + 1) 0)

  -- neighbours rise, so all do
  rising_all : ((a : ℕ) → a + 1 < length marks → get_or marks a 0 < get_or marks (a + 1) 0) → (a d : ℕ) → a + suc d < length marks
      → get_or marks a 0 < get_or marks (a + suc d) 0
  rising_all h a zero u = h a u
  rising_all h a (suc d) u =
      let next : a + suc d + 1 ≡ a + suc (suc d) = omega arith in
      omega (arith, rising_all h a d (omega arith), rw next at (h (a + suc d) (omega arith)))

  started : (l : List ℕ) → starts_with_genesis l ≡ true → (0 < length l) × (get_or l 0 0 ≡ 0)
  started [] e = absurd (true≢false (sym e))
  started (m ∷ ms) e = (omega arith, eqb-true m 0 e)

  starts : (l : List ℕ) → 0 < length l → get_or l 0 0 ≡ 0 → starts_with_genesis l ≡ true
  starts [] u e = absurd (omega arith)
  starts (m ∷ ms) u e = eq-eqb m 0 e

  pub marks_right : marks_good bs marks ≡ true → MarksRight bs marks
  unfolding marks_good
  marks_right e =
      let three = and_left (is_rising marks && starts_with_genesis marks && are_below (length bs + 1) marks) (slots_differ bs marks) e in
      let two = and_left (is_rising marks && starts_with_genesis marks) (are_below (length bs + 1) marks) three in
      let start = started marks (and_right (is_rising marks) (starts_with_genesis marks) two) in
      let neighbours : (a : ℕ) → a + 1 < length marks → get_or marks a 0 < get_or marks (a + 1) 0 =
      λ a u. ltb-true _ _ (all→ rises (length marks - 1) (and_left (is_rising marks) (starts_with_genesis marks) two) a (omega arith)) in
      record {
        some = start.0;
        genesis = start.1;
        rising = λ a b l u.
            let there : a + suc (b - a - 1) ≡ b = omega arith in
            rw there at (rising_all neighbours a (b - a - 1) (omega arith));
        below = λ a u. ltb-true _ _ (all→ (λ a. ltb (get_or marks a 0) (length bs + 1)) (length marks) (and_right (is_rising marks && starts_with_genesis marks) (are_below (length bs + 1) marks) three) a u);
        apart = λ a b l u.
            let free = not-true _ (all→ (λ b. not (slot_marked bs marks b)) (length marks) (and_right (is_rising marks && starts_with_genesis marks && are_below (length bs + 1) marks) (slots_differ bs marks) e) b u) in
            eqb-false _ _ (none→ (λ a. eqb (slot_in bs (get_or marks a 0)) (slot_in bs (get_or marks b 0))) b free a l);
      }

  pub right_marks : MarksRight bs marks → marks_good bs marks ≡ true
  unfolding marks_good
  right_marks r =
      and_both _ _
      (and_both _ _
      (and_both _ _ (→all rises (length marks - 1) (λ a u. lt-ltb _ _ (r.rising a (a + 1) (omega arith) (omega arith)))) (starts marks r.some r.genesis))
      (→all (λ a. ltb (get_or marks a 0) (length bs + 1)) (length marks) (λ a u. lt-ltb _ _ (r.below a u))))
      (→all (λ b. not (slot_marked bs marks b)) (length marks) (λ b u.
      ap not (→none (λ a. eqb (slot_in bs (get_or marks a 0)) (slot_in bs (get_or marks b 0))) b (λ a l. ne_eqb _ _ (r.apart a b l u)))))

-- ---- words with other marks

module _ (w : List ℕ) where
  length_cleared : (n : ℕ) → length (unmarked_below n w) ≡ length w
  length_cleared n = up_to_kept unmark (λ v. length v ≡ length w) n (λ i u v e. length-set v (record_at i mark_field) 0 ∙ e) w refl

  word_cleared : (n k : ℕ) → ((i : ℕ) → i < n → k ≢ record_at i mark_field) → get_or (unmarked_below n w) k 0 ≡ get_or w k 0
  word_cleared n k d = up_to_kept unmark (λ v. get_or v k 0 ≡ get_or w k 0) n (λ i u v e. get_or-set_other v (record_at i mark_field) k 0 0 (d i u) ∙ e) w refl

  mark_cleared : (n i : ℕ) → i < n → record_at i mark_field < length w → mark_of (unmarked_below n w) i ≡ 0
  mark_cleared n i u h =
      up_to_since unmark (λ v. mark_of v i ≡ 0) n i u w
      (get_or-set_same (unmarked_below i w) (record_at i mark_field) 0 0 (omega (arith, length_cleared i)))
      (λ j l v b e. get_or-set_other b (record_at j mark_field) (record_at i mark_field) 0 0 (λ q. omega arith) ∙ e)

module _ (marks : List ℕ) (v : List ℕ) where
  length_again : (n : ℕ) → length (marked_again marks n v) ≡ length v
  length_again n = up_to_kept (mark_again marks) (λ x. length x ≡ length v) n (λ a u x e. length-set x (record_at (get_or marks a 0) mark_field) 1 ∙ e) v refl

  word_again : (n k : ℕ) → ((a : ℕ) → a < n → k ≢ record_at (get_or marks a 0) mark_field) → get_or (marked_again marks n v) k 0 ≡ get_or v k 0
  word_again n k d =
      up_to_kept (mark_again marks) (λ x. get_or x k 0 ≡ get_or v k 0) n (λ a u x e. get_or-set_other x (record_at (get_or marks a 0) mark_field) k 1 0 (d a u) ∙ e) v refl

  -- a mark that is set again is set
  mark_again_lem : (n a : ℕ) → a < n → record_at (get_or marks a 0) mark_field < length v → mark_of (marked_again marks n v) (get_or marks a 0) ≡ 1
  mark_again_lem n a u h =
      (up_to_since (mark_again marks) (λ x. (mark_of x (get_or marks a 0) ≡ 1) × (length x ≡ length v)) n a u v
      (get_or-set_same (marked_again marks a v) (record_at (get_or marks a 0) mark_field) 1 0 (omega (arith, length_again a)), length-set (marked_again marks a v) (record_at (get_or marks a 0) mark_field) 1 ∙ length_again a)
      (λ b l k x e. (later b x e (ℕ_discrete (get_or marks b 0) (get_or marks a 0)), length-set x (record_at (get_or marks b 0) mark_field) 1 ∙ e.1))).0
    where
      later : (b : ℕ) (x : List ℕ) → (mark_of x (get_or marks a 0) ≡ 1) × (length x ≡ length v) → Dec (get_or marks b 0 ≡ get_or marks a 0)
          → mark_of (with_field x (get_or marks b 0) mark_field 1) (get_or marks a 0) ≡ 1
      later b x e (yes q) = rw q (get_or-set_same x (record_at (get_or marks a 0) mark_field) 1 0 (omega (arith, e.1)))
      later b x e (no q) = get_or-set_other x (record_at (get_or marks b 0) mark_field) (record_at (get_or marks a 0) mark_field) 1 0 (λ z. q (omega arith)) ∙ e.0

module _ (w : List ℕ) (marks : List ℕ) (whole : length w ≡ size) (few : bookings w ≤ most_bookings) (below : (a : ℕ) → a < length marks → get_or marks a 0 < bookings w) where
  -- a word that is no mark of a booking
  pub word_remarked : (k : ℕ) → ((i : ℕ) → i < bookings w → k ≢ record_at i mark_field) → get_or (remarked marks w) k 0 ≡ get_or w k 0
  unfolding remarked
  word_remarked k d = word_again marks (unmarked w) (length marks) k (λ a u. d (get_or marks a 0) (below a u)) ∙ word_cleared w (bookings w) k d

  pub length_remarked : length (remarked marks w) ≡ length w
  unfolding remarked
  length_remarked = length_again marks (unmarked w) (length marks) ∙ length_cleared w (bookings w)

  pub but_marks : ButMarks w (remarked marks w)
  but_marks =
      record {
        long = length_remarked;
        head = λ g h. word_remarked g (λ i u e. omega arith);
        same = λ i g h d. word_remarked (record_at i g) (λ j u e. d (omega arith));
        entries = λ s g. word_remarked (slot_at s g) (λ i u e. omega arith);
      }

  pub mark_given : (a : ℕ) → a < length marks → mark_of (remarked marks w) (get_or marks a 0) ≡ 1
  unfolding remarked
  mark_given a u = mark_again_lem marks (unmarked w) (length marks) a u (omega (arith, length_cleared w (bookings w), below a u, whole))

  pub mark_none : (i : ℕ) → i < bookings w → ((a : ℕ) → a < length marks → get_or marks a 0 ≢ i) → mark_of (remarked marks w) i ≡ 0
  unfolding remarked
  mark_none i u d =
      word_again marks (unmarked w) (length marks) (record_at i mark_field) (λ a l e. d a l (omega arith)) ∙ mark_cleared w (bookings w) i u (omega (arith, whole))

  pub mark_rest : (i : ℕ) → bookings w ≤ i → mark_of (remarked marks w) i ≡ mark_of w i
  mark_rest i h = word_remarked (record_at i mark_field) (λ j u e. omega arith)

  -- whether a booking has a mark: its place among them, or none
  placed : (i : ℕ) → ((a : ℕ) × (a < length marks) × (get_or marks a 0 ≡ i)) ⊎ ((a : ℕ) → a < length marks → get_or marks a 0 ≢ i)
  placed i = go (any (λ a. eqb (get_or marks a 0) i) (length marks)) refl
    where
      go : (b : Bool) → any (λ a. eqb (get_or marks a 0) i) (length marks) ≡ b
          → ((a : ℕ) × (a < length marks) × (get_or marks a 0 ≡ i)) ⊎ ((a : ℕ) → a < length marks → get_or marks a 0 ≢ i)
      go true e = let h = any→ (λ a. eqb (get_or marks a 0) i) (length marks) e in inl (h.0, h.1, eqb-true _ _ h.2)
      go false e = inr (λ a u. eqb-false _ _ (none→ (λ a. eqb (get_or marks a 0) i) (length marks) e a u))

  -- who is marked has a place
  pub mark_placed : (i : ℕ) → i < bookings w → mark_of (remarked marks w) i ≡ 1 → (a : ℕ) × (a < length marks) × (get_or marks a 0 ≡ i)
  mark_placed i u m = ⊎_elim (λ h. h) (λ d. absurd (omega (arith, mark_none i u d))) (placed i)

  mark_most : (i : ℕ) → i < bookings w → mark_of (remarked marks w) i ≤ 1
  mark_most i u = ⊎_elim (λ (h : (a : ℕ) × (a < length marks) × (get_or marks a 0 ≡ i)). rw (← h.2) (omega (arith, mark_given h.0 h.1))) (λ d. omega (arith, mark_none i u d)) (placed i)

  -- ---- rising marks are just those of the words

  pub marks_again : ((a b : ℕ) → a < b → b < length marks → get_or marks a 0 < get_or marks b 0) → marks_of (remarked marks w) ≡ marks
  unfolding marks_of
  marks_again rising =
      ap (chosen (is_marked (remarked marks w))) (many_same w (remarked marks w) but_marks)
      ∙ chosen_all (is_marked (remarked marks w)) (bookings w) marks rising below (λ a u. eq-eqb _ 1 (mark_given a u))
      (λ j u e. mark_placed j u (eqb-true _ 1 e))

  -- ---- a ledger again

  module _ (ledger : Ledger w) (some : 0 < length marks) (genesis : get_or marks 0 0 ≡ 0)
      (apart : (a b : ℕ) → a < b → b < length marks → slot_of w (get_or marks a 0) ≢ slot_of w (get_or marks b 0)) where
    alone : (i k : ℕ) → i < bookings w → k < bookings w → i ≢ k → mark_of (remarked marks w) i ≡ 1 → mark_of (remarked marks w) k ≡ 1 → slot_of w i ≢ slot_of w k
    alone i k u v d mi mk e =
        let one = mark_placed i u mi in
        let other = mark_placed k v mk in
        let slot : slot_of w (get_or marks one.0 0) ≡ slot_of w (get_or marks other.0 0) = ap (slot_of w) one.2 ∙ e ∙ ap (slot_of w) (sym other.2) in
        go one.0 one.1 other.0 other.1 (λ q. d (sym one.2 ∙ ap (λ a. get_or marks a 0) q ∙ other.2)) slot
      where
        go : (a : ℕ) → a < length marks → (b : ℕ) → b < length marks → a ≢ b → slot_of w (get_or marks a 0) ≢ slot_of w (get_or marks b 0)
        go a l b h q s = by (dec_lt a b)
          where
            by : Dec (a < b) → ⊥
            by (yes x) = apart a b x h s
            by (no x) = apart b a (omega arith) l (sym s)

    pub Ledger_remarked : Ledger (remarked marks w)
    Ledger_remarked =
        Ledger_but_marks w (remarked marks w) but_marks ledger
        (record {
          genesis = ap (mark_of (remarked marks w)) (sym genesis) ∙ mark_given 0 some;
          known = mark_most;
          alone = alone;
          rest = λ i l u. mark_rest i l ∙ ledger.sound.rest_zero i mark_field l u (omega arith);
        })
