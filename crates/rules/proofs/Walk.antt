-- The test of a workspace that walks the rows once, and words that have to be 0 in one go, for computing: it gives what `test_of` gives.
use mathlib.Core.Path.{◌≡◌, refl, sym, ap, ap₂, fun_ext, ◌∙◌}
use mathlib.Core.Bool.{Bool, true, false, ◌&&◌, ◌||◌, not, cond, true≢false}
use mathlib.Core.List.{List, [], ◌∷◌}
use Prim.Native.Nat.{ℕ, zero, suc, ◌+◌, ◌*◌, ◌-◌, ◌<◌, ◌≤◌}
use native.Mathlib.Nat.{zero-add}
use native.Mathlib.Omega.{arith}
use lib.ListN.{get_or, drop}
use lib.Seq.{get_or-drop}
use native.Mathlib.Decide.{dec_lt}
use lib.Dec.{ltb, leb, eqb}
use borrow.Author.Tests.{eq-eqb, ne_eqb, lt-ltb, le-ltb, leb-true, leb-false}
use Rattle.loops.specs.Search.{first, all}
use Rattle.loops.specs.Total.{bit, count}
use Rattle.loops.specs.Fill.{from}
use Rattle.loops.specs.Rows.{walk_from}
use Rattle.loops.proofs.Bools.{and_left, and_right, and_both, or_else}
use Rattle.loops.proofs.Search.{first_le, first_hit, first_before, first_ends, →all}
use Rattle.loops.proofs.Total.{total_same}
use Rattle.loops.proofs.Fill.{get_d_from}
use Rattle.loops.proofs.Rows.{walk_is}
use Rattle.rules.specs.Layout.{header_words, record_words, slot_words, slots_start, most_bookings, slots, none, field, bookings, slot_of}
use Rattle.rules.specs.IsSound.{
  record_good,
  ordinals_held,
  record_zero,
  rest_good,
  record_row,
  record_rows,
  bad_record,
  slot_good,
  bad_slot,
  bookings_of,
  is_booking_of,
  chits,
}
use Rattle.rules.specs.Calls.{damage_by, damage_of, test_by, test_of}
use Rattle.terms.specs.Answers.{Tested}

-- a search over rows of z words from word b on, and the same by number
module _ (b z k : ℕ) (bad : ℕ → List ℕ → Bool) (w : List ℕ) where
  lowest : ℕ
  lowest = walk_from z bad 0 k (drop (b + z * 0) w)

  lowest_is : lowest ≡ first (λ i. bad i (drop (b + z * i) w)) k
  unfolding lowest
  lowest_is = walk_is b z bad w 0 k

-- a test of the words of l, one by one
zero_words : List ℕ → Bool
unfolding lowest
zero_words l = eqb (lowest 0 1 record_words (λ f r. not (eqb (get_or r 0 0) 0)) l) record_words

-- a row of the records, whose words stand at the start of l
record_walked : List ℕ → ℕ → List ℕ → Bool
record_walked w i l =
    cond (ltb i (bookings w)) (record_good w i) ((leb most_bookings i || zero_words l) && (not (eqb i (bookings w)) || ordinals_held w))

-- how many of the n slots of the list are s
among : List ℕ → ℕ → ℕ → ℕ
among taken n s = count (λ i. eqb (get_or taken i 0) s) n

-- a row of the slot entries, given the slots of the records below n
slot_walked : List ℕ → List ℕ → ℕ → List ℕ → Bool
slot_walked w taken s l =
    cond (eqb (among taken (bookings w) s) 0)
    (eqb (get_or l 0 0) none && eqb (get_or l 1 0) none && eqb (get_or l 2 0) 0 && eqb (get_or l 3 0) 0)
    (eqb (get_or l 3 0) (among taken (bookings w) s) && is_booking_of w s (get_or l 0 0) && is_booking_of w s (get_or l 1 0) && leb (get_or l 2 0) (chits w))

-- the slots of the records below n
abbrev taken : List ℕ → List ℕ
taken w = from (slot_of w) 0 (bookings w)

-- the first k words are 0, or missing
unfoldable pub all_zero : ℕ → List ℕ → Bool
all_zero zero l = true
all_zero (suc k) [] = true
all_zero (suc k) (zero ∷ l) = all_zero k l
all_zero (suc k) (suc x ∷ l) = false

-- every word of a record from n on is 0
abbrev rest_zero : List ℕ → Bool
rest_zero w = all_zero (record_words * (most_bookings - bookings w)) (drop (header_words + record_words * bookings w) w)

-- so every row from n on is in order, where no ordinal is missing
abbrev rest_clean : List ℕ → Bool
rest_clean w = leb (bookings w) most_bookings && ordinals_held w && rest_zero w

-- the lowest row below n that breaks a rule, or n
abbrev bad_below : List ℕ → ℕ
bad_below w = first (λ i. not (record_good w i)) (bookings w)

-- of an undamaged ledger, and of most damaged ones, only the rows below n are looked at one by one
unfoldable pub bad_record_walked : List ℕ → ℕ
unfolding record_walked zero_words lowest
bad_record_walked w =
    cond (rest_clean w)
    (let i = bad_below w in cond (eqb i (bookings w)) record_rows i)
    (lowest header_words record_words record_rows (λ i l. not (record_walked w i l)) w)

unfoldable pub bad_slot_walked : List ℕ → ℕ
unfolding slot_walked among lowest
bad_slot_walked w = let slots_taken = taken w in lowest slots_start slot_words slots (λ s l. not (slot_walked w slots_taken s l)) w

zero_words_lem : (l : List ℕ) → zero_words l ≡ all (λ f. eqb (get_or l f 0) 0) record_words
unfolding zero_words
zero_words_lem l =
    ap (λ r. eqb r record_words)
    (lowest_is 0 1 record_words (λ f r. not (eqb (get_or r 0 0) 0)) l
    ∙ ap (λ p. first p record_words)
    (fun_ext (λ f. ap (λ x. not (eqb x 0)) (get_or-drop (0 + 1 * f) l 0 0 ∙ ap (λ j. get_or l j 0) (omega arith)))))

record_walked_lem : (w : List ℕ) (i : ℕ) → record_walked w i (drop (header_words + record_words * i) w) ≡ record_row w i
unfolding record_walked
record_walked_lem w i =
    ap (λ z. cond (ltb i (bookings w)) (record_good w i) ((leb most_bookings i || z) && (not (eqb i (bookings w)) || ordinals_held w)))
    (zero_words_lem (drop (header_words + record_words * i) w)
    ∙ ap (λ p. all p record_words) (fun_ext (λ f. ap (λ x. eqb x 0) (get_or-drop (header_words + record_words * i) w f 0))))

all_zero_at : (k : ℕ) (l : List ℕ) → all_zero k l ≡ true → (j : ℕ) → j < k → get_or l j 0 ≡ 0
unfolding all_zero
all_zero_at zero l e j h = absurd (omega arith)
all_zero_at (suc k) [] e j h = refl
all_zero_at (suc k) (zero ∷ l) e zero h = refl
all_zero_at (suc k) (zero ∷ l) e (suc j) h = all_zero_at k l e j (omega arith)
all_zero_at (suc k) (suc x ∷ l) e j h = absurd (true≢false (sym e))

module _ (w : List ℕ) where
  row_below : (i : ℕ) → i < bookings w → not (record_row w i) ≡ not (record_good w i)
  row_below i h = ap (λ t. not (cond t (record_good w i) (rest_good w i))) (lt-ltb i (bookings w) h)

  module _ (within : bookings w ≤ most_bookings) (held : ordinals_held w ≡ true) (clean : rest_zero w ≡ true) where
    zero_from : (i : ℕ) → bookings w ≤ i → i < most_bookings → record_zero w i ≡ true
    zero_from i h u =
        →all (λ f. eqb (field w i f) 0) record_words (λ f v.
        let start = header_words + record_words * bookings w in
        let at = record_words * (i - bookings w) + f in
        let here : field w i f ≡ get_or w (start + at) 0 = ap (λ j. get_or w j 0) (omega arith) in
        eq-eqb (field w i f) 0
        (here ∙ sym (get_or-drop start w at 0) ∙ all_zero_at (record_words * (most_bookings - bookings w)) (drop start w) clean at (omega arith)))

    rest_good_lem : (i : ℕ) → bookings w ≤ i → rest_good w i ≡ true
    rest_good_lem i h =
        and_both (leb most_bookings i || record_zero w i) (not (eqb i (bookings w)) || ordinals_held w)
        (or_else (leb most_bookings i) (record_zero w i) (λ t. zero_from i h (leb-false most_bookings i t)))
        (or_else (not (eqb i (bookings w))) (ordinals_held w) (λ t. held))

    clean_is : cond (eqb (bad_below w) (bookings w)) record_rows (bad_below w) ≡ first (λ i. not (record_row w i)) record_rows
    clean_is = go (dec_lt (bad_below w) (bookings w))
      where
        before : (j : ℕ) → j < bad_below w → not (record_row w j) ≡ false
        before j h = row_below j (omega (arith, h, first_le (λ i. not (record_good w i)) (bookings w))) ∙ first_before (λ i. not (record_good w i)) (bookings w) j h

        go : Dec (bad_below w < bookings w) → cond (eqb (bad_below w) (bookings w)) record_rows (bad_below w) ≡ first (λ i. not (record_row w i)) record_rows
        go (yes u) =
            rw (ne_eqb (bad_below w) (bookings w) (λ q. omega arith))
            (sym (first_ends (λ i. not (record_row w i)) record_rows (bad_below w) (omega arith) before
            (λ v. row_below (bad_below w) u ∙ first_hit (λ i. not (record_good w i)) (bookings w) u)))
        go (no u) =
            let end : bad_below w ≡ bookings w = omega (arith, first_le (λ i. not (record_good w i)) (bookings w)) in
            rw (eq-eqb (bad_below w) (bookings w) end)
            (sym (first_ends (λ i. not (record_row w i)) record_rows record_rows (omega arith) (λ j h. each j end (dec_lt j (bookings w))) (λ v. absurd (omega arith))))
          where
            each : (j : ℕ) → bad_below w ≡ bookings w → Dec (j < bookings w) → not (record_row w j) ≡ false
            each j end (yes v) = before j (omega arith)
            each j end (no v) = ap (λ t. not (cond t (record_good w j) (rest_good w j))) (le-ltb j (bookings w) (omega arith)) ∙ ap not (rest_good_lem j (omega arith))

record_walked_by : (w : List ℕ) (t : Bool) → rest_clean w ≡ t → bad_record_walked w ≡ bad_record w
unfolding bad_record_walked bad_record
record_walked_by w true e =
    let first = and_left (leb (bookings w) most_bookings && ordinals_held w) (rest_zero w) e in
    rw e
    (clean_is w
    (leb-true (bookings w) most_bookings (and_left (leb (bookings w) most_bookings) (ordinals_held w) first))
    (and_right (leb (bookings w) most_bookings) (ordinals_held w) first)
    (and_right (leb (bookings w) most_bookings && ordinals_held w) (rest_zero w) e))
record_walked_by w false e =
    rw e
    (lowest_is header_words record_words record_rows (λ i l. not (record_walked w i l)) w
    ∙ ap (λ p. first p record_rows) (fun_ext (λ i. ap not (record_walked_lem w i))))

pub record_walked_is : (w : List ℕ) → bad_record_walked w ≡ bad_record w
record_walked_is w = record_walked_by w (rest_clean w) refl

among_is : (w : List ℕ) (s : ℕ) → among (taken w) (bookings w) s ≡ bookings_of w s
unfolding among bookings_of
among_is w s =
    total_same (λ i. bit (eqb (get_or (taken w) i 0) s)) (λ i. bit (eqb (slot_of w i) s)) (bookings w)
    (λ i l. ap (λ x. bit (eqb x s)) (get_d_from (slot_of w) 0 (bookings w) i l ∙ ap (slot_of w) (zero-add i)))

slot_walked_lem : (w : List ℕ) (s : ℕ) → slot_walked w (taken w) s (drop (slots_start + slot_words * s) w) ≡ slot_good w s
unfolding slot_good slot_walked
slot_walked_lem w s = rw (among_is w s) (simp get_or-drop)

pub slot_walked_is : (w : List ℕ) → bad_slot_walked w ≡ bad_slot w
unfolding bad_slot_walked bad_slot
slot_walked_is w =
    lowest_is slots_start slot_words slots (λ s l. not (slot_walked w (taken w) s l)) w
    ∙ ap (λ p. first p slots) (fun_ext (λ s. ap not (slot_walked_lem w s)))

-- ---- the test of the law, and the same by walking

unfoldable pub test_walked : List ℕ → Tested
test_walked = test_by (damage_by bad_record_walked bad_slot_walked)

pub test_walked_is : test_walked ≡ test_of
unfolding test_walked test_of damage_of
test_walked_is = ap₂ (λ records slots. test_by (damage_by records slots)) (fun_ext record_walked_is) (fun_ext slot_walked_is)
