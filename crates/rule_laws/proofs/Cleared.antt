-- What clearing does: the counter of each member's slot becomes 0, and every other word stays. Assumes nothing.
use mathlib.Core.Path.{◌≡◌, refl, sym, ◌∙◌}
use mathlib.Core.Bool.{Bool, true, false, cond}
use mathlib.Core.List.{List}
use mathlib.Core.Logic.{◌≢◌}
use Prim.Native.Nat.{ℕ, ◌<◌, ◌≤◌}
use native.Mathlib.Decide.{ℕ_discrete}
use native.Mathlib.Omega.{arith}
use lib.ListN.{length, get_or, length-set}
use lib.Seq.{get_or-set_same, get_or-set_other}
use Rattle.loops.proofs.Turns.{up_to_kept, up_to_since}
use Rattle.rules.specs.Layout.{
  most_bookings,
  header_words,
  record_words,
  slot_words,
  record_at,
  slot_at,
  header,
  field,
  entry,
  slot_field,
  counter_field,
  slot_of,
  counter_in,
  with_entry,
}
use Rattle.rules.specs.Ancestry.{is_member}
use Rattle.rules.specs.Poll.{clear_one, cleared}

-- ---- one turn

module _ (m : List ℕ) (j : ℕ) (w : List ℕ) where
  abbrev zeroed : List ℕ
  zeroed = with_entry w (slot_of w j) counter_field 0

  length_clear_one : length (clear_one m j w) ≡ length w
  unfolding clear_one
  length_clear_one =
      elim (is_member m j) as (λ b. length (cond b zeroed w) ≡ length w)
      [ true ↦ length-set w (slot_at (slot_of w j) counter_field) 0 | false ↦ refl ]

  word_clear_one_other : (k : ℕ) → (is_member m j ≡ true → k ≢ slot_at (slot_of w j) counter_field) → get_or (clear_one m j w) k 0 ≡ get_or w k 0
  unfolding clear_one
  word_clear_one_other k d = go (is_member m j) refl
    where
      go : (b : Bool) → is_member m j ≡ b → get_or (cond b zeroed w) k 0 ≡ get_or w k 0
      go true e = get_or-set_other w (slot_at (slot_of w j) counter_field) k 0 0 (d e)
      go false e = refl

  counter_clear_one_same : is_member m j ≡ true → slot_at (slot_of w j) counter_field < length w → counter_in (clear_one m j w) (slot_of w j) ≡ 0
  unfolding clear_one
  counter_clear_one_same e h = rw e (get_or-set_same w (slot_at (slot_of w j) counter_field) 0 0 h)

  -- no counter rises
  counter_clear_one_le : (s : ℕ) → slot_at s counter_field < length w → counter_in (clear_one m j w) s ≤ counter_in w s
  unfolding clear_one
  counter_clear_one_le s h = go (is_member m j) (ℕ_discrete s (slot_of w j))
    where
      go : (b : Bool) → Dec (s ≡ slot_of w j) → counter_in (cond b zeroed w) s ≤ counter_in w s
      go true (yes e) = rw e (omega (arith, get_or-set_same w (slot_at (slot_of w j) counter_field) 0 0 (rw e at h)))
      go true (no d) = omega (arith, get_or-set_other w (slot_at (slot_of w j) counter_field) (slot_at s counter_field) 0 0 (λ q. d (omega arith)))
      go false e = omega arith

-- ---- all turns

module _ (m : List ℕ) (n : ℕ) (w : List ℕ) where
  pub length_cleared : length (cleared m n w) ≡ length w
  length_cleared = up_to_kept (clear_one m) (λ v. length v ≡ length w) n (λ j l v e. length_clear_one m j v ∙ e) w refl

  -- a word that is no counter
  word_cleared_kept : (k : ℕ) → ((s : ℕ) → k ≢ slot_at s counter_field) → get_or (cleared m n w) k 0 ≡ get_or w k 0
  word_cleared_kept k d =
      up_to_kept (clear_one m) (λ v. get_or v k 0 ≡ get_or w k 0) n (λ j l v e. word_clear_one_other m j v k (λ t. d (slot_of v j)) ∙ e) w refl

  pub header_cleared_kept : (g : ℕ) → g < header_words → header (cleared m n w) g ≡ header w g
  header_cleared_kept g h = word_cleared_kept g (λ s e. omega arith)

  pub field_cleared_kept : (i g : ℕ) → i < most_bookings → g < record_words → field (cleared m n w) i g ≡ field w i g
  field_cleared_kept i g h hg = word_cleared_kept (record_at i g) (λ s e. omega arith)

  pub entry_cleared_beside : (s g : ℕ) → g < slot_words → g ≢ counter_field → entry (cleared m n w) s g ≡ entry w s g
  entry_cleared_beside s g h d = word_cleared_kept (slot_at s g) (λ t e. d (omega arith))

  pub counter_cleared_le : (s : ℕ) → slot_at s counter_field < length w → counter_in (cleared m n w) s ≤ counter_in w s
  counter_cleared_le s h =
      (up_to_kept (clear_one m) (λ v. (length v ≡ length w) × (counter_in v s ≤ counter_in w s)) n
      (λ j l v e. (length_clear_one m j v ∙ e.0, omega (arith, e.1, counter_clear_one_le m j v s (omega (arith, e.0))))) w (refl, omega arith)).1

-- the slot of a record is read as it was before the turns
slot_cleared : (m : List ℕ) (n : ℕ) (w : List ℕ) (j : ℕ) → j < most_bookings → slot_of (cleared m n w) j ≡ slot_of w j
slot_cleared m n w j h = field_cleared_kept m n w j slot_field h (omega arith)

module _ (m : List ℕ) (n : ℕ) (w : List ℕ) (few : n ≤ most_bookings) where
  -- a slot without members keeps its counter
  pub counter_cleared_other : (s : ℕ) → ((j : ℕ) → j < n → is_member m j ≡ true → slot_of w j ≢ s) → counter_in (cleared m n w) s ≡ counter_in w s
  counter_cleared_other s d =
      (up_to_kept (clear_one m) Same n turn w ((λ i l. refl), refl)).1
    where
      Same : List ℕ → Type 0
      Same v = ((i : ℕ) → i < most_bookings → slot_of v i ≡ slot_of w i) × (counter_in v s ≡ counter_in w s)

      turn : (j : ℕ) → j < n → (v : List ℕ) → Same v → Same (clear_one m j v)
      turn j l v h = (
        λ i b. word_clear_one_other m j v (record_at i slot_field) (λ t e. omega arith) ∙ h.0 i b,
        word_clear_one_other m j v (slot_at s counter_field) (λ t e. d j l t (sym (h.0 j (omega arith)) ∙ omega arith)) ∙ h.1,
      )

  -- and a member's slot has 0
  pub counter_cleared_member : (j : ℕ) → j < n → is_member m j ≡ true → slot_at (slot_of w j) counter_field < length w
      → counter_in (cleared m n w) (slot_of w j) ≡ 0
  counter_cleared_member j l e h =
      let before : List ℕ = cleared m j w in
      let same : slot_of before j ≡ slot_of w j = slot_cleared m j w j (omega arith) in
      (up_to_since (clear_one m) (λ v. (length v ≡ length w) × (counter_in v (slot_of w j) ≡ 0)) n j l w (
        length_clear_one m j before ∙ length_cleared m j w,
        rw same at (counter_clear_one_same m j before e (omega (arith, same, length_cleared m j w))),
      )
      (λ k u v b z. (length_clear_one m k b ∙ z.0, omega (arith, z.1, counter_clear_one_le m k b (slot_of w j) (omega (arith, z.0)))))).1
