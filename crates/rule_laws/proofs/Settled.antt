-- Which words settling writes: a turn's two rules write the preferred, last and counter of the member's slot and nothing else.
-- Assumes nothing.
use mathlib.Core.Path.{◌≡◌, refl, ◌∙◌}
use mathlib.Core.Bool.{Bool, true, false, cond}
use mathlib.Core.List.{List}
use mathlib.Core.Logic.{◌≢◌}
use Prim.Native.Nat.{ℕ, ◌+◌, ◌<◌}
use native.Mathlib.Omega.{arith}
use lib.ListN.{length, get_or, length-set}
use lib.Seq.{get_or-set_same, get_or-set_other}
use lib.Dec.{ltb, eqb}
use borrow.Author.Tests.{eqb-true}
use Rattle.loops.proofs.Turns.{up_to_kept}
use Rattle.terms.specs.Editions.{restart}
use Rattle.rules.specs.Layout.{
  most_bookings,
  header_words,
  record_words,
  record_at,
  slot_at,
  header,
  field,
  preferred_field,
  last_field,
  counter_field,
  held_field,
  slot_of,
  confidence_of,
  preferred_in,
  last_in,
  counter_in,
  held_in,
  setting_in,
  with_entry,
}
use Rattle.rules.specs.Ancestry.{is_member}
use Rattle.rules.specs.Poll.{prefer, follow, settle_one, settled}

-- ---- the first rule

module _ (s j : ℕ) (w : List ℕ) where
  abbrev pub is_above : Bool
  is_above = ltb (confidence_of w (preferred_in w s)) (confidence_of w j)

  pub length_prefer : length (prefer s j w) ≡ length w
  unfolding prefer
  length_prefer =
      elim is_above as (λ b. length (cond b (with_entry w s preferred_field j) w) ≡ length w)
      [ true ↦ length-set w (slot_at s preferred_field) j | false ↦ refl ]

  pub word_prefer_other : (k : ℕ) → k ≢ slot_at s preferred_field → get_or (prefer s j w) k 0 ≡ get_or w k 0
  unfolding prefer
  word_prefer_other k d =
      elim is_above as (λ b. get_or (cond b (with_entry w s preferred_field j) w) k 0 ≡ get_or w k 0)
      [ true ↦ get_or-set_other w (slot_at s preferred_field) k j 0 d | false ↦ refl ]

  pub preferred_prefer_same : slot_at s preferred_field < length w → preferred_in (prefer s j w) s ≡ cond is_above j (preferred_in w s)
  unfolding prefer
  preferred_prefer_same h =
      elim is_above as (λ b. preferred_in (cond b (with_entry w s preferred_field j) w) s ≡ cond b j (preferred_in w s))
      [ true ↦ get_or-set_same w (slot_at s preferred_field) j 0 h | false ↦ refl ]

-- ---- the second rule

module _ (s j : ℕ) (w : List ℕ) where
  abbrev again : List ℕ
  again = with_entry w s counter_field (counter_in w s + 1)

  abbrev started : ℕ
  started = restart (setting_in w).edition

  abbrev anew : List ℕ
  anew = with_entry (with_entry w s last_field j) s counter_field started

  pub length_follow : length (follow s j w) ≡ length w
  unfolding follow
  length_follow =
      elim (eqb (last_in w s) j) as (λ b. length (cond b again anew) ≡ length w)
      [ true ↦ simp length-set | false ↦ simp length-set ]

  pub word_follow_other : (k : ℕ) → k ≢ slot_at s last_field → k ≢ slot_at s counter_field → get_or (follow s j w) k 0 ≡ get_or w k 0
  unfolding follow
  word_follow_other k d e =
      elim (eqb (last_in w s) j) as (λ b. get_or (cond b again anew) k 0 ≡ get_or w k 0) [
        | true ↦ get_or-set_other w (slot_at s counter_field) k (counter_in w s + 1) 0 e
        | false ↦ get_or-set_other (with_entry w s last_field j) (slot_at s counter_field) k started 0 e ∙ get_or-set_other w (slot_at s last_field) k j 0 d
      ]

  module _ (fits : slot_at s counter_field < length w) where
    pub last_follow_same : last_in (follow s j w) s ≡ j
    unfolding follow
    last_follow_same = go (eqb (last_in w s) j) refl
      where
        go : (b : Bool) → eqb (last_in w s) j ≡ b → last_in (cond b again anew) s ≡ j
        go true e = get_or-set_other w (slot_at s counter_field) (slot_at s last_field) (counter_in w s + 1) 0 (λ q. omega arith) ∙ eqb-true (last_in w s) j e
        go false e =
            get_or-set_other (with_entry w s last_field j) (slot_at s counter_field) (slot_at s last_field) started 0 (λ q. omega arith)
            ∙ get_or-set_same w (slot_at s last_field) j 0 (omega arith)

    pub counter_follow_same : counter_in (follow s j w) s ≡ cond (eqb (last_in w s) j) (counter_in w s + 1) started
    unfolding follow
    counter_follow_same =
        elim (eqb (last_in w s) j) as (λ b. counter_in (cond b again anew) s ≡ cond b (counter_in w s + 1) started) [
          | true ↦ get_or-set_same w (slot_at s counter_field) (counter_in w s + 1) 0 fits
          | false ↦ get_or-set_same (with_entry w s last_field j) (slot_at s counter_field) started 0 (omega (arith, length-set w (slot_at s last_field) j))
        ]

-- ---- one turn

-- a word that settling never writes: one of the header or of a record, or a slot's number of bookings
abbrev Untouched : ℕ → Type 0
Untouched k = (s f : ℕ) → f < held_field → k ≢ slot_at s f

module _ (m : List ℕ) (j : ℕ) (w : List ℕ) where
  abbrev pub both_rules : List ℕ
  both_rules = follow (slot_of w j) j (prefer (slot_of w j) j w)

  pub settle_one_member : is_member m j ≡ true → settle_one m j w ≡ both_rules
  unfolding settle_one
  settle_one_member e = rw e

  pub settle_one_passed : is_member m j ≡ false → settle_one m j w ≡ w
  unfolding settle_one
  settle_one_passed e = rw e

  length_settle_one : length (settle_one m j w) ≡ length w
  unfolding settle_one
  length_settle_one =
      elim (is_member m j) as (λ b. length (cond b both_rules w) ≡ length w)
      [ true ↦ length_follow (slot_of w j) j (prefer (slot_of w j) j w) ∙ length_prefer (slot_of w j) j w | false ↦ refl ]

  word_settle_one_kept : (k : ℕ) → Untouched k → get_or (settle_one m j w) k 0 ≡ get_or w k 0
  unfolding settle_one
  word_settle_one_kept k d =
      elim (is_member m j) as (λ b. get_or (cond b both_rules w) k 0 ≡ get_or w k 0) [
        | true ↦
            word_follow_other (slot_of w j) j (prefer (slot_of w j) j w) k (d (slot_of w j) last_field (omega arith)) (d (slot_of w j) counter_field (omega arith))
            ∙ word_prefer_other (slot_of w j) j w k (d (slot_of w j) preferred_field (omega arith))
        | false ↦ refl
      ]

-- ---- all turns

module _ (m : List ℕ) (n : ℕ) (w : List ℕ) where
  pub length_settled : length (settled m n w) ≡ length w
  length_settled = up_to_kept (settle_one m) (λ v. length v ≡ length w) n (λ j l v e. length_settle_one m j v ∙ e) w refl

  word_settled_kept : (k : ℕ) → Untouched k → get_or (settled m n w) k 0 ≡ get_or w k 0
  word_settled_kept k d =
      up_to_kept (settle_one m) (λ v. get_or v k 0 ≡ get_or w k 0) n (λ j l v e. word_settle_one_kept m j v k d ∙ e) w refl

  pub header_settled_kept : (g : ℕ) → g < header_words → header (settled m n w) g ≡ header w g
  header_settled_kept g h = word_settled_kept g (λ s f l e. omega arith)

  pub field_settled_kept : (i g : ℕ) → i < most_bookings → g < record_words → field (settled m n w) i g ≡ field w i g
  field_settled_kept i g h hg = word_settled_kept (record_at i g) (λ s f l e. omega arith)

  pub held_settled_kept : (s : ℕ) → held_in (settled m n w) s ≡ held_in w s
  held_settled_kept s = word_settled_kept (slot_at s held_field) (λ t f l e. omega arith)
