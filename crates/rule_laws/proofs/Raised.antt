-- What raising does: each member below n gains one confidence, and every other word stays.
-- Turn j writes one word, the confidence of record j, so each word is written in one turn at most. Assumes nothing.
use mathlib.Core.Path.{◌≡◌, refl, ap, ◌∙◌}
use mathlib.Core.Bool.{true, false, cond}
use mathlib.Core.List.{List}
use mathlib.Core.Logic.{◌≢◌}
use Prim.Native.Nat.{ℕ, ◌+◌, ◌<◌, ◌≤◌}
use native.Mathlib.Omega.{arith}
use lib.ListN.{length, get_or, length-set}
use lib.Seq.{get_or-set_same, get_or-set_other}
use Rattle.loops.specs.Total.{bit}
use Rattle.loops.proofs.Turns.{up_to_kept, up_to_since}
use Rattle.rules.specs.Layout.{
  most_bookings,
  header_words,
  record_words,
  record_at,
  slot_at,
  header,
  field,
  entry,
  confidence_field,
  confidence_of,
  with_field,
}
use Rattle.rules.specs.Ancestry.{is_member}
use Rattle.rules.specs.Poll.{raise_one, raised}

-- ---- one turn

abbrev one_more : List ℕ → ℕ → List ℕ
one_more w j = with_field w j confidence_field (confidence_of w j + 1)

module _ (m : List ℕ) (j : ℕ) (w : List ℕ) where
  length_raise_one : length (raise_one m j w) ≡ length w
  unfolding raise_one
  length_raise_one =
      elim (is_member m j) as (λ b. length (cond b (one_more w j) w) ≡ length w)
      [ true ↦ length-set w (record_at j confidence_field) (confidence_of w j + 1) | false ↦ refl ]

  word_raise_one_other : (k : ℕ) → k ≢ record_at j confidence_field → get_or (raise_one m j w) k 0 ≡ get_or w k 0
  unfolding raise_one
  word_raise_one_other k d =
      elim (is_member m j) as (λ b. get_or (cond b (one_more w j) w) k 0 ≡ get_or w k 0)
      [ true ↦ get_or-set_other w (record_at j confidence_field) k (confidence_of w j + 1) 0 d | false ↦ refl ]

  confidence_raise_one_same : record_at j confidence_field < length w → confidence_of (raise_one m j w) j ≡ confidence_of w j + bit (is_member m j)
  unfolding raise_one
  confidence_raise_one_same h =
      elim (is_member m j) as (λ b. confidence_of (cond b (one_more w j) w) j ≡ confidence_of w j + bit b)
      [ true ↦ get_or-set_same w (record_at j confidence_field) (confidence_of w j + 1) 0 h | false ↦ omega arith ]

-- ---- all turns

module _ (m : List ℕ) (n : ℕ) (w : List ℕ) where
  pub length_raised : length (raised m n w) ≡ length w
  length_raised = up_to_kept (raise_one m) (λ v. length v ≡ length w) n (λ j l v e. length_raise_one m j v ∙ e) w refl

  -- a word that is no confidence of a record below n
  word_raised_other : (k : ℕ) → ((j : ℕ) → j < n → k ≢ record_at j confidence_field) → get_or (raised m n w) k 0 ≡ get_or w k 0
  word_raised_other k d =
      up_to_kept (raise_one m) (λ v. get_or v k 0 ≡ get_or w k 0) n (λ j l v e. word_raise_one_other m j v k (d j l) ∙ e) w refl

  pub header_raised_kept : (g : ℕ) → g < header_words → header (raised m n w) g ≡ header w g
  header_raised_kept g h = word_raised_other g (λ j l e. omega arith)

  -- another field, of any record
  pub field_raised_beside : (i g : ℕ) → g < record_words → g ≢ confidence_field → field (raised m n w) i g ≡ field w i g
  field_raised_beside i g h d = word_raised_other (record_at i g) (λ j l e. d (omega arith))

  -- a record from n on
  pub confidence_raised_rest : (i : ℕ) → n ≤ i → confidence_of (raised m n w) i ≡ confidence_of w i
  confidence_raised_rest i h = word_raised_other (record_at i confidence_field) (λ j l e. omega arith)

  pub entry_raised_kept : (s g : ℕ) → n ≤ most_bookings → entry (raised m n w) s g ≡ entry w s g
  entry_raised_kept s g h = word_raised_other (slot_at s g) (λ j l e. omega arith)

-- turn j raises it, and no other turn touches it
pub confidence_raised : (m : List ℕ) (n : ℕ) (w : List ℕ) (j : ℕ) → j < n → record_at j confidence_field < length w
    → confidence_of (raised m n w) j ≡ confidence_of w j + bit (is_member m j)
confidence_raised m n w j l h =
    up_to_since (raise_one m) (λ v. confidence_of v j ≡ confidence_of w j + bit (is_member m j)) n j l w
    (confidence_raise_one_same m j (raised m j w) (omega (arith, length_raised m j w))
    ∙ ap (λ c. c + bit (is_member m j)) (confidence_raised_rest m j w j (omega arith)))
    (λ k u v b e. word_raise_one_other m k b (record_at j confidence_field) (λ q. omega arith) ∙ e)
