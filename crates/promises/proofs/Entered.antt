-- Laws of `entered`: which words a booking's entry into its slot changes. Assumes nothing.
use mathlib.Core.Path.{◌≡◌}
use mathlib.Core.Bool.{true, false, cond}
use mathlib.Core.List.{List, [], ◌∷◌}
use mathlib.Core.Logic.{◌≢◌}
use Prim.Native.Nat.{ℕ, ◌+◌, ◌<◌}
use native.Mathlib.Omega.{arith}
use lib.ListN.{length, get_or}
use lib.Seq.{sets}
use lib.Dec.{eqb}
use borrow.Author.Tests.{eq-eqb, ne_eqb}
use Rattle.rules.specs.Layout.{header_words, record_words, slot_words, most_bookings, slot_at, header, field, entry, held_field, held_in, with_entry}
use Rattle.rules.specs.Book.{entered}
use Rattle.rule_laws.proofs.Words.{
  length_with_entry,
  header_with_entry_kept,
  field_with_entry_kept,
  entry_with_entry_same,
  entry_with_entry_other,
  entry_with_entry_beside,
  length_sets_entry,
  header_sets_entry_kept,
  field_sets_entry_kept,
  entry_sets_entry_same,
  entry_sets_entry_other,
}

-- the entry of a slot whose one booking is i
abbrev pub first_entry : ℕ → List ℕ
first_entry i = i ∷ i ∷ 0 ∷ 1 ∷ []

module _ (s i : ℕ) (w : List ℕ) where
  -- either arm of the rule
  abbrev emptied : List ℕ
  emptied = sets w (slot_at s 0) (first_entry i)

  abbrev risen : List ℕ
  risen = with_entry w s held_field (held_in w s + 1)

  pub length_entered : length (entered s i w) ≡ length w
  unfolding entered
  length_entered =
      elim (eqb (held_in w s) 0) as (λ b. length (cond b emptied risen) ≡ length w)
      [ true ↦ length_sets_entry w s (first_entry i) | false ↦ length_with_entry w s held_field _ ]

  pub header_entered_kept : (g : ℕ) → g < header_words → header (entered s i w) g ≡ header w g
  unfolding entered
  header_entered_kept g h =
      elim (eqb (held_in w s) 0) as (λ b. header (cond b emptied risen) g ≡ header w g)
      [ true ↦ header_sets_entry_kept w s (first_entry i) g h | false ↦ header_with_entry_kept w s held_field _ g h ]

  pub field_entered_kept : (j g : ℕ) → j < most_bookings → g < record_words → field (entered s i w) j g ≡ field w j g
  unfolding entered
  field_entered_kept j g hj hg =
      elim (eqb (held_in w s) 0) as (λ b. field (cond b emptied risen) j g ≡ field w j g)
      [ true ↦ field_sets_entry_kept w s (first_entry i) j g hj hg | false ↦ field_with_entry_kept w s held_field _ j g hj hg ]

  pub entry_entered_other : (t g : ℕ) → g < slot_words → t ≢ s → entry (entered s i w) t g ≡ entry w t g
  unfolding entered
  entry_entered_other t g hg d =
      elim (eqb (held_in w s) 0) as (λ b. entry (cond b emptied risen) t g ≡ entry w t g)
      [ true ↦ entry_sets_entry_other w s (first_entry i) t g (omega arith) hg d | false ↦ entry_with_entry_other w s held_field _ t g (omega arith) hg d ]

  -- an empty slot's entry is written whole
  pub entry_entered_empty : (g : ℕ) → g < slot_words → slot_at s g < length w → held_in w s ≡ 0 → entry (entered s i w) s g ≡ get_or (first_entry i) g 0
  unfolding entered
  entry_entered_empty g hg h e = rw (eq-eqb (held_in w s) 0 e) (entry_sets_entry_same w s (first_entry i) g hg h)

  -- of another only the number of bookings rises
  pub entry_entered_beside : (g : ℕ) → g < slot_words → g ≢ held_field → held_in w s ≢ 0 → entry (entered s i w) s g ≡ entry w s g
  unfolding entered
  entry_entered_beside g hg q d = rw (ne_eqb (held_in w s) 0 d) (entry_with_entry_beside w s held_field (held_in w s + 1) s g (omega arith) hg q)

  pub held_entered : slot_at s held_field < length w → held_in w s ≢ 0 → held_in (entered s i w) s ≡ held_in w s + 1
  unfolding entered
  held_entered h d = rw (ne_eqb (held_in w s) 0 d) (entry_with_entry_same w s held_field (held_in w s + 1) h)
