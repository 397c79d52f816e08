-- Laws of `noted`: it writes p and the state and ordinal of booking i, and every other word stays. Assumes nothing.
use mathlib.Core.Path.{◌≡◌, ◌∙◌}
use mathlib.Core.List.{List}
use mathlib.Core.Logic.{◌≢◌}
use Prim.Native.Nat.{ℕ, ◌+◌, ◌<◌}
use native.Mathlib.Omega.{arith}
use lib.ListN.{length}
use Rattle.rules.specs.Layout.{
  most_bookings,
  header_words,
  record_words,
  record_at,
  header,
  field,
  entry,
  polls,
  polls_field,
  state_field,
  confidence_field,
  ordinal_field,
  state_of,
  confidence_of,
  ordinal_of,
  with_header,
  with_field,
}
use Rattle.rules.specs.Poll.{noted}
use Rattle.rule_laws.proofs.Words.{
  length_with_header,
  header_with_header_same,
  header_with_header_other,
  field_with_header_kept,
  entry_with_header_kept,
  length_with_field,
  header_with_field_kept,
  field_with_field_same,
  field_with_field_other,
  field_with_field_beside,
  entry_with_field_kept,
}

module _ (w : List ℕ) (i state : ℕ) where
  -- once p has risen, and once the state is written too
  abbrev risen : List ℕ
  risen = with_header w polls_field (polls w + 1)

  abbrev stated : List ℕ
  stated = with_field risen i state_field state

  length_stated : length stated ≡ length w
  length_stated = length_with_field risen i state_field state ∙ length_with_header w polls_field (polls w + 1)

  pub length_noted : length (noted w i state) ≡ length w
  length_noted = length_with_field stated i ordinal_field (polls w + 1) ∙ length_stated

  -- ---- the header

  header_noted : (g : ℕ) → g < header_words → header (noted w i state) g ≡ header risen g
  header_noted g h = header_with_field_kept stated i ordinal_field (polls w + 1) g h ∙ header_with_field_kept risen i state_field state g h

  pub polls_noted : polls_field < length w → polls (noted w i state) ≡ polls w + 1
  polls_noted h = header_noted polls_field (omega arith) ∙ header_with_header_same w polls_field (polls w + 1) h

  pub header_noted_other : (g : ℕ) → g < header_words → g ≢ polls_field → header (noted w i state) g ≡ header w g
  header_noted_other g h d = header_noted g h ∙ header_with_header_other w polls_field (polls w + 1) g d

  -- ---- the records

  pub state_of_noted_same : record_at i state_field < length w → state_of (noted w i state) i ≡ state
  state_of_noted_same h =
      field_with_field_beside stated i ordinal_field (polls w + 1) i state_field (omega arith) (omega arith) (omega arith)
      ∙ field_with_field_same risen i state_field state (omega (arith, length_with_header w polls_field (polls w + 1)))

  pub ordinal_of_noted_same : record_at i ordinal_field < length w → ordinal_of (noted w i state) i ≡ polls w + 1
  ordinal_of_noted_same h = field_with_field_same stated i ordinal_field (polls w + 1) (omega (arith, length_stated))

  pub field_noted_other : (j g : ℕ) → g < record_words → j ≢ i → field (noted w i state) j g ≡ field w j g
  field_noted_other j g h d =
      field_with_field_other stated i ordinal_field (polls w + 1) j g (omega arith) h d
      ∙ field_with_field_other risen i state_field state j g (omega arith) h d
      ∙ field_with_header_kept w polls_field (polls w + 1) j g (omega arith)

  -- a field that is neither the state nor the ordinal, of any record
  pub field_noted_beside : (j g : ℕ) → g < record_words → g ≢ state_field → g ≢ ordinal_field → field (noted w i state) j g ≡ field w j g
  field_noted_beside j g h d e =
      field_with_field_beside stated i ordinal_field (polls w + 1) j g (omega arith) h e
      ∙ field_with_field_beside risen i state_field state j g (omega arith) h d
      ∙ field_with_header_kept w polls_field (polls w + 1) j g (omega arith)

  pub confidence_noted : (j : ℕ) → confidence_of (noted w i state) j ≡ confidence_of w j
  confidence_noted j = field_noted_beside j confidence_field (omega arith) (omega arith) (omega arith)

  -- ---- the slot entries

  pub entry_noted_kept : (s g : ℕ) → i < most_bookings → entry (noted w i state) s g ≡ entry w s g
  entry_noted_kept s g h =
      entry_with_field_kept stated i ordinal_field (polls w + 1) s g h (omega arith)
      ∙ entry_with_field_kept risen i state_field state s g h (omega arith)
      ∙ entry_with_header_kept w polls_field (polls w + 1) s g (omega arith)
