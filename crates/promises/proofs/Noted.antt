-- What every taken poll notes: p rises and becomes the ordinal of booking i, whose state is new; but for confidences, marks and slot
-- entries every other word stays. Assumes nothing.
use mathlib.Core.Path.{◌≡◌, ◌∙◌}
use mathlib.Core.List.{List}
use mathlib.Core.Logic.{◌≢◌}
use Prim.Native.Nat.{ℕ, ◌+◌, ◌<◌, ◌≤◌}
use native.Mathlib.Omega.{arith}
use lib.ListN.{length}
use Rattle.rules.specs.Layout.{size, most_bookings, header_words, record_words, header, field, bookings, bookings_field, polls, polls_field, state_field, confidence_field, ordinal_field, parents_field, slot_field, state_of, ordinal_of, mark_field}
use Rattle.rules.specs.Marks.{marked}
use Rattle.rules.specs.Poll.{noted}
use Rattle.rule_laws.proofs.Words.{name_of_kept}
use Rattle.rule_laws.proofs.Noted.{
  length_noted,
  polls_noted,
  header_noted_other,
  state_of_noted_same,
  ordinal_of_noted_same,
  field_noted_other,
  field_noted_beside,
}
use Rattle.rule_laws.proofs.Marked.{length_marked, header_marked_kept, field_marked_beside}
use Rattle.promises.specs.Lasting.{Grown}

-- v is w with a poll of booking i noted; its confidences, marks and slot entries may differ
pub record Noted (w v : List ℕ) (i state : ℕ) : Type 0 where
  pub long : length v ≡ length w
  pub head : (g : ℕ) → g < header_words → g ≢ polls_field → header v g ≡ header w g
  pub more : polls v ≡ polls w + 1
  -- names, slots and parents
  pub told : (j g : ℕ) → j < most_bookings → g < state_field → field v j g ≡ field w j g
  -- the other bookings' states and ordinals
  pub other : (j g : ℕ) → j < most_bookings → g < record_words → g ≢ confidence_field → g ≢ mark_field → j ≢ i → field v j g ≡ field w j g
  pub state_now : state_of v i ≡ state
  pub ordinal_now : ordinal_of v i ≡ polls w + 1

-- the words right after noting
pub noted_Noted : (w : List ℕ) (i state : ℕ) → length w ≡ size → i < most_bookings → Noted w (noted w i state) i state
noted_Noted w i state whole h = record {
  long = length_noted w i state;
  head = header_noted_other w i state;
  more = polls_noted w i state (omega arith);
  told = λ j g l u. field_noted_beside w i state j g (omega arith) (omega arith) (omega arith);
  other = λ j g l u c m. field_noted_other w i state j g u;
  state_now = state_of_noted_same w i state (omega arith);
  ordinal_now = ordinal_of_noted_same w i state (omega arith);
}

-- words that differ only in confidences, marks and slot entries have it noted too
pub Noted_kept : {w v : List ℕ} {i state : ℕ} (u : List ℕ) → i < most_bookings → Noted w v i state
    → length u ≡ length v
    → ((g : ℕ) → g < header_words → header u g ≡ header v g)
    → ((j g : ℕ) → j < most_bookings → g < record_words → g ≢ confidence_field → g ≢ mark_field → field u j g ≡ field v j g)
    → Noted w u i state
Noted_kept {i = i} u h n long head beside = record {
  long = long ∙ n.long;
  head = λ g l d. head g l ∙ n.head g l d;
  more = head polls_field (omega arith) ∙ n.more;
  told = λ j g l k. beside j g l (omega arith) (omega arith) (omega arith) ∙ n.told j g l k;
  other = λ j g l k c m e. beside j g l k c m ∙ n.other j g l k c m e;
  state_now = beside i state_field h (omega arith) (omega arith) (omega arith) ∙ n.state_now;
  ordinal_now = beside i ordinal_field h (omega arith) (omega arith) (omega arith) ∙ n.ordinal_now;
}

-- so have they once those who earned it are marked
pub Noted_marked : {w v : List ℕ} {i state : ℕ} → i < most_bookings → Noted w v i state → Noted w (marked v) i state
Noted_marked {v = v} h n =
    Noted_kept (marked v) h n (length_marked (bookings v) v) (header_marked_kept (bookings v) v) (λ j g l k c m. field_marked_beside (bookings v) v j g k m)

-- ---- what it says of the bookings

module _ {w v : List ℕ} {i state : ℕ} (n : Noted w v i state) where
  pub Noted_bookings : bookings v ≡ bookings w
  Noted_bookings = n.head bookings_field (omega arith) (omega arith)

  -- they last: names, slots and parents stay
  pub Noted→Grown : bookings w ≤ most_bookings → Grown w v
  Noted→Grown few = record {
    more = omega (arith, Noted_bookings);
    name = λ j l. name_of_kept w v j j (λ g h. n.told j g (omega arith) (omega arith));
    slot = λ j l. n.told j slot_field (omega arith) (omega arith);
    parent = λ j a l h. n.told j (parents_field + a) (omega arith) (omega arith);
  }
