-- Which ordinals the records so far hold, as a bit for each ordinal.
use Rattle.std.specs.Prelude.{ℕ, ◌<◌, ◌≡◌, true, false, List, length}
use Rattle.bits.specs.Bits.{bit_at}
use Rattle.bits.specs.Members.{bit_words, set_below}
use Rattle.rules.specs.Layout.{size, most_bookings, polls, ordinal_of}

-- the ordinals of the records below i
abbrev pub ordinals_below : List ℕ → ℕ → List ℕ
ordinals_below w i = set_below (ordinal_of w) i

-- what a pass over a whole workspace knows on reaching record i: every ordinal that is allowed has a bit, and those of the lower records are set
pub record Reached (w : List ℕ) (i : ℕ) (seen : List ℕ) : Type 0 where
  pub whole : length w ≡ size
  pub within : i < most_bookings
  pub polled : polls w < most_bookings
  pub lower : seen ≡ ordinals_below w i

-- the bits where no record breaks a rule: 0, which the genesis holds, and none above p
pub record SeenTo (p : ℕ) (seen : List ℕ) : Type 0 where
  pub whole : length seen ≡ bit_words
  pub within : p < most_bookings
  pub genesis : bit_at seen 0 ≡ true
  pub none_above : (o : ℕ) → p < o → o < most_bookings → bit_at seen o ≡ false
