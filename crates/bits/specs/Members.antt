-- The members of the law as bits: bit j says whether j is one. Eight words have one for each booking.
use Rattle.std.specs.Prelude.{ℕ, ◌*◌, ◌%◌, ◌≡◌, List, eqb, length, set, replicate}
use Rattle.loops.specs.Fill.{from}
use Rattle.loops.specs.Total.{bit}
use Rattle.loops.specs.Turns.{up_to}
use Rattle.rules.specs.Ancestry.{is_member}
use Rattle.bits.specs.Bits.{bit_in, bit_at, with_bit}

-- words of 64 bits, one bit for each number that a booking, or an ordinal, may have
abbrev pub bit_words : ℕ
bit_words = 8

-- the members that a row of words holds: 1 where the bit is set, 0 where it is not
unfoldable pub members_in : List ℕ → List ℕ
members_in m = from (λ j. bit (bit_at m j)) 0 (64 * length m)

-- the same where x stands for word q
abbrev pub members_with : List ℕ → ℕ → ℕ → List ℕ
members_with m q x = members_in (set m q x)

-- whether j is a member is its bit of the word x
abbrev pub MemberIn : ℕ → List ℕ → ℕ → Type 0
MemberIn x m j = is_member m j ≡ eqb (bit_in x (j % 64)) 1

-- eight words with no bit set
abbrev pub no_bits : List ℕ
no_bits = replicate bit_words 0

-- bits f 0, f 1, .., f (i - 1) set in them
unfoldable pub set_below : (ℕ → ℕ) → ℕ → List ℕ
set_below f i = up_to (λ j. with_bit (f j)) i no_bits
