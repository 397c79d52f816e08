-- Which names were noted so far, as a filter of bits. A name has two: its remainders by two primes, chosen so that names made of a part for the
-- station and a number that counts seldom share both. A name with a bit that is not set is new; one with both set may be.
use Rattle.std.specs.Prelude.{ℕ, ◌%◌, Bool, ◌&&◌, List, replicate}
use Rattle.bits.specs.Bits.{bit_at, with_bit}
use Rattle.loops.specs.Turns.{up_to}
use Rattle.rules.specs.Layout.{name_of}

-- words of 64 bits
abbrev pub filter_words : ℕ
filter_words = 124

abbrev pub first_bit : ℕ → ℕ
first_bit name = name % 7879

abbrev pub second_bit : ℕ → ℕ
second_bit name = name % 7741

-- both bits of the name are set
abbrev pub is_noted : List ℕ → ℕ → Bool
is_noted f name = bit_at f (first_bit name) && bit_at f (second_bit name)

-- the filter with both bits of the name set
abbrev pub with_noted : ℕ → List ℕ → List ℕ
with_noted name f = with_bit (second_bit name) (with_bit (first_bit name) f)

-- the names f 0, f 1, .., f (i - 1)
unfoldable pub names_noted : (ℕ → ℕ) → ℕ → List ℕ
names_noted f i = up_to (λ j. with_noted (f j)) i (replicate filter_words 0)

-- the names of the records below i
abbrev pub names_below : List ℕ → ℕ → List ℕ
names_below w i = names_noted (name_of w) i
