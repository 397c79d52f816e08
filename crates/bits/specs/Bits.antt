-- Bit j of a row of words of 64 bits: bit j % 64 of word j / 64. Past the last word no bit is set, and setting one changes nothing.
use Rattle.std.specs.Prelude.{ℕ, ◌%◌, ◌/◌, ◌^◌, Bool, List, eqb, get_or, set}
use Rattle.std.specs.Int.Bits.{bit_or}
use Rattle.loops.specs.Total.{count}

-- bit k of one word, 0 or 1
abbrev pub bit_in : ℕ → ℕ → ℕ
bit_in x k = x / 2 ^ k % 2

-- how many of a word's bits are set
abbrev pub ones_in : ℕ → ℕ
ones_in x = count (λ k. eqb (bit_in x k) 1) 64

-- bit j is set
unfoldable pub bit_at : List ℕ → ℕ → Bool
bit_at m j = eqb (bit_in (get_or m (j / 64) 0) (j % 64)) 1

-- the words with bit j set too
unfoldable pub with_bit : ℕ → List ℕ → List ℕ
with_bit j m = set m (j / 64) (bit_or (get_or m (j / 64) 0) (2 ^ (j % 64)))
