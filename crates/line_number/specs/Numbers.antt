-- Document 01, "The text program": a word as a number or as a vote.
use Rattle.std.specs.Prelude.{ℕ, ◌+◌, ◌*◌, ◌-◌, ◌%◌, ◌^◌, Bool, ◌&&◌, cond, List, Option, Some, None, length, get_or, drop, eqb, leb}
use Rattle.loops.specs.Search.{all}
use Rattle.loops.specs.Turns.{up_to}
use Rattle.text_bytes.specs.Bytes.{minus, digit}

-- ---- limits

abbrev pub name_most : ℕ
name_most = 2 ^ 64 - 1

-- of everything but names and votes
abbrev pub short_most : ℕ
short_most = 65535

-- a vote without a minus sign, and with one
abbrev pub vote_most : ℕ
vote_most = 127

abbrev pub minus_most : ℕ
minus_most = 128

abbrev pub digits_most : ℕ
digits_most = 20

-- ---- numbers

abbrev pub is_digit : ℕ → Bool
is_digit b = leb (digit 0) b && leb b (digit 9)

-- the value of the first n digits
unfoldable pub value_of : List ℕ → ℕ → ℕ
value_of word n = up_to (λ i v. v * 10 + (get_or word i 0 - digit 0)) n 0

-- one to twenty digits, leading zeros allowed, and a value within the limit
unfoldable pub is_number : ℕ → List ℕ → Bool
is_number most word =
    leb 1 (length word) && leb (length word) digits_most
    && all (λ i. is_digit (get_or word i 0)) (length word)
    && leb (value_of word (length word)) most

unfoldable pub number_read : ℕ → List ℕ → Option ℕ
number_read most word = cond (is_number most word) (Some (value_of word (length word))) None

-- the value with one digit more, as it is read
abbrev pub more_of : ℕ → ℕ → ℕ → Option ℕ
more_of most v b = cond (is_digit b && leb (v * 10 + (b - digit 0)) most) (Some (v * 10 + (b - digit 0))) None

abbrev pub name_read : List ℕ → Option ℕ
name_read = number_read name_most

abbrev pub short_read : List ℕ → Option ℕ
short_read = number_read short_most

-- ---- votes

-- the byte of a number below zero, given without its sign: two's complement, and 0 stays 0
abbrev pub negated_of : Option ℕ → Option ℕ
negated_of (Some v) = Some ((256 - v % 256) % 256)
negated_of None = None

-- from -128 to 127, as its byte; only a vote may have a minus sign, which is none of the digits
unfoldable pub vote_read : List ℕ → Option ℕ
vote_read word = cond (eqb (get_or word 0 0) minus) (negated_of (number_read minus_most (drop 1 word))) (number_read vote_most word)
