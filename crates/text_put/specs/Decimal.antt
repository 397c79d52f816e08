-- Numbers as decimal digits: no leading zero but for 0 itself, and a minus sign before a number below zero.
use Rattle.std.specs.Prelude.{ℕ, zero, suc, ◌/◌, ◌%◌, true, false, List, [], ◌∷◌, ◌++◌, ℤ, pos, negsuc, nat_abs, ltb}
use Rattle.text_bytes.specs.Bytes.{minus, digit}

-- a digit alone below ten, else the digits of the tenth and then the last; f bounds how often a tenth is taken
unfoldable pub digits_of : ℕ → ℕ → List ℕ
digits_of zero n = digit n ∷ []
digits_of (suc f) n = elim (ltb n 10) [ true ↦ digit n ∷ [] | false ↦ digits_of f (n / 10) ++ (digit (n % 10) ∷ []) ]

-- n tenths are more than enough
unfoldable pub decimal : ℕ → List ℕ
decimal n = digits_of n n

abbrev pub sign : ℤ → List ℕ
sign (pos n) = []
sign (negsuc n) = minus ∷ []

-- the sign, and then the number without it
unfoldable pub signed : ℤ → List ℕ
signed z = sign z ++ decimal (nat_abs z)
