-- The digits of some numbers, computed from the definitions.
use mathlib.Core.Path.{◌≡◌, refl}
use lib.IntN.{pos, negsuc}
use Rattle.text_bytes.specs.Bytes.{bytes}
use Rattle.text_put.specs.Decimal.{digits_of, decimal, signed}

numbers :
    (decimal 0 ≡ bytes "0")
    × (decimal 9 ≡ bytes "9")
    × (decimal 10 ≡ bytes "10")
    × (decimal 65535 ≡ bytes "65535")
    × (decimal 18446744073709551615 ≡ bytes "18446744073709551615")
    × (signed (pos 0) ≡ bytes "0")
    × (signed (negsuc 0) ≡ bytes "-1")
    × (signed (negsuc 510) ≡ bytes "-511")
    × (signed (negsuc 9223372036854775807) ≡ bytes "-9223372036854775808")
unfolding decimal digits_of signed
numbers = (refl, refl, refl, refl, refl, refl, refl, refl, refl)
