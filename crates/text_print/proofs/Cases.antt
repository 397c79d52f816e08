-- What is printed for some answers, computed from the definitions.
use Rattle.std.specs.Prelude.{Err, Ok}
use mathlib.Core.Path.{◌≡◌, refl}
use lib.IntN.{pos, negsuc}
use Rattle.terms.specs.declared.answer.Refusal.TheVariants.{WrongLength, Full, BadVote}
use Rattle.terms.specs.Answers.{done}
use Rattle.text_bytes.specs.Bytes.{bytes}
use Rattle.text_put.specs.Decimal.{digits_of, decimal, signed}
use Rattle.text_print.specs.Print.{reading_prints, call_prints}

answers :
    (reading_prints (Ok (negsuc 0)) ≡ bytes "-1\n")
    × (reading_prints (Ok (pos 0)) ≡ bytes "0\n")
    × (reading_prints (Err WrongLength) ≡ bytes "refused 1\n")
    × (call_prints done ≡ bytes "")
    × (call_prints (Err Full) ≡ bytes "refused 9\n")
    × (call_prints (Err BadVote) ≡ bytes "refused 13\n")
unfolding decimal digits_of signed
answers = (refl, refl, refl, refl, refl, refl)
