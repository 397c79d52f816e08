-- Laws of a number and its sign.
use mathlib.Core.Path.{◌≡◌, refl, ap}
use mathlib.Core.Bool.{true, false, true≢false}
use mathlib.Core.List.{[], ◌∷◌, ◌++◌}
use Prim.Native.Nat.{suc, ◌+◌, ◌-◌, ◌≤◌}
use native.Mathlib.Numerals.{add-one}
use native.Mathlib.Omega.{arith}
use lib.Dec.{T}
use lib.IntN.{ℤ, pos, negsuc, nat_abs, ◌-ℤ◌}
use lib.ListN.{length, length-append}
use lib.Signed.{mag, lt_z, non_neg}
use mir.Syntax.{w64}
use mir.Val.{SFits}
use borrow.Author.Tests.{ltb-true, le-ltb}
use Rattle.text_bytes.specs.Bytes.{minus}
use Rattle.text_put.specs.Decimal.{decimal, sign, signed}
use Rattle.text_put.proofs.Decimals.{decimal_length}

-- below zero
pub signed_below : (z : ℤ) → lt_z z (pos 0) ≡ true → signed z ≡ (minus ∷ []) ++ decimal (nat_abs z)
unfolding signed
signed_below (pos n) h = absurd (omega (arith, ltb-true n 0 h))
signed_below (negsuc n) h = refl

pub nat_abs_le : (z : ℤ) → nat_abs z ≤ mag z + 1
nat_abs_le (pos n) = omega arith
nat_abs_le (negsuc n) = omega arith

-- at zero or above
pub non_neg_above : (z : ℤ) → lt_z z (pos 0) ≡ false → T (non_neg z)
non_neg_above (pos n) h = tt
non_neg_above (negsuc n) h = absurd (true≢false h)

pub signed_above : (z : ℤ) → lt_z z (pos 0) ≡ false → signed z ≡ decimal (nat_abs z)
unfolding signed
signed_above (pos n) h = refl
signed_above (negsuc n) h = absurd (true≢false h)

pub sign_length : (z : ℤ) → length (sign z) ≤ 1
sign_length (pos n) = omega arith
sign_length (negsuc n) = omega arith

-- a sign and at most twenty digits
pub signed_length : (z : ℤ) → SFits w64 z → length (signed z) ≤ 21
unfolding signed
signed_length z f = rw length-append (omega (arith, sign_length z, decimal_length (nat_abs z) (omega (arith, nat_abs_le z, f.sfits))))
