-- The difference of two numbers that are read as signed: it fits, and it is their difference as integers.
use mathlib.Core.Path.{◌≡◌, ◌∙◌}
use Prim.Native.Nat.{ℕ, ◌-◌, ◌^◌, ◌≤◌, ◌<◌}
use native.Mathlib.Omega.{arith}
use lib.IntN.{ℤ, pos, negsuc, ◌-ℤ◌, nat_abs}
use lib.Signed.{mag}
use mir.Syntax.{Width}
use mir.Val.{SFits, hbits, to_z, of_z}
use mir.ValLaws.{to_z_pos, to_z-of_z}
use Rattle.rule_laws.proofs.Readings.{difference_le}

mag_nat_abs_le : (z : ℤ) → mag z ≤ nat_abs z
mag_nat_abs_le (pos n) = omega arith
mag_nat_abs_le (negsuc n) = omega arith

mag_difference : (a b m : ℕ) → a < m → b < m → mag (pos a -ℤ pos b) < m
mag_difference a b m la lb = omega (arith, mag_nat_abs_le (pos a -ℤ pos b), difference_le a b (m - 1) (omega arith) (omega arith))

module _ (w : Width) (a b : ℕ) (la : a < 2 ^ hbits w) (lb : b < 2 ^ hbits w) where
  pub difference_fits : SFits w (to_z w a -ℤ to_z w b)
  difference_fits = rw (to_z_pos w a la, to_z_pos w b lb) (record { sfits = mag_difference a b (2 ^ hbits w) la lb })

  pub difference_is : to_z w (of_z w (to_z w a -ℤ to_z w b)) ≡ pos a -ℤ pos b
  difference_is = to_z-of_z w (to_z w a -ℤ to_z w b) difference_fits ∙ rw (to_z_pos w a la, to_z_pos w b lb)
