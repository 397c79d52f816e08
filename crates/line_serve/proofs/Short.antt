-- No line prints more than the longest listing.
use Rattle.std.specs.Prelude.{Err, Ok}
use mathlib.Core.Path.{◌≡◌, refl, sym, subst}
use mathlib.Core.List.{List}
use Prim.Native.Nat.{ℕ, ◌≤◌}
use native.Mathlib.Omega.{arith}
use lib.IntN.{ℤ, nat_abs}
use lib.ListN.{length, length-append}
use Rattle.terms.specs.declared.answer.Refusal.{Refusal}
use Rattle.terms.specs.declared.answer.Reading.{Reading}
use Rattle.terms.specs.declared.answer.Reading.TheVariants.{Query, Accepted, Lead, Confidence, Size}
use Rattle.terms.specs.Answers.{refusal_number, number, value, Answer}
use Rattle.rules.specs.Calls.{read_call}
use Rattle.rule_laws.proofs.Calls.{refusal_number_within}
use Rattle.text_put.specs.Decimal.{signed}
use Rattle.text_print.specs.Print.{refusal_prints, reading_prints, call_prints, answer_most}
use Rattle.text_put.proofs.Decimals.{decimal_length}
use Rattle.text_put.proofs.Signs.{sign_length}
use Rattle.promises.specs.Ranges.{Between}
use Rattle.promises.proofs.Ranges.{ranges}

pub refusal_length : (r : Refusal) → length (refusal_prints r) ≤ answer_most
refusal_length r =
    simp length-append (omega (arith, decimal_length (refusal_number r) (omega (arith, (refusal_number_within r).1))))

pub call_length : (a : Answer) → length (call_prints a) ≤ answer_most
call_length (Ok v) = omega arith
call_length (Err r) = refusal_length r

-- ---- readings

value_length : (a : Answer) → (number a ≡ 0 → nat_abs (value a) ≤ 512) → length (reading_prints a) ≤ answer_most
unfolding signed
value_length (Ok v) h =
    simp length-append (omega (arith, sign_length v, decimal_length (nat_abs v) (omega (arith, h refl))))
value_length (Err r) h = refusal_length r

between_nat_abs : {least most : ℕ} {z : ℤ} → Between least most z → nat_abs z ≤ most
between_nat_abs {most = most} b = subst (λ y. nat_abs y ≤ most) (sym b.is) b.below

reading_nat_abs : (what : Reading) (w : List ℕ) (name : ℕ) → number (read_call what w name) ≡ 0 → nat_abs (value (read_call what w name)) ≤ 512
reading_nat_abs Query w name t = omega (arith, between_nat_abs (ranges.query w name t))
reading_nat_abs Accepted w name t = omega (arith, between_nat_abs (ranges.accepted w name t))
reading_nat_abs Lead w name t = omega (arith, ranges.lead w name t)
reading_nat_abs Confidence w name t = omega (arith, between_nat_abs (ranges.confidence w name t))
reading_nat_abs Size w name t = between_nat_abs (ranges.size w name t)

pub reading_length : (what : Reading) (w : List ℕ) (name : ℕ) → length (reading_prints (read_call what w name)) ≤ answer_most
reading_length what w name = value_length (read_call what w name) (reading_nat_abs what w name)
