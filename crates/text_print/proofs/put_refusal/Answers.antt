-- The text is eight bytes, and there is room for it, for the longest number and for the line feed.
use native.Mathlib.Omega.{arith}
use Rattle.put.proofs.Puts.{put_one, put_then}
use Rattle.text_put.proofs.Decimals.{decimal_length}
use Rattle.text_print.proofs.put_refusal.Goals as goal

pub put_number-after-requires : goal.put_number-after-requires
put_number-after-requires c =
    omega (arith, decimal_length c.number.result (omega arith), c.put_text-number.ensures.next, c.put_text-number.auto.out)

pub bounds-out-after : goal.bounds-out-after
bounds-out-after c =
    omega (arith, decimal_length c.number.result (omega arith), c.put_text-number.ensures.next, c.put_text-number.auto.out, c.put_number-after.ensures.next, c.put_number-after.auto.out)

pub overflow_add-result : goal.overflow_add-result
overflow_add-result c =
    omega (arith, bounds-out-after c, c.well_formed.0.0, c.put_text-number.auto.out, c.put_number-after.auto.out)

pub returns : goal.returns
returns c =
    put_then c.put_text-number.ensures (put_then (rw c.number.ensures at c.put_number-after.ensures) (put_one _ _ _))
