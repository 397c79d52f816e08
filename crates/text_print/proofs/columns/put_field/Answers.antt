-- The number has at most twenty digits, so there is room for it and for the byte after it.
use native.Mathlib.Omega.{arith}
use Rattle.put.proofs.Puts.{put_one, put_then}
use Rattle.text_put.proofs.Decimals.{decimal_length}
use Rattle.text_print.proofs.columns.put_field.Goals as goal

pub put_number-end-requires : goal.put_number-end-requires
put_number-end-requires c = omega (arith, decimal_length c.args.v c.ranges.v.fits)

pub bounds-out-end : goal.bounds-out-end
bounds-out-end c =
    omega (arith, decimal_length c.args.v c.ranges.v.fits, c.put_number-end.ensures.next, c.put_number-end.auto.out)

pub overflow_add-result : goal.overflow_add-result
overflow_add-result c = omega (arith, bounds-out-end c, c.well_formed.0.0, c.put_number-end.auto.out)

pub returns : goal.returns
returns c = put_then c.put_number-end.ensures (put_one _ _ _)
