-- A number below ten is its own digit; any other is the digits of its tenth, which is smaller, and then the last digit.
use Rattle.std.proofs.Common.{ap, arith, length}
use Rattle.put.proofs.Puts.{put_one, put_then}
use Rattle.text_put.proofs.Decimals.{decimal_low, decimal_high, decimal_high_length}
use Rattle.text_put.proofs.+put_number.Goals as goal

pub bounds-out-at : goal.bounds-out-at
bounds-out-at t c = omega (arith, ap length (decimal_low c.args.v c.if-v-lt10.true))

pub returns-then-v-lt10 : goal.returns-then-v-lt10
returns-then-v-lt10 t c = rw (decimal_low c.args.v c.if-v-lt10.true) (put_one _ _ _)

pub put_number-next-requires : goal.put_number-next-requires
put_number-next-requires t c = (omega arith, omega (arith, decimal_high_length c.args.v c.if-v-lt10.false))

pub bounds-out-next : goal.bounds-out-next
bounds-out-next t c = omega (arith, decimal_high_length c.args.v c.if-v-lt10.false, c.put_number-next.ensures.next, c.put_number-next.auto.out)

pub overflow_add-result-2 : goal.overflow_add-result-2
overflow_add-result-2 t c = omega (arith, bounds-out-next t c, c.well_formed.0.0, c.put_number-next.auto.out)

pub returns : goal.returns
returns t c = rw (decimal_high c.args.v c.if-v-lt10.false) (put_then c.put_number-next.ensures (put_one _ _ _))
