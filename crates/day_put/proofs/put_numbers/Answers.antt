-- What is written so far is the numbers so far.
use native.Mathlib.Omega.{arith}
use Rattle.put.proofs.Puts.{put_past}
use Rattle.day_put.proofs.Words.{numbers_none, numbers_more, front_length}
use Rattle.day_put.proofs.put_numbers.Goals as goal

pub loop-number-init : goal.loop-number-init
loop-number-init c = numbers_none _ _ c.args.numbers.now

pub put_number-next-requires : goal.put_number-next-requires
put_number-next-requires c =
    let L = c.loop-number in
    omega (arith, put_past _ (front_length c.args.numbers.now L.number-index (omega arith)) L.invariant)

pub loop-number-preserved : goal.loop-number-preserved
loop-number-preserved c =
    let L = c.loop-number in
    numbers_more _ L.number-index (omega arith) L.invariant c.put_number-next.ensures
