-- The part of the header that starts with k.
use native.Mathlib.Omega.{arith}
use Rattle.loops.specs.Fill.{from}
use Rattle.loops.proofs.Fill.{from_part}
use Rattle.words.proofs.setting.Goals as goal

pub returns : goal.returns
unfolding from
returns c = from_part c.args.w.now 0 1 4 (omega (arith, c.requires))
