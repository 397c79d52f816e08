-- The word with the bit set goes back to its place. Past the last word `set` changes nothing, and nothing is written.
use mathlib.Core.Path.{sym}
use native.Mathlib.Omega.{arith}
use lib.Seq.{set_out}
use Rattle.bits.specs.Bits.{with_bit}
use Rattle.bits.proofs.set_bit.Goals as goal

pub returns-then-q-bits : goal.returns-then-q-bits
unfolding with_bit
returns-then-q-bits c = rw c.with_bit.ensures

pub returns-else-q-bits : goal.returns-else-q-bits
unfolding with_bit
returns-else-q-bits c = sym (set_out c.args.bits.now _ _ (omega arith))
