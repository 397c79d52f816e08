-- The bit is one of its word. Past the last word `get_or` gives 0, which has no bit set.
use mathlib.Core.Path.{sym}
use native.Mathlib.Omega.{arith}
use Rattle.bits.specs.Bits.{bit_at}
use Rattle.bits.proofs.Bits.{bit_at_past}
use Rattle.bits.proofs.is_set.Goals as goal

pub returns-then-j-bits : goal.returns-then-j-bits
unfolding bit_at
returns-then-j-bits c = c.has_bit.ensures

pub returns : goal.returns
returns c = sym (bit_at_past c.args.bits.now c.args.j (omega arith))
