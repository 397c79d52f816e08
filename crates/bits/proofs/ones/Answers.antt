-- The language's count of ones, which a word's 64 bits bound.
use lib.Count.{ones-le}
use Rattle.bits.proofs.Counted.{ones_bits}
use Rattle.bits.proofs.ones.Goals as goal

pub returns : goal.returns
returns c = (ones_bits 64 c.args.word c.ranges.word.fits, ones-le 64 c.args.word c.ranges.word.fits)
