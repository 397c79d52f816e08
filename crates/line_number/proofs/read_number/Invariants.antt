use Rattle.line_number.proofs.Digits.{Read}
use Rattle.line_number.proofs.read_number.Given as goal

abbrev pub invariant-loop-byte : goal.invariant-loop-byte
invariant-loop-byte l = Read l.most l.word l.byte-index l.value
