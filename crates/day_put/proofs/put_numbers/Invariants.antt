use lib.ListN.{take}
use Rattle.put.specs.Put.{Put}
use Rattle.day_file.specs.Bytes.{number_bytes, joined}
use Rattle.day_put.proofs.put_numbers.Given as goal

abbrev pub invariant-loop-number : goal.invariant-loop-number
invariant-loop-number l = Put l.initial.out l.at (joined number_bytes (take l.number-index l.numbers)) l.next l.out
