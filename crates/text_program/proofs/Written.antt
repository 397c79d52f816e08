-- What is written piece by piece is what is left to print, and so from the start the program.
use mathlib.Core.Path.{◌≡◌, sym, ap, ◌∙◌}
use mathlib.Core.List.{List, ◌++◌}
use Prim.Native.Nat.{ℕ}
use lib.ListN.{take, drop}
use Rattle.text_program.specs.Program.{lines, printed}
use Rattle.text_program.specs.Written.{Written, ended, piece, WrittenIsProgram}
use Rattle.text_program.proofs.Program.{program_short, printed_over}

written_rest : {input w written : List ℕ} {start : ℕ} → Written input w start written → written ≡ printed w (lines (drop start input))
written_rest {input} {w} {start = start} (ended h) = sym (printed_over w input start h)
written_rest (piece {r = r} {out' = out'} s later) = ap (λ bs. take r.count out' ++ bs) (written_rest later) ∙ sym s.rest

pub written_is_program : WrittenIsProgram
unfolding WrittenIsProgram
written_is_program input written h t = written_rest t ∙ sym (program_short input h)
