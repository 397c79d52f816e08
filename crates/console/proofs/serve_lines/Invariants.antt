use Rattle.std.proofs.Common.{◌≡◌, ◌-◌, length, drop, List, ℕ, ◌++◌}
use Rattle.std.specs.Io.KnownBytes.{Appends}
use Rattle.rules.specs.Layout.{size}
use Rattle.line_serve.specs.Serve.{Keeps}
use Rattle.text_program.specs.Program.{zeros, lines, printed}
use Rattle.text_program.specs.Piece.{words_after}
use Rattle.console.specs.Console.{gathered_most}
use Rattle.console.proofs.serve_lines.Given as goal

-- What the lines leave and print in the end is what those that are not yet served do on the words as they are now, after what is written.
abbrev pub invariant-loop-start : goal.invariant-loop-start
invariant-loop-start g l = record {
  whole : length l.w ≡ size;
  room : length l.out ≡ gathered_most;
  told : Keeps l.known l.w;
  after : words_after zeros (lines l.input) ≡ words_after l.w (lines (drop l.start l.input));
  written : (bs : List ℕ) × Appends (g.W.Write.contents l.initial.to) (g.W.Write.contents l.to) bs
      × (printed zeros (lines l.input) ≡ bs ++ printed l.w (lines (drop l.start l.input)));
}

abbrev pub decreases-loop-start : goal.decreases-loop-start
decreases-loop-start g l = length l.input - l.start
