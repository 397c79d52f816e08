-- Laws of the whole program: the two sides of the limit, that one byte more than the limit is enough to read, and what is left at the end.
use mathlib.Core.Path.{◌≡◌, sym, ap, ◌∙◌}
use mathlib.Core.Bool.{cond}
use mathlib.Core.List.{List, []}
use Prim.Native.Nat.{ℕ, ◌+◌, ◌<◌, ◌≤◌}
use native.Mathlib.Decide.{dec_lt}
use native.Mathlib.Omega.{arith}
use lib.ListN.{length, take, drop, length-take, length-replicate, drop_of_length-le}
use lib.Seq.{take_all}
use borrow.Author.Tests.{lt-ltb, le-ltb}
use Rattle.rules.specs.Layout.{size}
use Rattle.text_print.specs.Print.{too_long}
use Rattle.text_program.specs.Program.{input_most, zeros, lines, printed, program}
use Rattle.text_program.specs.Piece.{words_after}

pub zeros_whole : length zeros ≡ size
zeros_whole = length-replicate {A = ℕ} size 0

-- ---- the limit

pub program_long : (input : List ℕ) → input_most < length input → program input ≡ too_long
unfolding program
program_long input h = ap (λ b. cond b too_long (printed zeros (lines input))) (lt-ltb input_most (length input) h)

pub program_short : (input : List ℕ) → length input ≤ input_most → program input ≡ printed zeros (lines input)
unfolding program
program_short input h = ap (λ b. cond b too_long (printed zeros (lines input))) (le-ltb input_most (length input) h)

-- who reads one byte more than the limit has read enough
pub program_read : (input : List ℕ) → program (take (input_most + 1) input) ≡ program input
program_read input = go (dec_lt input_most (length input))
  where
    go : Dec (input_most < length input) → program (take (input_most + 1) input) ≡ program input
    go (yes l) = program_long (take (input_most + 1) input) (rw (length-take (input_most + 1) input) (omega arith)) ∙ sym (program_long input l)
    go (no l) = ap program (take_all (input_most + 1) input (omega arith))

-- ---- where the input ends

pub printed_over : (w input : List ℕ) (start : ℕ) → length input ≤ start → printed w (lines (drop start input)) ≡ []
unfolding printed lines
printed_over w input start h = rw (drop_of_length-le input h)

pub words_over : (w input : List ℕ) (start : ℕ) → length input ≤ start → words_after w (lines (drop start input)) ≡ w
unfolding words_after lines
words_over w input start h = rw (drop_of_length-le input h)
