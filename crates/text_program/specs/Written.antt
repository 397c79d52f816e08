-- What a loop over the pieces writes if it writes each of them once and in turn. No contract can say that it does, since the system writes.
use Rattle.std.specs.Prelude.{ℕ, ◌≤◌, ◌≡◌, List, [], ◌++◌, length, take}
use Rattle.text_program.specs.Program.{input_most, zeros, program}
use Rattle.text_program.specs.Piece.{Serves}
use Rattle.text_program.specs.declared.Piece.{Piece}

-- from a place of the input on, with these words: nothing where the input ends, else what a piece put into its buffer and then what follows
pub data Written (input : List ℕ) : List ℕ → ℕ → List ℕ → Type 0 where
  ended : {w : List ℕ} {start : ℕ} → length input ≤ start → Written input w start []
  piece : {w : List ℕ} {start : ℕ} {out : List ℕ} {r : Piece} {w' out' later : List ℕ} → Serves w input start out r w' out'
      → Written input w' r.next later
      → Written input w start (take r.count out' ++ later)

-- whatever buffers it has, from the start and with words that are all zero it writes the program
unfoldable pub WrittenIsProgram : Type 0
WrittenIsProgram = (input written : List ℕ) → length input ≤ input_most → Written input zeros 0 written → written ≡ program input
