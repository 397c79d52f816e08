-- Document 01, "The text program": the whole program, from the bytes of standard input to the bytes of standard output.
use Rattle.std.specs.Prelude.{ℕ, true, false, cond, List, [], ◌∷◌, ◌++◌, length, replicate, eqb, ltb}
use Rattle.rules.specs.Layout.{size}
use Rattle.text_bytes.specs.Bytes.{line_feed}
use Rattle.text_print.specs.Print.{too_long}
use Rattle.line_words.specs.Words.{before}
use Rattle.line_serve.specs.Serve.{served}

-- the longest input that is taken
abbrev pub input_most : ℕ
input_most = 65536

-- the words that the first line is served on
abbrev pub zeros : List ℕ
zeros = replicate size 0

-- the input cut at its line feeds: each closes a line, and what is left after the last of them is one more, unless it is empty
unfoldable pub lines : List ℕ → List (List ℕ)
lines [] = []
lines (b ∷ input) = elim (eqb b line_feed) [ true ↦ [] ∷ lines input | false ↦ before b (lines input) ]

-- what the lines print, each on the words that the one before it left
unfoldable pub printed : List ℕ → List (List ℕ) → List ℕ
printed w [] = []
printed w (line ∷ rest) = (served w line).prints ++ printed (served w line).words rest

-- an input over the limit is answered as a whole: none of its lines is served
unfoldable pub program : List ℕ → List ℕ
program input = cond (ltb input_most (length input)) too_long (printed zeros (lines input))
