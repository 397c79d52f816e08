-- What is served of the program at a time: as many lines as a lent buffer surely has room for.
use Rattle.std.specs.Prelude.{ℕ, suc, ◌+◌, ◌<◌, ◌≤◌, ◌≡◌, Bool, true, false, List, [], ◌∷◌, ◌++◌, length, take, drop, eqb, leb}
use Rattle.rules.specs.Layout.{size}
use Rattle.text_bytes.specs.Bytes.{line_feed}
use Rattle.put.specs.Put.{Put}
use Rattle.text_listing.specs.Listed.{line_most}
use Rattle.line_serve.specs.Serve.{served, Keeps}
use Rattle.text_program.specs.Program.{lines, printed}
use Rattle.text_program.specs.declared.Piece.{Piece}

-- where the first line ends: at its line feed, or with the input
unfoldable pub line_end : List ℕ → ℕ
line_end [] = 0
line_end (b ∷ input) = elim (eqb b line_feed) [ true ↦ 0 | false ↦ suc (line_end input) ]

-- the words that the lines leave in the end
unfoldable pub words_after : List ℕ → List (List ℕ) → List ℕ
words_after w [] = w
words_after w (line ∷ rest) = words_after (served w line).words rest

-- ---- a piece

-- the words, the bytes gathered, and where the next line starts
pub record Gathered : Type 0 where
  pub words : List ℕ
  pub prints : List ℕ
  pub next : ℕ

-- a line more
abbrev pub more : Gathered → List ℕ → Gathered
more g line =
    record {
      words = (served g.words line).words;
      prints = g.prints ++ (served g.words line).prints;
      next = g.next + length line + 1;
    }

-- the lines in turn, as long as there is room for the longest that a line prints
unfoldable pub gathered : ℕ → Gathered → List (List ℕ) → Gathered
gathered room g [] = g
gathered room g (line ∷ rest) = elim (leb (length g.prints + line_most) room) [ true ↦ gathered room (more g line) rest | false ↦ g ]

-- from a place of the input on, with nothing gathered
abbrev pub piece_of : ℕ → List ℕ → List ℕ → ℕ → Gathered
piece_of room w input start = gathered room (record { words = w; prints = []; next = start }) (lines (drop start input))

-- ---- the contract of the function that serves a piece

-- whether the workspace is a ledger or all zero is known, and there is room for a line
pub record Ready (w : List ℕ) (known : Bool) (out : List ℕ) : Type 0 where
  pub whole : length w ≡ size
  pub told : Keeps known w
  pub room : line_most ≤ length out

-- The words, the bytes and the place are those of the piece, and what the words are is known again. So what is left to print is
-- what stands in the buffer and then what is left to print from there on, and likewise for the words; and while there is input some is used.
pub record Serves (w input : List ℕ) (start : ℕ) (out : List ℕ) (r : Piece) (w' out' : List ℕ) : Type 0 where
  pub left : w' ≡ (piece_of (length out) w input start).words
  pub put : Put out 0 (piece_of (length out) w input start).prints r.count out'
  pub next : r.next ≡ (piece_of (length out) w input start).next
  pub told : Keeps r.known w'
  pub rest : printed w (lines (drop start input)) ≡ take r.count out' ++ printed w' (lines (drop r.next input))
  pub after : words_after w (lines (drop start input)) ≡ words_after w' (lines (drop r.next input))
  pub within : r.count ≤ length out'
  pub onward : start < length input → start < r.next
