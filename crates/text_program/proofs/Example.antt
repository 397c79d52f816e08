-- Document 01, "The text program": its example, ten lines in and six lines out, computed from the definition of the program. With CR 8 the first
-- line names edition 0.
-- What each line says is computed here; what its calls do, in crates/text_listing/proofs/Run.antt.
use mathlib.Core.Path.{◌≡◌, refl, ap, ◌∙◌}
use mathlib.Core.List.{List, [], ◌∷◌}
use Prim.Native.Nat.{ℕ}
use native.Mathlib.Omega.{arith}
use lib.ListN.{length}
use Rattle.loops.specs.Search.{first_from}
use Rattle.loops.specs.Turns.{up_to}
use Rattle.text_bytes.specs.Bytes.{bytes}
use Rattle.text_listing.proofs.Run.{the_calls, run_prints, run_says, run_prints_lem}
use Rattle.line_number.specs.Numbers.{value_of, is_number, number_read, vote_read}
use Rattle.line_keyword.specs.Keywords.{is_same}
use Rattle.line_words.specs.Words.{words}
use Rattle.line_scan.specs.Lists.{leading, many_of}
use Rattle.line_parse.specs.Line.{open_says, read_says, book_says, poll_says, line_says}
use Rattle.line_serve.specs.Serve.{served}
use Rattle.text_program.specs.Program.{zeros, lines, printed, program}
use Rattle.text_program.proofs.Program.{program_short, program_long}

-- how an input falls into lines: none in an empty one and none after the final line feed, an empty one, and a last one that ends with the input
line_cases :
    (lines (bytes "") ≡ [])
    × (lines (bytes "\n") ≡ bytes "" ∷ [])
    × (lines (bytes "list") ≡ bytes "list" ∷ [])
    × (lines (bytes "list\n") ≡ bytes "list" ∷ [])
    × (lines (bytes "list\n\nsize 1") ≡ bytes "list" ∷ bytes "" ∷ bytes "size 1" ∷ [])
unfolding lines
line_cases = (refl, refl, refl, refl, refl)

-- the limit: the longest input that is served, and the shortest that is not
limit_cases : (input : List ℕ)
    → (length input ≡ 65536 → program input ≡ printed zeros (lines input))
    × (length input ≡ 65537 → program input ≡ bytes "input too long\n")
limit_cases input = (λ e. program_short input (omega (arith, e)), λ e. program_long input (omega (arith, e)))

-- the ten lines
abbrev pub example : List (List ℕ)
example =
    bytes "open 3 2 1 2 0"
    ∷ bytes "book 1 7 0"
    ∷ bytes "book 2 7 0"
    ∷ bytes "book 3 9 1"
    ∷ bytes "book 4 10 1 2"
    ∷ bytes "poll 2 1 1 -1"
    ∷ bytes "poll 3 1 0 0"
    ∷ bytes "poll 4 1 1 1"
    ∷ bytes "poll 1 1 1 0"
    ∷ bytes "list"
    ∷ []

abbrev pub example_input : List ℕ
example_input =
    bytes "open 3 2 1 2 0\nbook 1 7 0\nbook 2 7 0\nbook 3 9 1\nbook 4 10 1 2\npoll 2 1 1 -1\npoll 3 1 0 0\npoll 4 1 1 1\npoll 1 1 1 0\nlist\n"

example_lines : lines example_input ≡ example
unfolding lines
example_lines = refl

-- what the lines say, and so which calls they make
example_calls : (w : List ℕ) → printed w example ≡ run_prints the_calls w
unfolding printed served line_says open_says read_says book_says poll_says leading many_of words is_same value_of is_number number_read vote_read first_from up_to run_prints
example_calls w = refl

pub example_prints : program example_input ≡ run_says
example_prints = program_short example_input (omega arith) ∙ ap (printed zeros) example_lines ∙ example_calls zeros ∙ run_prints_lem
