-- CR 1 on the console: what the program's words are at any time, and so which damage it can tell of.
use Rattle.std.specs.Prelude.{◌≡◌, Bool, false, ◌||◌, List, [], ◌∷◌, ◌⊎◌, ℕ, Err, Ok}
use Rattle.terms.specs.declared.answer.Refusal.TheVariants.{DamagedHeader}
use Rattle.rules.specs.Calls.{test_of}
use Rattle.line_serve.specs.Serve.{Keeps, opens}
use Rattle.text_program.specs.Program.{zeros}
use Rattle.text_program.specs.Piece.{words_after}

-- some line was a taken opening
unfoldable pub has_opened : Bool → List (List ℕ) → Bool
has_opened opened [] = opened
has_opened opened (line ∷ rest) = has_opened (opens line || opened) rest

-- after any lines the words are a ledger if one of them opened it, and all zero still if none did
unfoldable pub ProgramKeeps : Type 0
ProgramKeeps = (lines : List (List ℕ)) → Keeps (has_opened false lines) (words_after zeros lines)

-- so the test that every call but open begins with stops at nothing, or at the header: of 1, 2, 14 and 15 such a call gives 2 alone
unfoldable pub ProgramGivesTwo : Type 0
ProgramGivesTwo =
    (lines : List (List ℕ)) → (test_of (words_after zeros lines) ≡ Ok tt) ⊎ (test_of (words_after zeros lines) ≡ Err DamagedHeader)
