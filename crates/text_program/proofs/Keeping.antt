-- Each line leaves a ledger or words that are all zero. Assumes nothing.
use Rattle.std.specs.Prelude.{Err, Ok}
use mathlib.Core.Path.{◌≡◌, refl}
use mathlib.Core.Bool.{Bool, true, false, ◌||◌}
use mathlib.Core.List.{List, [], ◌∷◌}
use mathlib.Core.Logic.{◌⊎◌, inl, inr}
use Prim.Native.Nat.{ℕ}
use Rattle.terms.specs.declared.answer.Refusal.TheVariants.{DamagedHeader}
use Rattle.rules.specs.Calls.{test_of}
use Rattle.rule_laws.proofs.Tested.{ledger_fine}
use Rattle.line_serve.specs.Serve.{Keeps, opens, served}
use Rattle.line_serve.proofs.Known.{unopened_stop}
use Rattle.line_serve.proofs.Serving.{served_kept}
use Rattle.text_program.specs.Program.{zeros}
use Rattle.text_program.specs.Piece.{words_after}
use Rattle.text_program.specs.Keeping.{has_opened, ProgramKeeps, ProgramGivesTwo}

after_kept : (w : List ℕ) (lines : List (List ℕ)) (opened : Bool) → Keeps opened w → Keeps (has_opened opened lines) (words_after w lines)
unfolding words_after has_opened
after_kept w [] opened k = k
after_kept w (line ∷ rest) opened k = after_kept (served w line).words rest (opens line || opened) (served_kept w line opened k)

pub program_keeps : ProgramKeeps
unfolding ProgramKeeps
program_keeps lines = after_kept zeros lines false refl

gives : (w : List ℕ) (opened : Bool) → Keeps opened w → (test_of w ≡ Ok tt) ⊎ (test_of w ≡ Err DamagedHeader)
gives w true k = inl (ledger_fine w k)
gives w false k = inr (unopened_stop w false k refl)

pub program_gives_two : ProgramGivesTwo
unfolding ProgramGivesTwo
program_gives_two lines = gives (words_after zeros lines) (has_opened false lines) (after_kept zeros lines false refl)
