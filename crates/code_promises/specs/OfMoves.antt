-- The promises of moving a file, said of the code. A move has two lent buffers and no workspace, so it is no call of a run, and its promises stand by themselves.
use Rattle.std.specs.Prelude.{◌≡◌, List, ◌≢◌, ℕ, ◌≤◌, ℤ, pos, length, take}
use Rattle.terms.specs.declared.form.Form.{Form}
use Rattle.rules.specs.Layout.{size}
use Rattle.day_file.specs.Bytes.{file_of}
use Rattle.day_file.specs.Calls.{moved_in, move_file_call}
use Rattle.promises.specs.Run.{ReadFile}
use Rattle.promises.specs.Refusals.{MoveFileListed}
use Rattle.promises.specs.DayFile.{Written}
use Rattle.promises.specs.MoveFile.{other_form}
use Rattle.station.specs.Returned.{Handed}
use Rattle.code_promises.specs.Contract.{Contract, Unasked, Allowed}
use Rattle.code_promises.specs.OfCode.{Done, Function, Made}

-- all that a caller sees of a move: the form of the file that is read, its bytes, those of the output before it, the number and the value that it gave, and the
-- bytes of the output after it
pub record MoveDone : Type 0 where
  pub form : Form
  pub file : List ℕ
  pub before : List ℕ
  pub number : ℕ
  pub value : ℤ
  pub after : List ℕ

-- a public function that moves: its contract, and what a caller sees of each move that it allows
pub record Mover : Type 4 where
  pub contract : Contract
  pub done : Allowed contract → MoveDone

-- ---- the promises, of functions by their names. Which functions these are stands in proofs/Functions.antt
module _ {Name : Type 0} (mover : Name → Mover) where
  -- none of them needs a check first
  unfoldable pub MoveNothingAsked : Type 0
  MoveNothingAsked = (f : Name) → Unasked (mover f).contract

  -- one of them may have made this move
  pub record MoveMade (d : MoveDone) : Type 0 where
    pub by : Name
    pub allowed : Allowed (mover by).contract
    pub seen : (mover by).done allowed ≡ d

  -- function f may move the file, of this form, to the output
  pub record MakesMove (f : Name) (form : Form) (file out : List ℕ) : Type 0 where
    pub allowed : Allowed (mover f).contract
    pub asks : ((mover f).done allowed).form ≡ form
    pub input : ((mover f).done allowed).file ≡ file
    pub output : ((mover f).done allowed).before ≡ out

  -- every move between any two buffers may be made by the function that a face has for its form, so the promises speak of something
  unfoldable pub MoveCallable : (face : Form → Name) → Type 0
  MoveCallable face = (form : Form) (file out : List ℕ) → MakesMove (face form) form file out

  -- each move gives what the law says: number, value and output
  unfoldable pub MoveLawful : Type 0
  MoveLawful = (d : MoveDone) → MoveMade d → Handed (move_file_call d.form d.file d.before) d.number d.value d.after

  -- two outcomes of one move between the same buffers are equal
  unfoldable pub MoveUnique : Type 0
  MoveUnique =
      (d e : MoveDone) → MoveMade d → MoveMade e → d.form ≡ e.form → d.file ≡ e.file → d.before ≡ e.before
      → (d.number ≡ e.number) × (d.value ≡ e.value) × (d.after ≡ e.after)

  -- each refusal comes exactly in its listed case, the first in the order
  unfoldable pub MoveListed : Type 0
  MoveListed = (d : MoveDone) → MoveMade d → MoveFileListed d.form d.file d.before d.number

  -- a refused move has changed no byte of the output, and its value is 0
  unfoldable pub MoveRefuses : Type 0
  MoveRefuses = (d : MoveDone) → MoveMade d → d.number ≢ 0 → (d.after ≡ d.before) × (d.value ≡ pos 0)

  -- what a taken one writes stands at the front of the output, the bytes past it stay, and the value is its length
  unfoldable pub MoveWrites : Type 0
  MoveWrites = (d : MoveDone) → MoveMade d → d.number ≡ 0 → Written (moved_in d.form d.file) d.before d.value d.after

  -- it is the file, in the other form, of the words that reading the input by the code leaves: into any words of the right length that is taken too
  unfoldable pub MoveWritesWhatIsRead : {Called : Type 0} → (Called → Function) → Type 0
  MoveWritesWhatIsRead function =
      (d : MoveDone) (e : Done) → MoveMade d → d.number ≡ 0 → Made function e → e.call ≡ ReadFile d.form d.file → length e.before ≡ size
      → (e.number ≡ 0) × Written (file_of (other_form d.form) e.after) d.before d.value d.after

  -- there and back: what a taken move wrote, as many bytes as its value says, moves back to the same bytes wherever there is room, in whichever form it began
  unfoldable pub MoveComesBack : Type 0
  MoveComesBack =
      (d e : MoveDone) (long : ℕ) → MoveMade d → d.number ≡ 0 → d.value ≡ pos long
      → MoveMade e → e.form ≡ other_form d.form → e.file ≡ take long d.after → length d.file ≤ length e.before
      → (e.number ≡ 0) × Written d.file e.before e.value e.after
