-- What the system told, and what the whole input leaves. No contract can say which bytes a call of the system reads or writes.
use Rattle.std.specs.Prelude.{ℕ, ◌≤◌, min, ◌≡◌, cond, List, length, Result, Ok, Err, ltb}
use Rattle.text_program.specs.Program.{input_most, zeros, lines}
use Rattle.text_program.specs.Piece.{words_after}

-- ---- reading

-- an error is a fault and no end of the input; never more bytes than there was room for, and none at the end
abbrev pub got_of : {E : Type 0} → Result ℕ E → ℕ → Result ℕ E
got_of (Ok n) room = Ok (min n room)
got_of (Err e) room = Err e

-- the bytes read are within the buffer
abbrev pub Within : {E : Type 0} → Result ℕ E → ℕ → Type 0
Within (Ok count) room = count ≤ room
Within (Err e) room = Unit

-- ---- serving

-- how many bytes are gathered at most before they are written
abbrev pub gathered_most : ℕ
gathered_most = 131072

-- the workspace is all zero, and the buffer is whole
pub record Begun (w out : List ℕ) : Type 0 where
  pub words : w ≡ zeros
  pub room : length out ≡ gathered_most

-- the words that the whole input leaves; an input that is too long leaves them as they were
abbrev pub words_left : List ℕ → List ℕ
words_left input = cond (ltb input_most (length input)) zeros (words_after zeros (lines input))
