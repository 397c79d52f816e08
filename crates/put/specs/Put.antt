-- What a writer leaves in a lent buffer.
use Rattle.std.specs.Prelude.{ℕ, ◌+◌, ◌≤◌, ◌≡◌, List, length}
use Rattle.std.proofs.lemmas.List.Edits.{sets}

-- the bytes fit into the buffer from the offset on
abbrev pub Room : List ℕ → ℕ → List ℕ → Type 0
Room out at bytes = at + length bytes ≤ length out

-- the bytes stand from the offset on, every other byte stays, and r is the offset after them
pub record Put (out : List ℕ) (at : ℕ) (bytes : List ℕ) (r : ℕ) (out' : List ℕ) : Type 0 where
  pub next : r ≡ at + length bytes
  pub after : out' ≡ sets out at bytes
