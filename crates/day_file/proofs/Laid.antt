-- Laws of bytes laid at the front of a buffer that has room for them. Assumes nothing.
use mathlib.Core.Path.{◌≡◌, ◌∙◌}
use mathlib.Core.List.{List}
use Prim.Native.Nat.{ℕ, ◌+◌, ◌-◌, ◌<◌, ◌≤◌}
use native.Mathlib.Omega.{arith}
use lib.ListN.{length, get_or, drop, length-append, length-drop, get_or-append}
use lib.Seq.{get_or-append-add, get_or-drop}
use Rattle.day_file.specs.Calls.{laid}

module _ (bytes buffer : List ℕ) where
  -- the buffer stays as long
  pub length_laid : length bytes ≤ length buffer → length (laid bytes buffer) ≡ length buffer
  length_laid room = omega (arith, length-append bytes (drop (length bytes) buffer), length-drop (length bytes) buffer)

  pub laid_front : (j : ℕ) → j < length bytes → get_or (laid bytes buffer) j 0 ≡ get_or bytes j 0
  laid_front j u = get_or-append bytes (drop (length bytes) buffer) 0 j u

  pub laid_past : (j : ℕ) → length bytes ≤ j → get_or (laid bytes buffer) j 0 ≡ get_or buffer j 0
  laid_past j l =
      let place : j ≡ length bytes + (j - length bytes) = omega arith in
      rw place (get_or-append-add bytes (drop (length bytes) buffer) (j - length bytes) 0 ∙ get_or-drop (length bytes) buffer (j - length bytes) 0)
