-- Two bytes, the high one first.
use mathlib.Core.Path.{sym, ap₂, ◌∙◌}
use Prim.Native.Nat.{ℕ, ◌+◌, ◌*◌}
use native.Mathlib.Omega.{arith}
use Rattle.day_marks.proofs.Readers.{number_is}
use Rattle.day_marks.proofs.number_at.Goals as goal

pub returns : goal.returns
returns c =
    let S = c.args in
    (ap₂ (λ (h l : ℕ). h * 256 + l) c.byte_at.ensures.0 c.byte_at-2.ensures.0 ∙ sym (number_is S.file.now S.at), omega (arith, c.byte_at.ensures, c.byte_at-2.ensures))
