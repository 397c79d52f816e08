-- The part of the words that starts where the record does.
use mathlib.Core.Path.{◌≡◌, ap, ◌∙◌}
use Prim.Native.Nat.{◌+◌, ◌*◌, ◌-◌}
use native.Mathlib.Omega.{arith}
use lib.ListN.{take, drop}
use Rattle.loops.proofs.Fill.{from_part}
use Rattle.rules.specs.Layout.{header_words, record_words, record_at}
use Rattle.words.proofs.fields.Goals as goal

pub returns : goal.returns
returns c =
    let A = c.args in
    let at = record_at A.i A.f in
    let n : at + A.count - at ≡ A.count = omega arith in
    ap (λ k. take k (drop at A.w.now)) n ∙ from_part A.w.now (header_words + record_words * A.i) A.f A.count (omega (arith, c.requires))
