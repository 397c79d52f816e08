-- The part of the words that starts where the record does, and what stands on both sides of it.
use mathlib.Core.Path.{refl, sym, ◌∙◌}
use Prim.Native.Nat.{◌+◌, ◌-◌}
use native.Mathlib.Omega.{arith}
use lib.ListN.{length, take, drop}
use Rattle.std.proofs.Common.{append_assoc}
use Rattle.std.proofs.lemmas.List.Edits.{paste_all, sets-eq}
use Rattle.std.proofs.lemmas.Slice.{put_mid-paste}
use Rattle.rules.specs.Layout.{record_at}
use Rattle.words.proofs.set_fields.Goals as goal

pub returns : goal.returns
returns c =
    let w = c.args.w.now in
    let row = c.args.row.now in
    let at = record_at c.args.i c.args.f in
    put_mid-paste at (at + length row - at) w _ row (length row) c.copy_from_slice.ensures.after (omega arith) refl
    ∙ paste_all w at row (length row) refl ∙ sym (append_assoc (take at w) row (drop (at + length row) w)) ∙ sym (sets-eq row w at (omega (arith, c.requires)))
