-- Where the file has no room nothing is written; else the day is.
use Rattle.std.specs.Prelude.{Ok}
use mathlib.Core.Path.{◌≡◌, ap, ap₂, ◌∙◌}
use Prim.Native.Nat.{◌≤◌}
use native.Mathlib.Omega.{arith}
use lib.IntN.{pos}
use lib.ListN.{length}
use mir.Syntax.{w64}
use mir.Val.{to_z}
use mir.ValLaws.{to_z_pos}
use Rattle.terms.specs.declared.form.Form.TheVariants.{First}
use Rattle.terms.specs.Answers.{handover}
use Rattle.rules.specs.Layout.{setting_in}
use Rattle.day_file.specs.Bytes.{day_file}
use Rattle.day_file.proofs.Lengths.{edition_length_most, day_file_most}
use Rattle.known_write.proofs.Written.{short, taken}
use Rattle.known_write.proofs.write_first.Goals as goal

pub returns-then-out-length : goal.returns-then-out-length
returns-then-out-length c = short c.args.w.now First c.args.out.now c.requires (omega (arith, c.file_length-length.ensures, c.if-out-length.true))

pub returns : goal.returns
returns c =
    let room : length (day_file c.args.w.now) ≤ length c.args.out.now = omega (arith, c.file_length-length.ensures, c.if-out-length.false) in
    let counted = c.file_length-length.ensures in
    let value : to_z w64 c.file_length-length.result ≡ pos (length (day_file c.args.w.now)) =
    to_z_pos w64 _ (omega (arith, counted, day_file_most c.args.w.now c.requires, edition_length_most (setting_in c.args.w.now).edition)) ∙ ap pos counted in
    ap₂ (λ v l. handover (Ok v) c.args.w.now l) value c.put_day.ensures ∙ taken c.args.w.now First c.args.out.now c.requires room
