-- Where the file has no room nothing is written; else the day, and the marks in what remains behind it.
use Rattle.std.specs.Prelude.{Ok}
use mathlib.Core.Path.{◌≡◌, ap, ap₂, ◌∙◌}
use Prim.Native.Nat.{◌+◌, ◌*◌, ◌≤◌}
use native.Mathlib.Omega.{arith}
use lib.IntN.{pos}
use lib.ListN.{length}
use mir.Syntax.{w64}
use mir.Val.{to_z}
use mir.ValLaws.{to_z_pos}
use Rattle.terms.specs.declared.form.Form.TheVariants.{Second}
use Rattle.terms.specs.Answers.{handover}
use Rattle.day_file.specs.Bytes.{file_of}
use Rattle.known_write.proofs.Written.{short, taken, length_second_form, second_form_most, second_laid}
use Rattle.known_write.proofs.write_second.Goals as goal

pub overflow_mul-length : goal.overflow_mul-length
overflow_mul-length c =
    let whole : (c.file_length-day.result + (2 + 2 * c.mark_count.result) ≡ length (file_of Second c.args.w.now)) × (length (file_of Second c.args.w.now) ≤ 13294) = (omega (arith, c.file_length-day.ensures, c.mark_count.ensures, length_second_form c.args.w.now), second_form_most c.args.w.now c.requires) in
    omega (arith, whole)

pub overflow_add-length : goal.overflow_add-length
overflow_add-length c =
    let whole : (c.file_length-day.result + (2 + 2 * c.mark_count.result) ≡ length (file_of Second c.args.w.now)) × (length (file_of Second c.args.w.now) ≤ 13294) = (omega (arith, c.file_length-day.ensures, c.mark_count.ensures, length_second_form c.args.w.now), second_form_most c.args.w.now c.requires) in
    omega (arith, whole)

pub overflow_add-length-2 : goal.overflow_add-length-2
overflow_add-length-2 c =
    let whole : (c.file_length-day.result + (2 + 2 * c.mark_count.result) ≡ length (file_of Second c.args.w.now)) × (length (file_of Second c.args.w.now) ≤ 13294) = (omega (arith, c.file_length-day.ensures, c.mark_count.ensures, length_second_form c.args.w.now), second_form_most c.args.w.now c.requires) in
    omega (arith, whole)

pub returns-then-out-length : goal.returns-then-out-length
returns-then-out-length c =
    let whole : (c.file_length-day.result + (2 + 2 * c.mark_count.result) ≡ length (file_of Second c.args.w.now)) × (length (file_of Second c.args.w.now) ≤ 13294) = (omega (arith, c.file_length-day.ensures, c.mark_count.ensures, length_second_form c.args.w.now), second_form_most c.args.w.now c.requires) in
    short c.args.w.now Second c.args.out.now c.requires (omega (arith, whole, c.if-out-length.true))

pub returns : goal.returns
returns c =
    let whole : (c.file_length-day.result + (2 + 2 * c.mark_count.result) ≡ length (file_of Second c.args.w.now)) × (length (file_of Second c.args.w.now) ≤ 13294) = (omega (arith, c.file_length-day.ensures, c.mark_count.ensures, length_second_form c.args.w.now), second_form_most c.args.w.now c.requires) in
    let room : length (file_of Second c.args.w.now) ≤ length c.args.out.now = omega (arith, whole, c.if-out-length.false) in
    let value : to_z w64 (c.file_length-day.result + (2 + 2 * c.mark_count.result)) ≡ pos (length (file_of Second c.args.w.now)) =
    to_z_pos w64 _ (omega (arith, whole)) ∙ ap pos whole.0 in
    ap₂ (λ v l. handover (Ok v) c.args.w.now l) value
    (second_laid c.args.w.now c.args.out.now room c.put_day.ensures c.file_length-day.ensures c.put_marks.ensures)
    ∙ taken c.args.w.now Second c.args.out.now c.requires room
