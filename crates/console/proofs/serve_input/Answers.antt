use Rattle.std.proofs.Common.{◌≡◌, ◌<◌, ◌≤◌, sym, ◌∙◌, arith, length, take}
use borrow.Author.Tests.{ltb-true, ltb-false}
use Rattle.text_print.specs.Print.{too_long}
use Rattle.text_program.specs.Program.{input_most}
use Rattle.text_program.proofs.Pieces.{put_front}
use Rattle.text_program.proofs.Program.{program_long, program_short}
use Rattle.console.proofs.serve_input.Goals as goal

pub returns-then-is_too_long-clause-written : goal.returns-then-is_too_long-clause-written
returns-then-is_too_long-clause-written g c =
    let put = c.put_too_long-count.ensures in
    let long : input_most < length c.args.input.now = ltb-true _ _ (sym c.is_too_long.ensures ∙ c.if-is_too_long.true) in
    let told : take c.put_too_long-count.result c.put_too_long-count.new.out ≡ too_long = put_front put (omega (arith, c.requires.room)) in
    rw (program_long c.args.input.now long, ← told) c.write_out.ensures

pub returns-clause-written : goal.returns-clause-written
returns-clause-written g c =
    let short : length c.args.input.now ≤ input_most = ltb-false _ _ (sym c.is_too_long.ensures ∙ c.if-is_too_long.false) in
    rw (program_short c.args.input.now short) c.serve_lines.ensures.written
