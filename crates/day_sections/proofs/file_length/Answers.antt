-- Two bytes for each number of the setting are eight and the edition's.
use native.Mathlib.Omega.{arith}
use Rattle.rules.specs.Layout.{setting_in}
use Rattle.day_file.proofs.Lengths.{length_setting_numbers, length_day_file}
use Rattle.day_sections.proofs.file_length.Goals as goal

pub returns : goal.returns
returns c =
    let w = c.args.w.now in
    omega (arith, length_day_file w, length_setting_numbers (setting_in w))
