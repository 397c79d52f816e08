-- A size is at most n, so as a signed number it is itself.
use mathlib.Core.Path.{ap, ◌∙◌}
use lib.IntN.{pos}
use mir.Syntax.{w64}
use mir.ValLaws.{to_z_pos}
use native.Mathlib.Omega.{arith}
use Rattle.rule_laws.proofs.Readings.{size_most}
use Rattle.known_read.proofs.size_value.Goals as goal

pub overflow_cast-result : goal.overflow_cast-result
overflow_cast-result c = omega (arith, c.size_of.ensures, size_most c.args.w.now c.requires.0.sound c.args.i, c.requires.0.sound.bookings_most)

pub returns : goal.returns
returns c =
    to_z_pos w64 c.size_of.result (omega (arith, c.size_of.ensures, size_most c.args.w.now c.requires.0.sound c.args.i, c.requires.0.sound.bookings_most))
    ∙ ap pos c.size_of.ensures
