-- What probing finds is below n, so as a signed number it is itself.
use Rattle.std.specs.Prelude.{Ok}
use Prim.Native.Nat.{◌<◌}
use mathlib.Core.Path.{sym, ap, ◌∙◌}
use native.Mathlib.Omega.{arith}
use mir.Syntax.{w64}
use mir.ValLaws.{to_z_pos}
use Rattle.rules.specs.Layout.{most_bookings}
use Rattle.name_index.proofs.Probing.{found_of}
use Rattle.name_index.proofs.Tested.{find_known, find_absent}
use Rattle.known_index.proofs.find.Goals as goal

pub returns-in_default : goal.returns-in_default
returns-in_default c =
    find_absent c.args.w.now c.args.index.now c.requires.0 c.requires.1 c.args.name (sym c.find.ensures ∙ c.in_default.is)

pub overflow_cast-result : goal.overflow_cast-result
overflow_cast-result c =
    let at = sym c.find.ensures ∙ c.in-Some.is in
    omega (arith, found_of c.args.w.now c.args.index.now c.args.name _ c.requires.1 at, c.requires.0.sound.bookings_most)

pub returns : goal.returns
returns c =
    let at = sym c.find.ensures ∙ c.in-Some.is in
    let below : c.in-Some.i < most_bookings =
    omega (arith, found_of c.args.w.now c.args.index.now c.args.name _ c.requires.1 at, c.requires.0.sound.bookings_most) in
    ap Ok (to_z_pos w64 _ (omega (arith, below))) ∙ find_known c.args.w.now c.args.index.now c.requires.0 c.requires.1 c.args.name at
