-- The cell that was found is the law's. Where none is empty the law writes past the index, and that changes nothing.
use mathlib.Core.Path.{refl, sym, ap, ◌∙◌}
use mathlib.Core.Bool.{not}
use native.Mathlib.Omega.{arith}
use Rattle.name_index.specs.Index.{home}
use Rattle.known_index.proofs.Entered.{room_found, no_room_found, found_within, number_written, nothing_written}
use Rattle.known_index.proofs.put_number.Goals as goal

pub returns-in_default : goal.returns-in_default
returns-in_default c =
    let none = sym c.in_default.is ∙ c.free_cell.ensures in (
      ap not (sym (no_room_found c.args.w.now c.args.index.now c.args.i (c.home-h.ensures.0 ∙ ap home c.name.ensures) none)),
      nothing_written c.args.w.now c.args.index.now c.args.i (c.home-h.ensures.0 ∙ ap home c.name.ensures) none c.requires.1,
    )

pub offset_bounds-index-c : goal.offset_bounds-index-c
offset_bounds-index-c c =
    omega (arith, found_within c.args.w.now c.args.index.now c.args.i (c.home-h.ensures.0 ∙ ap home c.name.ensures) (sym c.in-Some.is ∙ c.free_cell.ensures))

pub bounds-index-c : goal.bounds-index-c
bounds-index-c c =
    omega (arith, found_within c.args.w.now c.args.index.now c.args.i (c.home-h.ensures.0 ∙ ap home c.name.ensures) (sym c.in-Some.is ∙ c.free_cell.ensures))

pub returns : goal.returns
returns c =
    let found = sym c.in-Some.is ∙ c.free_cell.ensures in (
      ap not (sym (room_found c.args.w.now c.args.index.now c.args.i (c.home-h.ensures.0 ∙ ap home c.name.ensures) found)),
      number_written c.args.w.now c.args.index.now c.args.i (c.home-h.ensures.0 ∙ ap home c.name.ensures) found refl,
    )
