-- The count, and then what the records so far have written.
use mathlib.Core.Path.{◌≡◌, refl, sym, ap, ◌∙◌}
use native.Mathlib.Omega.{arith}
use lib.ListN.{length}
use Rattle.loops.proofs.Turns.{up_to_zero, up_to_more}
use Rattle.rules.specs.Layout.{bookings}
use Rattle.day_file.specs.InTurn.{pair_at}
use Rattle.day_file.proofs.Polls.{length_pair_at}
use Rattle.day_sections.proofs.Sections.{polls_all}
use Rattle.day_sections.proofs.put_polls.Goals as goal

pub loop-i-init : goal.loop-i-init
loop-i-init c =
    (c.wide-n.ensures.0 ∙ c.header.ensures, omega arith, refl, sym (up_to_zero (pair_at c.args.w.now) _))

pub loop-i-preserved : goal.loop-i-preserved
loop-i-preserved c =
    let w = c.args.w.now in (
      c.loop-i.invariant.0,
      omega arith,
      ap length c.put_poll.ensures ∙ length_pair_at w c.loop-i.i c.loop-i.out ∙ c.loop-i.invariant.2,
      c.put_poll.ensures ∙ ap (pair_at w c.loop-i.i) c.loop-i.invariant.3 ∙ sym (up_to_more (pair_at w) c.loop-i.i _),
    )

pub returns : goal.returns
returns c =
    let e : c.loop-i.i ≡ bookings c.args.w.now = omega arith in
    rw e at c.loop-i.invariant.3 ∙ polls_all c.args.w.now c.requires.0 c.args.out.now c.requires.1 c.header-2.ensures c.put_number.ensures
