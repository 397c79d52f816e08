-- The numbers below i were entered, in rising order, into the empty index.
use mathlib.Core.Path.{◌≡◌, sym, ap, ◌∙◌}
use native.Mathlib.Omega.{arith}
use borrow.Author.Rules.{rules}
use Rattle.loops.specs.Turns.{up_to}
use Rattle.loops.proofs.Turns.{up_to_zero, up_to_more}
use Rattle.terms.specs.Answers.{handover, done}
use Rattle.rules.specs.Layout.{bookings}
use Rattle.name_index.specs.Index.{with_number, empty_index, built}
use Rattle.name_index.proofs.Tested.{build_known}
use Rattle.known_index.proofs.build.Goals as goal

pub loop-i-init : goal.loop-i-init
loop-i-init c = (search rules, search rules, c.clear.ensures ∙ sym (up_to_zero _ _))

pub loop-i-preserved : goal.loop-i-preserved
loop-i-preserved c =
    let w = c.args.w.now in (
      omega arith,
      omega arith,
      c.put_number.ensures.1 ∙ ap (with_number w c.loop-i.i) c.loop-i.invariant.2 ∙ sym (up_to_more (with_number w) c.loop-i.i empty_index),
    )

pub returns : goal.returns
unfolding built
returns c =
    let w = c.args.w.now in
    let over : c.loop-i.i ≡ bookings w = omega (arith, c.how_many-n.ensures) in
    ap (handover done w) (c.loop-i.invariant.2 ∙ ap (λ n. up_to (with_number w) n empty_index) over)
    ∙ build_known w c.args.index.now c.requires.0 c.requires.1
