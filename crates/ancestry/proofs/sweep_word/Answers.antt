-- What is left to sweep from j down gives what the whole sweep gives, with the word apart in its place.
use Prim.Native.Nat.{◌-◌, ◌/◌}
use mathlib.Core.Path.{◌≡◌, sym, ap, ◌∙◌}
use native.Mathlib.Omega.{arith}
use Rattle.rules.specs.Ancestry.{sweep}
use Rattle.rule_laws.proofs.Ancestry.{sweep_turn}
use Rattle.bits.specs.Members.{members_with}
use Rattle.ancestry.proofs.sweep_word.Goals as goal

pub loop-j-preserved : goal.loop-j-preserved
loop-j-preserved c =
    let step = c.spread_one-own in
    let turn = c.loop-j in
    let w = c.args.w.now in
    let here : (turn.j - 1) / 64 ≡ c.args.q = omega arith in (
      omega arith,
      omega (arith, step.auto.m),
      turn.invariant.2 ∙ sweep_turn w turn.j (members_with turn.m c.args.q turn.own) (omega arith) ∙ ap (sweep w _) (sym (rw (here) at step.ensures)),
    )
