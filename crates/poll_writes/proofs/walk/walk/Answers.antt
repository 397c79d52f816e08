-- The words are those after the turns below j. The word loaded is that of every number up to its end, and its bit says whether one is a member.
use Prim.Native.Nat.{min}
use mathlib.Core.Path.{◌≡◌, sym, ap, ◌∙◌}
use native.Mathlib.Omega.{arith}
use Rattle.loops.specs.Turns.{up_to}
use Rattle.loops.proofs.Turns.{up_to_zero}
use Rattle.bits.specs.Members.{members_in}
use Rattle.bits.proofs.Members.{member_word}
use Rattle.poll_writes.specs.Walk.{at_member}
use Rattle.poll_writes.proofs.Walked.{walked_member, walked_past}
use Rattle.poll_writes.proofs.walk.walk.Goals as goal
use Rattle.poll_writes.proofs.walk.walk.Goals.{then-has_bit, else-has_bit}

pub loop-q-init : goal.loop-q-init
loop-q-init g c =
    let none : min c.args.n 0 ≡ 0 = omega arith in
    sym (ap (λ k. up_to (at_member g.T.Task.done (members_in c.args.members.now)) k c.args.w.now) none ∙ up_to_zero _ _)

pub loop-j-preserved : goal.loop-j-preserved
loop-j-preserved g c =
    let turn = c.loop-j in
    let members = members_in c.args.members.now in
    let own = member_word c.args.members.now c.loop-q.q turn.j (omega arith) in (
      omega arith,
      omega (arith, c.word_end-j-end.ensures),
      elim c.if-has_bit.branch [
        | then-has_bit w ↦ w.w-is ∙ w.act.ensures ∙ walked_member g.T.Task.done members turn.j c.args.w.now turn.w (own ∙ sym c.has_bit.ensures ∙ w.if-has_bit.true) turn.invariant.2
        | else-has_bit w ↦ w.w-is ∙ walked_past g.T.Task.done members turn.j c.args.w.now turn.w (own ∙ sym c.has_bit.ensures ∙ w.if-has_bit.false) turn.invariant.2
      ],
    )
