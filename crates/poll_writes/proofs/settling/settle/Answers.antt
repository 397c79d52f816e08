-- The walk's turns are the definition's. They leave the slot of j fit for its turn.
use native.Mathlib.Omega.{arith}
use Rattle.rules.specs.Poll.{settle_one}
use Rattle.bits.specs.Members.{members_in}
use Rattle.poll_writes.proofs.Settles.{settled_settleable}
use Rattle.poll_writes.proofs.settling.settle.Goals as goal

pub walk-requires-clause-ready : goal.walk-requires-clause-ready
unfolding settle_one
walk-requires-clause-ready c j l =
    let h = c.requires.0 in
    (settled_settleable (members_in c.args.members.now) c.args.w.now c.args.n h j l, omega (arith, h.few))

pub returns : goal.returns
unfolding settle_one
returns c = c.walk.ensures
