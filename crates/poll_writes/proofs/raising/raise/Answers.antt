-- The walk's turns are the definition's. A turn moves its own confidence alone, so that of j can rise still.
use native.Mathlib.Omega.{arith}
use Rattle.rules.specs.Poll.{raise_one}
use Rattle.rule_laws.proofs.Raised.{length_raised, confidence_raised_rest}
use Rattle.bits.specs.Members.{members_in}
use Rattle.poll_writes.proofs.raising.raise.Goals as goal

pub walk-requires-clause-ready : goal.walk-requires-clause-ready
unfolding raise_one
walk-requires-clause-ready c j l =
    let h = c.requires.0 in
    let m = members_in c.args.members.now in
    let w = c.args.w.now in
    (omega (arith, length_raised m j w, h.whole), omega (arith, h.few), rw (confidence_raised_rest m j w j (omega arith)) (h.confidence_fits j l))

pub returns : goal.returns
unfolding raise_one
returns c = c.walk.ensures
