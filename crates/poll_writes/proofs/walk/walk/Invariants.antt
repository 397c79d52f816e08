use Prim.Native.Nat.{◌≤◌, ◌*◌, ◌+◌, min}
use mathlib.Core.Path.{◌≡◌}
use Rattle.loops.specs.Turns.{up_to}
use Rattle.bits.specs.Members.{members_in}
use Rattle.poll_writes.specs.Walk.{at_member}
use Rattle.poll_writes.proofs.walk.walk.Given as goal

abbrev pub invariant-loop-q : goal.invariant-loop-q
invariant-loop-q g l = l.w ≡ up_to (at_member g.T.Task.done (members_in l.members)) (min l.n (64 * l.q)) l.fn.w

abbrev pub invariant-loop-j : goal.invariant-loop-j
invariant-loop-j g l =
    (l.start ≤ l.j) × (l.j ≤ min l.n (l.start + 64)) × (l.w ≡ up_to (at_member g.T.Task.done (members_in l.members)) l.j l.fn.w)
