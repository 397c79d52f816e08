use Prim.Native.Nat.{◌/◌}
use mathlib.Core.Path.{◌≡◌}
use lib.ListN.{length}
use Rattle.loops.specs.Turns.{up_to}
use Rattle.rules.specs.Layout.{parent_of}
use Rattle.rules.specs.Ancestry.{with_member}
use Rattle.bits.specs.Members.{bit_words, members_with}
use Rattle.ancestry_parents.proofs.gather_parents.Given as goal

abbrev pub invariant-loop-parent : goal.invariant-loop-parent
invariant-loop-parent l =
    (length l.m ≡ bit_words)
    × (members_with l.m (l.j / 64) l.word ≡ up_to (λ b. with_member (parent_of l.fn.w l.j b)) l.parent-index (members_with l.initial.m (l.j / 64) l.own))
