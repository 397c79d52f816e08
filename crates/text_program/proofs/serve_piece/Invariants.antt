use mathlib.Core.Path.{◌≡◌}
use Prim.Native.Nat.{◌+◌, ◌-◌}
use lib.ListN.{length}
use Rattle.text_listing.specs.Listed.{line_most}
use Rattle.text_program.proofs.Pieces.{Gathering}
use Rattle.text_program.proofs.serve_piece.Given as goal

abbrev pub invariant-loop-next : goal.invariant-loop-next
invariant-loop-next l =
    Gathering l.initial.w l.input l.start l.initial.out l.w l.out l.known l.count l.next × (l.most + line_most ≡ length l.initial.out)

abbrev pub decreases-loop-next : goal.decreases-loop-next
decreases-loop-next l = length l.input - l.next
