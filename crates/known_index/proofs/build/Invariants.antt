use Prim.Native.Nat.{◌≤◌}
use mathlib.Core.Path.{◌≡◌}
use lib.ListN.{length}
use Rattle.loops.specs.Turns.{up_to}
use Rattle.name_index.specs.Index.{cells, with_number, empty_index}
use Rattle.known_index.proofs.build.Given as goal

abbrev pub invariant-loop-i : goal.invariant-loop-i
invariant-loop-i l = (l.i ≤ l.n) × (length l.index ≡ cells) × (l.index ≡ up_to (with_number l.w) l.i empty_index)
