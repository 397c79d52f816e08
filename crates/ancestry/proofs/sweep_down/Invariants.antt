use Prim.Native.Nat.{◌*◌, min}
use mathlib.Core.Path.{◌≡◌}
use lib.ListN.{length}
use Rattle.rules.specs.Ancestry.{sweep}
use Rattle.bits.specs.Members.{bit_words, members_in}
use Rattle.ancestry.proofs.sweep_down.Given as goal

abbrev pub invariant-loop-q : goal.invariant-loop-q
invariant-loop-q l = (length l.m ≡ bit_words) × (sweep l.w l.n (members_in l.initial.m) ≡ sweep l.w (min l.n (64 * l.q)) (members_in l.m))
