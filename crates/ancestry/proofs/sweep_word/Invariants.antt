use Prim.Native.Nat.{◌≤◌, ◌*◌}
use mathlib.Core.Path.{◌≡◌}
use lib.ListN.{length}
use Rattle.rules.specs.Ancestry.{sweep}
use Rattle.bits.specs.Members.{bit_words, members_in, members_with}
use Rattle.ancestry.proofs.sweep_word.Given as goal

abbrev pub invariant-loop-j : goal.invariant-loop-j
invariant-loop-j l = (64 * l.q ≤ l.j) × (length l.m ≡ bit_words) × (sweep l.w l.n (members_in l.initial.m) ≡ sweep l.w l.j (members_with l.m l.q l.own))
