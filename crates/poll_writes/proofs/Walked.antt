-- One number more of a walk: at a member it is done, and past any other nothing is.
use mathlib.Core.Path.{◌≡◌}
use mathlib.Core.Bool.{true, false}
use mathlib.Core.List.{List}
use Prim.Native.Nat.{ℕ, ◌+◌}
use Rattle.loops.specs.Turns.{up_to}
use Rattle.loops.proofs.Turns.{up_to_more}
use Rattle.rules.specs.Ancestry.{is_member}
use Rattle.poll_writes.specs.Walk.{at_member}

module _ (done : ℕ → List ℕ → List ℕ) (m : List ℕ) (j : ℕ) (w v : List ℕ) where
  pub walked_member : is_member m j ≡ true → v ≡ up_to (at_member done m) j w → done j v ≡ up_to (at_member done m) (j + 1) w
  walked_member e h = rw (up_to_more (at_member done m) j w, e, ← h)

  pub walked_past : is_member m j ≡ false → v ≡ up_to (at_member done m) j w → v ≡ up_to (at_member done m) (j + 1) w
  walked_past e h = rw (up_to_more (at_member done m) j w, e) h
