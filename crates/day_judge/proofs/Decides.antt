-- Tests that tell a claim: one that fails, one that passes, and that it is the test that passes exactly if the claim holds. Assumes nothing.
use mathlib.Core.Path.{◌≡◌, refl, sym}
use mathlib.Core.Bool.{Bool, true, false, true≢false}
use Rattle.loops.proofs.Bools.{refuted}
use Rattle.day_judge.specs.Judged.{Decides}

pub denied : {claim : Type 0} → (claim → ⊥) → Decides false claim
denied h = record { yes = λ e. absurd (true≢false (sym e)); no = λ e. h }

pub affirmed : {claim : Type 0} → claim → Decides true claim
affirmed h = record { yes = λ e. h; no = λ e. absurd (true≢false e) }

pub decides_same : {claim : Type 0} (r t : Bool) → Decides r claim → (t ≡ true → claim) → (claim → t ≡ true) → r ≡ t
decides_same true t tells to back = sym (back (tells.yes refl))
decides_same false t tells to back = sym (refuted t (λ e. tells.no refl (to e)))
