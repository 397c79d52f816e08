-- Laws of a rule that is applied in rising number: its turns, and what every turn keeps.
use mathlib.Core.Path.{◌≡◌, refl, sym, ap, subst, ◌∙◌}
use mathlib.Core.Logic.{⊎_elim}
use Prim.Native.Nat.{ℕ, zero, suc, ◌+◌, ◌<◌, ◌≤◌}
use native.Mathlib.Numerals.{add-one}
use native.Mathlib.Nat.{eq-or-lt_of_le, le_of_suc-le-suc}
use native.Mathlib.Omega.{arith}
use Rattle.loops.specs.Turns.{up_to}

module _ {ℓ} {A : Type ℓ} (step : ℕ → A → A) where
  pub up_to_zero : (a : A) → up_to step 0 a ≡ a
  unfolding up_to
  up_to_zero a = refl

  -- one turn more, as a loop that counts has it
  pub up_to_more : (j : ℕ) (a : A) → up_to step (j + 1) a ≡ step j (up_to step j a)
  unfolding up_to
  up_to_more j a = rw add-one

  -- what every turn below n keeps holds at the end
  pub up_to_kept {κ} : (P : A → Type κ) (n : ℕ) → ((j : ℕ) → j < n → (a : A) → P a → P (step j a)) → (a : A) → P a → P (up_to step n a)
  unfolding up_to
  up_to_kept P zero turn a h = h
  up_to_kept P (suc j) turn a h = turn j (omega arith) (up_to step j a) (up_to_kept P j (λ i l. turn i (omega arith)) a h)

  -- what each turn carries from its number to the next holds at the end: an invariant that names the turn
  pub up_to_carried {κ} : (P : ℕ → A → Type κ) (n : ℕ) → ((j : ℕ) → j < n → (a : A) → P j a → P (suc j) (step j a)) → (a : A) → P 0 a → P n (up_to step n a)
  unfolding up_to
  up_to_carried P zero turn a h = h
  up_to_carried P (suc j) turn a h = turn j (omega arith) (up_to step j a) (up_to_carried P j (λ i l. turn i (omega arith)) a h)

  -- what turn k makes and every later turn keeps holds at the end
  pub up_to_since {κ} : (P : A → Type κ) (n k : ℕ) → k < n → (a : A) → P (step k (up_to step k a)) → ((j : ℕ) → k < j → j < n → (b : A) → P b → P (step j b)) → P (up_to step n a)
  unfolding up_to
  up_to_since P zero k l a made keep = absurd (omega arith)
  up_to_since P (suc n) k l a made keep =
      ⊎_elim
      (λ (q : k ≡ n). subst (λ x. P (step x (up_to step x a))) q made)
      (λ (q : k < n). keep n q (omega arith) (up_to step n a) (up_to_since P n k q a made (λ j u v. keep j u (omega arith))))
      (eq-or-lt_of_le (le_of_suc-le-suc l))

  -- turns from k on that change nothing
  pub up_to_idle : (n k : ℕ) → k ≤ n → (a : A) → ((j : ℕ) → k ≤ j → j < n → step j (up_to step k a) ≡ up_to step k a) → up_to step n a ≡ up_to step k a
  unfolding up_to
  up_to_idle zero k l a idle = let e : k ≡ 0 = omega arith in rw e
  up_to_idle (suc n) k l a idle =
      ⊎_elim
      (λ (q : k ≡ suc n). ap (λ x. up_to step x a) (sym q))
      (λ (q : k < suc n). ap (step n) (up_to_idle n k (omega arith) a (λ j u v. idle j u (omega arith))) ∙ idle n (omega arith) (omega arith))
      (eq-or-lt_of_le l)

  -- rules that agree at every turn below n end alike
  pub up_to_same : (other : ℕ → A → A) (n : ℕ) → ((j : ℕ) → j < n → (a : A) → step j a ≡ other j a) → (a : A) → up_to step n a ≡ up_to other n a
  unfolding up_to
  up_to_same other zero h a = refl
  up_to_same other (suc n) h a = h n (omega arith) (up_to step n a) ∙ ap (other n) (up_to_same other n (λ j l. h j (omega arith)) a)
