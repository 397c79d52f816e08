-- A rule that is applied to 0, 1, 2, .. in rising number.
use Rattle.std.specs.Prelude.{ℕ, zero, suc}

-- step 0, then step 1, .., then step (n - 1)
unfoldable pub up_to {ℓ} : {A : Type ℓ} → (ℕ → A → A) → ℕ → A → A
up_to step zero a = a
up_to step (suc j) a = step j (up_to step j a)
