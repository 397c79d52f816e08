-- The walk over rows finds what the search by number finds.
use mathlib.Core.Path.{◌≡◌, refl, sym, ap, ◌∙◌}
use mathlib.Core.Bool.{Bool, true, false}
use mathlib.Core.List.{List}
use Prim.Native.Nat.{ℕ, zero, suc, ◌+◌, ◌*◌}
use native.Mathlib.Nat.{mul-suc, add_assoc}
use lib.ListN.{drop}
use lib.Seq.{drop-drop}
use Rattle.loops.specs.Search.{first_from}
use Rattle.loops.specs.Rows.{walk_from}

module _ (b z : ℕ) (p : ℕ → List ℕ → Bool) (w : List ℕ) where
  pub walk_is : (i k : ℕ) → walk_from z p i k (drop (b + z * i) w) ≡ first_from (λ j. p j (drop (b + z * j) w)) i k
  unfolding walk_from first_from
  walk_is i zero = refl
  walk_is i (suc k) = go (p i (drop (b + z * i) w)) (ap (walk_from z p (suc i) k) next ∙ walk_is (suc i) k)
    where
      next : drop z (drop (b + z * i) w) ≡ drop (b + z * suc i) w
      next = drop-drop z (b + z * i) w ∙ ap (λ n. drop n w) (add_assoc b (z * i) z ∙ ap (λ n. b + n) (sym (mul-suc z i)))

      go : (t : Bool) {x y : ℕ} → x ≡ y → ◌≡◌ {A = ℕ} (elim t [ true ↦ i | false ↦ x ]) (elim t [ true ↦ i | false ↦ y ])
      go true e = refl
      go false e = e
