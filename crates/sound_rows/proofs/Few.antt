-- A search over one, two or three numbers, written out.
use mathlib.Core.Path.{◌≡◌, refl}
use mathlib.Core.Bool.{Bool, true, false, ◌||◌}
use Prim.Native.Nat.{ℕ}
use lib.Dec.{ltb}
use Rattle.loops.specs.Search.{first_from, any}

module _ (p : ℕ → Bool) where
  pub any_one : any p 1 ≡ p 0
  unfolding first_from
  any_one = go (p 0)
    where
      go : (a : Bool) → ltb (elim a [ true ↦ 0 | false ↦ 1 ]) 1 ≡ a
      go true = refl
      go false = refl

  pub any_two : any p 2 ≡ p 0 || p 1
  unfolding first_from
  any_two = go (p 0) (p 1)
    where
      go : (a b : Bool) → ltb (elim a [ true ↦ 0 | false ↦ elim b [ true ↦ 1 | false ↦ 2 ] ]) 2 ≡ a || b
      go true b = refl
      go false true = refl
      go false false = refl

  pub any_three : any p 3 ≡ p 0 || p 1 || p 2
  unfolding first_from
  any_three = go (p 0) (p 1) (p 2)
    where
      go : (a b c : Bool)
          → ltb (elim a [ true ↦ 0 | false ↦ elim b [ true ↦ 1 | false ↦ elim c [ true ↦ 2 | false ↦ 3 ] ] ]) 3 ≡ a || b || c
      go true b c = refl
      go false true c = refl
      go false false true = refl
      go false false false = refl
