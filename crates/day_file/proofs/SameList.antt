-- CR 4 and CR 9: the test whether two lists have the same numbers, and that they are the same list. Assumes nothing.
use mathlib.Core.Path.{◌≡◌, refl, ap}
use mathlib.Core.Bool.{Bool, true, false}
use mathlib.Core.List.{List}
use mathlib.Core.Logic.{◌≢◌}
use Prim.Native.Nat.{ℕ}
use lib.ListN.{length, get_or}
use lib.Seq.{ext_get_or}
use lib.Dec.{eqb}
use borrow.Author.Tests.{eqb-true, eq-eqb}
use Rattle.loops.specs.Search.{all}
use Rattle.loops.proofs.Bools.{and_left, and_right, and_both}
use Rattle.loops.proofs.Search.{all→, →all}
use Rattle.day_file.specs.Replay.{same_list}

module _ (a b : List ℕ) where
  abbrev agrees : ℕ → Bool
  agrees j = eqb (get_or a j 0) (get_or b j 0)

  pub same_list_lem : same_list a b ≡ true → a ≡ b
  same_list_lem e =
      ext_get_or 0 a b (eqb-true (length a) (length b) (and_left _ _ e))
      (λ j u. eqb-true (get_or a j 0) (get_or b j 0) (all→ agrees (length a) (and_right (eqb (length a) (length b)) _ e) j u))

  pub list_same : a ≡ b → same_list a b ≡ true
  list_same e =
      and_both _ _ (eq-eqb (length a) (length b) (ap length e))
      (→all agrees (length a) (λ j u. eq-eqb (get_or a j 0) (get_or b j 0) (ap (λ l. get_or l j 0) e)))

  pub list_differs : a ≢ b → same_list a b ≡ false
  list_differs d = go (same_list a b) refl
    where
      go : (t : Bool) → same_list a b ≡ t → t ≡ false
      go true e = absurd (d (same_list_lem e))
      go false e = refl
