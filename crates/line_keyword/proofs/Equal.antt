-- The test for the same bytes says what it should: it passes exactly on equal lists.
use mathlib.Core.Path.{◌≡◌, refl}
use mathlib.Core.Bool.{Bool, true}
use mathlib.Core.List.{List}
use Prim.Native.Nat.{ℕ}
use lib.ListN.{length, get_or}
use lib.Seq.{ext_get_or}
use lib.Dec.{eqb}
use borrow.Author.Tests.{eqb-true, eq-eqb}
use Rattle.std.specs.Cmp.Lexicographic.{pointwise}
use Rattle.std.proofs.lemmas.Bool.Decides.{same_from_decides, Decides-eqb}
use Rattle.std.proofs.lemmas.Slice.Eq.{slice_eq-Decides}
use Rattle.loops.specs.Search.{all}
use Rattle.loops.proofs.Bools.{and_left, and_right}
use Rattle.loops.proofs.Search.{all→, →all}
use Rattle.line_keyword.specs.Keywords.{is_same}

pub is_same→≡ : (a b : List ℕ) → is_same a b ≡ true → a ≡ b
unfolding is_same
is_same→≡ a b e =
    let alike = and_right (eqb (length a) (length b)) (all (λ i. eqb (get_or a i 0) (get_or b i 0)) (length a)) e in
    ext_get_or 0 a b (eqb-true _ _ (and_left _ _ e)) (λ i l. eqb-true (get_or a i 0) (get_or b i 0) (all→ (λ j. eqb (get_or a j 0) (get_or b j 0)) (length a) alike i l))

pub is_same_refl : (a : List ℕ) → is_same a a ≡ true
unfolding is_same
is_same_refl a = simp (eq-eqb (length a) (length a) refl, →all (λ i. eqb (get_or a i 0) (get_or a i 0)) (length a) (λ i l. eq-eqb (get_or a i 0) (get_or a i 0) refl))

-- what `==` of two slices tells
pub eq_is_same : (a b : List ℕ) (r : Bool) → r ≡ pointwise eqb a b → r ≡ is_same a b
eq_is_same a b r e = same_from_decides r (is_same a b) (slice_eq-Decides Decides-eqb a b r e) (is_same→≡ a b, λ q. rw (← q) (is_same_refl a))
