-- Bytes read one after the other, where a reader leaves what stands behind the bytes of what it read: so many hold their bytes exactly if each does.
-- Rests on specs/Parts.antt. Assumes nothing.
use mathlib.Core.Path.{◌≡◌, refl, sym, ap, subst, ◌∙◌}
use mathlib.Core.List.{List, [], ◌∷◌, ◌++◌, append_assoc, append-nil}
use mathlib.Core.Logic.{⊎_elim}
use Prim.Native.Nat.{ℕ, zero, suc, ◌+◌, ◌<◌}
use native.Mathlib.Nat.{eq-or-lt_of_le, le_of_suc-le-suc}
use native.Mathlib.Numerals.{add-one}
use native.Mathlib.Omega.{arith}
use lib.ListN.{length, drop, length-append}
use lib.Seq.{drop-drop, drop-append_seam}
use Rattle.day_file.specs.Bytes.{joined}
use Rattle.day_file.specs.Decode.{Read, read_many}
use Rattle.day_file.proofs.Joined.{joined_append}
use Rattle.day_file.proofs.ReadMany.{read_many_more}
use Rattle.day_judge.specs.Parts.{Holds, HoldsMany}

-- what is left are the bytes behind those of what was read
abbrev pub Leaves : {A : Type 0} → (A → List ℕ) → (List ℕ → Read A) → Type 0
Leaves bytes read = (l : List ℕ) → (read l).rest ≡ drop (length (bytes (read l).value)) l

-- so what stands behind them is what is left
pub left_is : {A : Type 0} (bytes : A → List ℕ) (read : List ℕ → Read A) → Leaves bytes read → (l t : List ℕ) → l ≡ bytes (read l).value ++ t → (read l).rest ≡ t
left_is bytes read leaves l t e =
    leaves l ∙ ap (drop (length (bytes (read l).value))) e ∙ drop-append_seam (bytes (read l).value) t

module _ {A : Type 0} (bytes : A → List ℕ) (read : List ℕ → Read A) (leaves : Leaves bytes read) where
  -- the same of so many
  pub many_leave : (n : ℕ) → Leaves (joined bytes) (read_many read n)
  unfolding read_many joined
  many_leave zero l = refl
  many_leave (suc n) l =
      let front = bytes (read l).value in
      let back = joined bytes (read_many read n (read l).rest).value in
      many_leave n (read l).rest ∙ ap (drop (length back)) (leaves l) ∙ drop-drop (length back) (length front) l
      ∙ ap (λ k. drop k l) (sym (length-append front back))

  joined_one : (xs : List A) (x : A) → joined bytes (xs ++ (x ∷ [])) ≡ joined bytes xs ++ bytes x
  unfolding joined
  joined_one xs x = joined_append bytes xs (x ∷ []) ∙ ap (λ t. joined bytes xs ++ t) (append-nil (bytes x))

  module _ (j : ℕ) (l : List ℕ) where
    abbrev before : List ℕ
    before = joined bytes (read_many read j l).value

    abbrev here : List ℕ
    here = (read_many read j l).rest

    -- the bytes of one more, and what is left behind it
    one_more_lem : joined bytes (read_many read (j + 1) l).value ++ (read_many read (j + 1) l).rest ≡ before ++ (bytes (read here).value ++ (read here).rest)
    one_more_lem =
        ap (λ (m : Read (List A)). joined bytes m.value ++ m.rest) (read_many_more read j l)
        ∙ ap (λ t. t ++ (read here).rest) (joined_one (read_many read j l).value (read here).value)
        ∙ append_assoc before (bytes (read here).value) (read here).rest

    pub holds_more : HoldsMany bytes read j l → Holds bytes read here → HoldsMany bytes read (j + 1) l
    holds_more so row = so ∙ ap (λ t. before ++ t) row ∙ sym one_more_lem

    pub holds_less : HoldsMany bytes read (j + 1) l → HoldsMany bytes read j l × Holds bytes read here
    holds_less so =
        let whole = so ∙ one_more_lem in
        let row = left_is (joined bytes) (read_many read j) (many_leave j) l _ whole in
        (whole ∙ ap (λ t. before ++ t) (sym row), row)

  -- each of so many
  pub holds_row : (n j : ℕ) (l : List ℕ) → j < n → HoldsMany bytes read n l → Holds bytes read (read_many read j l).rest
  holds_row zero j l u so = absurd (omega arith)
  holds_row (suc n) j l u so =
      let less = holds_less n l (subst (λ m. HoldsMany bytes read m l) (sym (add-one n)) so) in
      ⊎_elim
      (λ (q : j ≡ n). subst (λ m. Holds bytes read (read_many read m l).rest) (sym q) less.1)
      (λ (q : j < n). holds_row n j l q less.0)
      (eq-or-lt_of_le (le_of_suc-le-suc u))

  pub holds_none : (l : List ℕ) → HoldsMany bytes read 0 l
  unfolding read_many joined
  holds_none l = refl
