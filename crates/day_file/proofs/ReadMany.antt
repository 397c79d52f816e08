-- Laws of things read one after the other: how many there are, which stands where, and one more. Assumes nothing.
use mathlib.Core.Path.{◌≡◌, refl, ap, ◌∙◌}
use mathlib.Core.List.{List, [], ◌∷◌, ◌++◌}
use Prim.Native.Nat.{ℕ, zero, suc, ◌+◌, ◌*◌, ◌<◌}
use native.Mathlib.Numerals.{add-one}
use native.Mathlib.Omega.{arith}
use lib.ListN.{length, get_or, drop}
use lib.Seq.{drop-drop}
use Rattle.day_file.specs.Decode.{Read, read_number, read_many}

module _ {A : Type 0} (read : List ℕ → Read A) where
  -- so many were asked for, so many there are
  pub length_read_many : (n : ℕ) (bytes : List ℕ) → length (read_many read n bytes).value ≡ n
  unfolding read_many
  length_read_many zero bytes = refl
  length_read_many (suc n) bytes = ap suc (length_read_many n (read bytes).rest)

  -- each is read behind those before it
  pub read_many_at : (d : A) (n j : ℕ) (bytes : List ℕ) → j < n → get_or (read_many read n bytes).value j d ≡ (read (read_many read j bytes).rest).value
  unfolding read_many
  read_many_at d zero j bytes u = absurd (omega arith)
  read_many_at d (suc n) zero bytes u = refl
  read_many_at d (suc n) (suc j) bytes u = read_many_at d n j (read bytes).rest (omega arith)

  -- one more, read behind what was read, and what was read before it stays
  abbrev one_more : Read (List A) → Read (List A)
  one_more many = let one = read many.rest in record { value = many.value ++ (one.value ∷ []); rest = one.rest }

  read_many_suc : (j : ℕ) (bytes : List ℕ) → read_many read (suc j) bytes ≡ one_more (read_many read j bytes)
  unfolding read_many
  read_many_suc zero bytes = refl
  read_many_suc (suc j) bytes = ap (λ o. record { value = (read bytes).value ∷ o.value; rest = o.rest }) (read_many_suc j (read bytes).rest)

  -- the same as a loop that counts has it
  pub read_many_more : (j : ℕ) (bytes : List ℕ)
      → read_many read (j + 1) bytes
      ≡ record {
        value = (read_many read j bytes).value ++ ((read (read_many read j bytes).rest).value ∷ []);
        rest = (read (read_many read j bytes).rest).rest;
      }
  read_many_more j bytes = ap (λ m. read_many read m bytes) (add-one j) ∙ read_many_suc j bytes

-- ---- numbers of two bytes

pub numbers_leave : (n : ℕ) (bytes : List ℕ) → (read_many read_number n bytes).rest ≡ drop (2 * n) bytes
unfolding read_many
numbers_leave zero bytes = refl
numbers_leave (suc n) bytes =
    let past : 2 + 2 * n ≡ 2 * suc n = omega arith in
    numbers_leave n (drop 2 bytes) ∙ drop-drop (2 * n) 2 bytes ∙ ap (λ k. drop k bytes) past
