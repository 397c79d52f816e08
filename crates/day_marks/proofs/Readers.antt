-- How many bytes each reader passes, whatever bytes there are: a reader is total, and where the bytes end nothing is left behind it. Assumes nothing.
use mathlib.Core.Path.{◌≡◌, refl, sym, ap, ◌∙◌}
use mathlib.Core.List.{List, []}
use Prim.Native.Nat.{ℕ, zero, suc, ◌+◌, ◌*◌}
use native.Mathlib.Nat.{add-zero}
use native.Mathlib.Omega.{arith}
use lib.ListN.{get_or, drop, drop_of_length-le}
use lib.Seq.{get_or-drop, drop-drop}
use Rattle.day_file.specs.Decode.{Read, value_of, read_number, read_many, read_counted, read_setting, read_booking, read_poll, behind_day}
use Rattle.day_file.proofs.ReadMany.{numbers_leave}

-- ---- one number

pub number_is : (l : List ℕ) (at : ℕ) → (read_number (drop at l)).value ≡ get_or l at 0 * 256 + get_or l (at + 1) 0
unfolding value_of
number_is l at =
    omega (arith, get_or-drop at l 0 0, ap (λ k. get_or l k 0) (add-zero at), ap (λ t. get_or t 0 0) (drop-drop 1 at l), get_or-drop (at + 1) l 0 0, ap (λ k. get_or l k 0) (add-zero (at + 1)))

-- ---- so many

module _ {A : Type 0} (read : List ℕ → Read A) where
  pub many_none : (l : List ℕ) → (read_many read 0 l).rest ≡ l
  unfolding read_many
  many_none l = refl

  -- some, and then others
  pub many_and : (j k : ℕ) (l : List ℕ) → (read_many read (j + k) l).rest ≡ (read_many read k (read_many read j l).rest).rest
  unfolding read_many
  many_and zero k l =
      let none : zero + k ≡ k = omega arith in
      ap (λ n. (read_many read n l).rest) none
  many_and (suc j) k l =
      let more : suc j + k ≡ suc (j + k) = omega arith in
      ap (λ n. (read_many read n l).rest) more ∙ many_and j k (read l).rest

  -- as a loop counts
  pub many_more : (j : ℕ) (l : List ℕ) → (read_many read (j + 1) l).rest ≡ (read (read_many read j l).rest).rest
  unfolding read_many
  many_more j l = many_and j 1 l

  -- each of as many bytes
  module _ (z : ℕ) (leaves : (l : List ℕ) → (read l).rest ≡ drop z l) where
    pub many_even : (n : ℕ) (l : List ℕ) → (read_many read n l).rest ≡ drop (z * n) l
    unfolding read_many
    many_even zero l =
        let none : z * zero ≡ 0 = omega arith in
        ap (λ k. drop k l) (sym none)
    many_even (suc n) l =
        let more : z + z * n ≡ z * suc n = omega arith in
        many_even n (read l).rest ∙ ap (drop (z * n)) (leaves l) ∙ drop-drop (z * n) z l ∙ ap (λ k. drop k l) more

  -- off nothing
  module _ (nothing : (read []).rest ≡ []) where
    pub many_nothing : (n : ℕ) → (read_many read n []).rest ≡ []
    unfolding read_many
    many_nothing zero = refl
    many_nothing (suc n) = ap (λ l. (read_many read n l).rest) nothing ∙ many_nothing n

many_polls : (n : ℕ) (l : List ℕ) → (read_many read_poll n l).rest ≡ drop (4 * n) l
many_polls = many_even read_poll 4 (drop-drop 2 2)

-- ---- the parts of a file

pub setting_rest : (l : List ℕ) → (read_setting l).rest ≡ drop (2 + 2 * (read_number l).value) l
setting_rest l = numbers_leave (value_of 2 l) (drop 2 l) ∙ drop-drop (2 * value_of 2 l) 2 l

pub booking_rest : (l : List ℕ) → (read_booking l).rest ≡ drop (12 + 2 * (read_number (drop 10 l)).value) l
booking_rest l =
    let c = value_of 2 (drop 2 (drop 8 l)) in
    numbers_leave c (drop 2 (drop 2 (drop 8 l)))
    ∙ ap (drop (2 * c)) (ap (drop 2) (drop-drop 2 8 l) ∙ drop-drop 2 10 l) ∙ drop-drop (2 * c) 12 l
    ∙ ap (λ t. drop (12 + 2 * value_of 2 t) l) (drop-drop 2 8 l)

polls_rest : (l : List ℕ) → (read_counted read_poll l).rest ≡ drop (2 + 4 * (read_number l).value) l
polls_rest l = many_polls (value_of 2 l) (drop 2 l) ∙ drop-drop (4 * value_of 2 l) 2 l

-- behind the bookings, the polls
pub day_rest : (file : List ℕ) → let l = (read_counted read_booking (read_setting file).rest).rest in behind_day file ≡ drop (2 + 4 * (read_number l).value) l
unfolding behind_day
day_rest file = polls_rest (read_counted read_booking (read_setting file).rest).rest

-- no bookings are read off nothing
pub bookings_nothing : (n : ℕ) → (read_many read_booking n []).rest ≡ []
bookings_nothing = many_nothing read_booking (booking_rest [] ∙ drop_of_length-le [] {i = 12 + 2 * (read_number (drop 10 [])).value} (omega arith))
