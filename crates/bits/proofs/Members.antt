-- Members as bits: asking, setting one more, none; and a word of the row that stands apart while it is worked on.
use mathlib.Core.Path.{◌≡◌, refl, sym, ap, ◌∙◌}
use mathlib.Core.Bool.{Bool, true, false}
use mathlib.Core.List.{List}
use mathlib.Core.Logic.{◌≢◌}
use Prim.Native.Nat.{ℕ, ◌*◌, ◌%◌, ◌/◌, ◌^◌, ◌<◌}
use native.Mathlib.Decide.{ℕ_discrete, dec_lt}
use native.Mathlib.Omega.{arith}
use lib.Bits.{bit_or}
use lib.Dec.{eqb}
use lib.ListN.{length, get_or, set, replicate, length-set, length-replicate, get_or-replicate, get_or-eq_default}
use lib.Seq.{get_or-set_same, get_or-set_other, set-set, set_comm, ext_get_or}
use Rattle.loops.specs.Total.{bit, count}
use Rattle.loops.proofs.Fill.{length_from, get_d_from}
use Rattle.loops.proofs.Total.{total_same}
use Rattle.rules.specs.Ancestry.{is_member, with_member, no_members}
use Rattle.bits.specs.Bits.{bit_at, with_bit}
use Rattle.bits.specs.Members.{bit_words, members_in, members_with, MemberIn, no_bits}
use Rattle.bits.proofs.Bits.{with_bit_length, bit_at_with_bit_same, bit_at_with_bit_other, bit_at_zeros, bit_at_past}

pub length_members_in : (m : List ℕ) → length (members_in m) ≡ 64 * length m
unfolding members_in
length_members_in m = length_from _ _ (64 * length m)

get_d_members_in : (m : List ℕ) (j : ℕ) → j < 64 * length m → get_or (members_in m) j 0 ≡ bit (bit_at m j)
unfolding members_in
get_d_members_in m j h = get_d_from (λ i. bit (bit_at m i)) _ (64 * length m) j h ∙ ap (λ i. bit (bit_at m i)) (omega arith)

bit_is : (b : Bool) → eqb (bit b) 1 ≡ b
bit_is true = refl
bit_is false = refl

-- j is a member exactly if its bit is set
pub member_bit : (m : List ℕ) (j : ℕ) → is_member (members_in m) j ≡ bit_at m j
member_bit m j = go (dec_lt j (64 * length m))
  where
    go : Dec (j < 64 * length m) → is_member (members_in m) j ≡ bit_at m j
    go (yes h) = ap (λ (x : ℕ). eqb x 1) (get_d_members_in m j h) ∙ bit_is (bit_at m j)
    go (no h) =
        ap (λ (x : ℕ). eqb x 1) (get_or-eq_default (members_in m) 0 {n = j} (omega (arith, length_members_in m)))
        ∙ sym (bit_at_past m j (omega arith))

-- and word q of the row has its bit, if it is j's
pub member_word : (m : List ℕ) (q j : ℕ) → j / 64 ≡ q → MemberIn (get_or m q 0) (members_in m) j
unfolding bit_at
member_word m q j e = rw (← e) (member_bit m j)

-- as many are members as bits are set
pub count_members : (m : List ℕ) (n : ℕ) → count (bit_at m) n ≡ count (is_member (members_in m)) n
count_members m n = total_same (λ j. bit (bit_at m j)) (λ j. bit (is_member (members_in m) j)) n (λ j l. ap bit (sym (member_bit m j)))

-- one bit more is one member more
pub with_member_bit : (m : List ℕ) (p : ℕ) → members_in (with_bit p m) ≡ with_member p (members_in m)
with_member_bit m p =
    ext_get_or 0 (members_in (with_bit p m)) (with_member p (members_in m))
    (length_members_in (with_bit p m) ∙ ap (λ (n : ℕ). 64 * n) (with_bit_length p m) ∙ sym (length_members_in m) ∙ sym (length-set (members_in m) p 1))
    (λ j l. each j (omega (arith, length_members_in (with_bit p m), with_bit_length p m)) (ℕ_discrete j p))
  where
    each : (j : ℕ) → j < 64 * length m → Dec (j ≡ p) → get_or (members_in (with_bit p m)) j 0 ≡ get_or (with_member p (members_in m)) j 0
    each j h (yes e) =
        get_d_members_in (with_bit p m) j (omega (arith, with_bit_length p m))
        ∙ rw (← e, bit_at_with_bit_same m j h, get_or-set_same (members_in m) j 1 0 (omega (arith, length_members_in m)))
    each j h (no d) =
        get_d_members_in (with_bit p m) j (omega (arith, with_bit_length p m))
        ∙ ap bit (bit_at_with_bit_other m p j h d) ∙ sym (get_d_members_in m j h) ∙ sym (get_or-set_other (members_in m) p j 1 0 d)

-- no bits are no members
zeros_members : (k : ℕ) → members_in (replicate k 0) ≡ replicate (64 * k) 0
zeros_members k =
    ext_get_or 0 (members_in (replicate k 0)) (replicate (64 * k) 0)
    (length_members_in (replicate k 0) ∙ ap (λ (n : ℕ). 64 * n) (length-replicate {A = ℕ} k 0) ∙ sym (length-replicate {A = ℕ} (64 * k) 0))
    (λ j l. each j (omega (arith, length_members_in (replicate k 0), length-replicate {A = ℕ} k 0)))
  where
    each : (j : ℕ) → j < 64 * k → get_or (members_in (replicate k 0)) j 0 ≡ get_or {A = ℕ} (replicate (64 * k) 0) j 0
    each j h =
        get_d_members_in (replicate k 0) j (omega (arith, length-replicate {A = ℕ} k 0)) ∙ ap bit (bit_at_zeros k j h)
        ∙ sym (get_or-replicate {A = ℕ} (64 * k) j 0 0 h)

pub no_bits_are : members_in no_bits ≡ no_members
no_bits_are = zeros_members bit_words

-- ---- where x stands for word q

module _ (m : List ℕ) (q x : ℕ) where
  pub length_members_with : length (members_with m q x) ≡ 64 * length m
  length_members_with = length_members_in (set m q x) ∙ ap (λ (n : ℕ). 64 * n) (length-set m q x)

  -- a member of that word is a bit of x
  pub member_own : (j : ℕ) → q < length m → j / 64 ≡ q → MemberIn x (members_with m q x) j
  unfolding bit_at
  member_own j h e = member_bit (set m q x) j ∙ rw (e, get_or-set_same m q x 0 h)

  -- and is set there
  pub with_member_own : (p : ℕ) → q < length m → p / 64 ≡ q → members_with m q (bit_or x (2 ^ (p % 64))) ≡ with_member p (members_with m q x)
  unfolding with_bit
  with_member_own p h e =
      let here : with_bit p (set m q x) ≡ set m q (bit_or x (2 ^ (p % 64))) = rw (e, get_or-set_same m q x 0 h) (set-set m q x (bit_or x (2 ^ (p % 64)))) in
      ap members_in (sym here) ∙ with_member_bit (set m q x) p

  -- any other where it stands
  pub with_member_other : (p : ℕ) → p / 64 ≢ q → members_with (with_bit p m) q x ≡ with_member p (members_with m q x)
  unfolding with_bit
  with_member_other p d =
      ap members_in (rw (get_or-set_other m q (p / 64) x 0 d) (set_comm m (p / 64) q (bit_or (get_or m (p / 64) 0) (2 ^ (p % 64))) x d)) ∙ with_member_bit (set m q x) p
