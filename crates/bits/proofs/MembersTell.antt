-- Members tell the words that hold them: two rows of 64-bit words with the same members are the same row.
use mathlib.Core.Path.{◌≡◌, sym, ap, ◌∙◌}
use mathlib.Core.List.{List}
use Prim.Native.Nat.{ℕ, zero, suc, ◌+◌, ◌*◌, ◌/◌, ◌%◌, ◌^◌, ◌<◌}
use native.Mathlib.Nat.{pow-suc}
use native.Mathlib.Omega.{arith}
use lib.Arith.{lt-one}
use lib.Dec.{eqb}
use lib.ListN.{length, get_or}
use lib.Seq.{ext_get_or}
use Rattle.loops.specs.Total.{bit}
use Rattle.rules.specs.Ancestry.{is_member}
use Rattle.bits.specs.Bits.{bit_in, bit_at}
use Rattle.bits.specs.Members.{members_in}
use Rattle.bits.proofs.Bits.{bit_at_place}
use Rattle.bits.proofs.Counted.{bit_in_zero, bit_in_half, bit_below_two}
use Rattle.bits.proofs.Members.{length_members_in, member_bit}

-- a number of d digits is told by its bits
digits_tell : (d x y : ℕ) → x < 2 ^ d → y < 2 ^ d → ((k : ℕ) → k < d → bit_in x k ≡ bit_in y k) → x ≡ y
digits_tell zero x y lx ly same = lt-one lx ∙ sym (lt-one ly)
digits_tell (suc d) x y lx ly same =
    let half = digits_tell d (x / 2) (y / 2) (omega (arith, pow-suc 2 d)) (omega (arith, pow-suc 2 d)) (λ k l. sym (bit_in_half x k) ∙ same (1 + k) (omega arith) ∙ bit_in_half y k) in
    let lowest : x % 2 ≡ y % 2 = sym (bit_in_zero x) ∙ same 0 (omega arith) ∙ bit_in_zero y in
    omega arith

-- whether it is set tells a bit
set_tells : (a b : ℕ) → a < 2 → b < 2 → eqb a 1 ≡ eqb b 1 → a ≡ b
set_tells a b la lb e = sym (bit_below_two a la) ∙ ap bit e ∙ bit_below_two b lb

pub members_tell : (m n : List ℕ) → ((q : ℕ) → get_or m q 0 < 2 ^ 64) → ((q : ℕ) → get_or n q 0 < 2 ^ 64) → members_in m ≡ members_in n → m ≡ n
members_tell m n lm ln e =
    ext_get_or 0 m n (omega (arith, length_members_in m, length_members_in n, ap length e))
    (λ q l. digits_tell 64 (get_or m q 0) (get_or n q 0) (lm q) (ln q) (λ k u. set_tells _ _ (omega arith) (omega arith) (here q k u)))
  where
    same : (j : ℕ) → bit_at m j ≡ bit_at n j
    same j = sym (member_bit m j) ∙ ap (λ x. is_member x j) e ∙ member_bit n j

    here : (q k : ℕ) → k < 64 → eqb (bit_in (get_or m q 0) k) 1 ≡ eqb (bit_in (get_or n q 0) k) 1
    here q k u = sym (bit_at_place m q k u) ∙ same (64 * q + k) ∙ bit_at_place n q k u
