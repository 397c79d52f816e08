-- Laws of numbers and names as bytes: two bytes of a word, and a name as its four words. Assumes nothing.
use mathlib.Core.Path.{◌≡◌, refl, ap, ap₂}
use mathlib.Core.List.{[], ◌∷◌, ◌++◌}
use Prim.Native.Nat.{ℕ, zero, suc, ◌/◌, ◌%◌, ◌^◌, ◌<◌}
use native.Mathlib.Omega.{arith}
use Rattle.std.specs.Int.{bytes_high_first}
use Rattle.day_file.specs.Bytes.{high_first, number_bytes, name_bytes}

-- std's bytes of a number are ours
pub high_first_bytes : (b n : ℕ) → bytes_high_first b n ≡ high_first b n
unfolding high_first
high_first_bytes zero n = refl
high_first_bytes (suc zero) n = let e : n % 256 ≡ n / 1 % 256 = omega arith in ap (λ x. x ∷ []) e
high_first_bytes (suc (suc b)) n = ap (λ l. n / 256 ^ suc b % 256 ∷ l) (high_first_bytes (suc b) n)

-- the high byte of a word, and the low one
pub word_bytes : (v : ℕ) → v < 65536 → v / 256 ∷ v % 256 ∷ [] ≡ number_bytes v
unfolding high_first
word_bytes v small =
    let high : v / 256 ≡ v / 256 % 256 = omega arith in
    let low : v ≡ v / 1 = omega arith in
    ap₂ (λ x y. x ∷ y ∷ []) high (omega arith)

-- a name's eight bytes are those of its four words, highest part first
pub name_bytes_lem : (n : ℕ)
    → name_bytes n ≡ number_bytes (n / 281474976710656) ++ number_bytes (n / 4294967296 % 65536) ++ number_bytes (n / 65536 % 65536) ++ number_bytes (n % 65536)
unfolding high_first
name_bytes_lem n =
    let b7 : n / 72057594037927936 % 256 ≡ n / 281474976710656 / 256 % 256 = omega arith in
    let b6 : n / 281474976710656 % 256 ≡ n / 281474976710656 / 1 % 256 = omega arith in
    let b5 : n / 1099511627776 % 256 ≡ n / 4294967296 % 65536 / 256 % 256 = omega arith in
    let b4 : n / 4294967296 % 256 ≡ n / 4294967296 % 65536 / 1 % 256 = omega arith in
    let b3 : n / 16777216 % 256 ≡ n / 65536 % 65536 / 256 % 256 = omega arith in
    let b2 : n / 65536 % 256 ≡ n / 65536 % 65536 / 1 % 256 = omega arith in
    let b1 : n / 256 % 256 ≡ n % 65536 / 256 % 256 = omega arith in
    let b0 : n / 1 % 256 ≡ n % 65536 / 1 % 256 = omega arith in
    ap₂ ◌∷◌ b7 (ap₂ ◌∷◌ b6 (ap₂ ◌∷◌ b5 (ap₂ ◌∷◌ b4 (ap₂ ◌∷◌ b3 (ap₂ ◌∷◌ b2 (ap₂ ◌∷◌ b1 (ap₂ ◌∷◌ b0 refl)))))))
