-- CR 6: the 32-bit FNV-1a hash of a name's eight bytes, highest first.
use Rattle.std.specs.Prelude.{ℕ, ◌-◌, ◌*◌, ◌/◌, ◌%◌, ◌^◌}
use Rattle.std.specs.Int.Bits.{bit_xor}
use Rattle.loops.specs.Turns.{up_to}

-- what it starts from, and what it is multiplied by
abbrev pub hash_start : ℕ
hash_start = 2166136261

abbrev pub hash_prime : ℕ
hash_prime = 16777619

-- one byte more: xor first, then the multiplication, modulo 2^32
abbrev pub hashed : (hash byte : ℕ) → ℕ
hashed hash byte = bit_xor hash byte * hash_prime % 2 ^ 32

abbrev pub name_width : ℕ
name_width = 8

-- byte j of a name; 0 is the highest
abbrev pub name_byte : ℕ → ℕ → ℕ
name_byte name j = name / 2 ^ (56 - 8 * j) % 256

unfoldable pub hash_of : ℕ → ℕ
hash_of name = up_to (λ j hash. hashed hash (name_byte name j)) name_width hash_start
