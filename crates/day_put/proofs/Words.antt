-- A number's bytes over a part of a buffer, and several words: one more of a list, and the room for it.
use mathlib.Core.Path.{◌≡◌, refl, sym, ap, ◌∙◌}
use mathlib.Core.List.{List, [], ◌∷◌, append_assoc, append-nil}
use Prim.Native.Nat.{ℕ, zero, suc, ◌+◌, ◌*◌, ◌/◌, ◌%◌, ◌^◌, ◌<◌, ◌≤◌}
use native.Mathlib.Numerals.{add-one}
use native.Mathlib.Omega.{arith}
use lib.ListN.{length, get_or, take}
use lib.Seq.{sets-eq, take-suc, length-take-le}
use borrow.Rule.Slice.PartMut.{put_mid}
use Rattle.std.specs.Int.{bytes_high_first}
use Rattle.std.proofs.Common.{drop-drop}
use Rattle.put.specs.Put.{Put}
use Rattle.put.proofs.Puts.{put_none, put_then}
use Rattle.day_file.specs.Bytes.{high_first, number_bytes, joined}
use Rattle.day_file.proofs.Numbers.{high_first_bytes}
use Rattle.day_file.proofs.Joined.{length_high_first, length_joined_even, joined_append}

-- a part of the buffer, as long as they are, that was written over with them
pub put_bytes : (out : List ℕ) (at b v k : ℕ) {ys : List ℕ} → at + b ≤ length out → k ≡ b → ys ≡ bytes_high_first b v
    → Put out at (high_first b v) (at + b) (put_mid at k out ys)
put_bytes out at b v k {ys} room e told =
    let ours : ys ≡ high_first b v = told ∙ high_first_bytes b v in
    let long : length (high_first b v) ≡ b = length_high_first b v in
    record {
      next = ap (λ n. at + n) (sym long);
      after = rw (ours, e, sets-eq (high_first b v) out at (omega (arith, long)), long, drop-drop, append_assoc);
    }

-- ---- the loop over several

pub numbers_none : (out : List ℕ) (at : ℕ) (numbers : List ℕ) → Put out at (joined number_bytes (take 0 numbers)) at out
unfolding joined
numbers_none out at numbers = put_none out at

pub numbers_more : {out out₁ out₂ : List ℕ} {at m n : ℕ} (numbers : List ℕ) (j : ℕ) → j < length numbers
    → Put out at (joined number_bytes (take j numbers)) m out₁ → Put out₁ m (number_bytes (get_or numbers j 0)) n out₂
    → Put out at (joined number_bytes (take (j + 1) numbers)) n out₂
unfolding joined
numbers_more numbers j h p q =
    rw (add-one j, take-suc numbers j 0 h, joined_append number_bytes (take j numbers) (get_or numbers j 0 ∷ []), append-nil) (put_then p q)

-- two bytes each
pub numbers_length : (numbers : List ℕ) → length (joined number_bytes numbers) ≡ 2 * length numbers
numbers_length = length_joined_even number_bytes 2 (length_high_first 2)

pub front_length : (numbers : List ℕ) (j : ℕ) → j ≤ length numbers → length (joined number_bytes (take j numbers)) ≡ 2 * j
front_length numbers j h = numbers_length (take j numbers) ∙ ap (λ n. 2 * n) (length-take-le j numbers h)
