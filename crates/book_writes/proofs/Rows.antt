-- A row of words stored as a whole, word by word, and by a loop that counts its words.
use mathlib.Core.Path.{◌≡◌}
use mathlib.Core.List.{List, [], ◌∷◌, ◌++◌}
use Prim.Native.Nat.{ℕ, suc, ◌+◌, ◌<◌}
use native.Mathlib.Nat.{add-zero, add-suc, suc-add}
use native.Mathlib.Numerals.{add-one}
use native.Mathlib.Omega.{arith}
use lib.ListN.{length, get_or, set, take}
use lib.Seq.{sets, take-suc, length-take-le}
use Rattle.rules.specs.Layout.{slot_at, preferred_field, last_field, counter_field, held_field, with_entry}

sets_snoc : (vs w : List ℕ) (b a : ℕ) → sets w b (vs ++ (a ∷ [])) ≡ set (sets w b vs) (b + length vs) a
sets_snoc [] w b a = rw add-zero
sets_snoc (v ∷ vs) w b a = rw (add-suc, ← suc-add) (sets_snoc vs (set w b v) (suc b) a)

-- one word more of the row, as a loop that counts has it
pub sets_one_more : (w row : List ℕ) (b f k : ℕ) → f < length row → k ≡ b + f → set (sets w b (take f row)) k (get_or row f 0) ≡ sets w b (take (f + 1) row)
sets_one_more w row b f k h q =
    let e : length (take f row) ≡ f = length-take-le f row (omega arith) in
    rw (q, add-one, take-suc row f 0 h, sets_snoc, e)

-- an entry of four words, each by its name
pub sets_entry : (w : List ℕ) (s a b c d : ℕ)
    → sets w (slot_at s 0) (a ∷ b ∷ c ∷ d ∷ []) ≡ with_entry (with_entry (with_entry (with_entry w s preferred_field a) s last_field b) s counter_field c) s held_field d
sets_entry w s a b c d =
    let e : suc (slot_at s preferred_field) ≡ slot_at s last_field = omega arith in
    let f : suc (slot_at s last_field) ≡ slot_at s counter_field = omega arith in
    let g : suc (slot_at s counter_field) ≡ slot_at s held_field = omega arith in
    rw (e, f, g)
