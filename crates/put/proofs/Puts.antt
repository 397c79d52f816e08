-- Laws of bytes stored from an offset on: one writer after another leaves the bytes of both, one after the other.
use mathlib.Core.Path.{◌≡◌, refl, sym, ap, ap₂, ◌∙◌}
use mathlib.Core.List.{List, [], ◌∷◌, ◌++◌, append-nil}
use Prim.Native.Nat.{ℕ, suc, ◌+◌, ◌-◌, ◌<◌, ◌≤◌}
use native.Mathlib.Nat.{zero-add, add-zero, add-suc, suc-add, add_assoc}
use native.Mathlib.Numerals.{add-one}
use native.Mathlib.Omega.{arith}
use lib.ListN.{length, get_or, set, take, drop, length-append, length-drop, take-append-drop, drop_of_length-le}
use lib.Seq.{sets, drop-cons, drop-length, length-sets, take_all, length-take-le}
use Rattle.put.specs.Put.{Put}

pub sets_append : (out : List ℕ) (at : ℕ) (xs ys : List ℕ) → sets out at (xs ++ ys) ≡ sets (sets out at xs) (at + length xs) ys
sets_append out at [] ys = rw add-zero
sets_append out at (x ∷ xs) ys = rw (add-suc, ← suc-add) (sets_append (set out at x) (suc at) xs ys)

pub put_none : (out : List ℕ) (at : ℕ) → Put out at [] at out
put_none out at = record { next = sym (add-zero at); after = refl }

pub put_one : (out : List ℕ) (at b : ℕ) → Put out at (b ∷ []) (at + 1) (set out at b)
put_one out at b = record { next = refl; after = refl }

pub put_then : {out out₁ out₂ : List ℕ} {at m n : ℕ} {xs ys : List ℕ} → Put out at xs m out₁ → Put out₁ m ys n out₂ → Put out at (xs ++ ys) n out₂
put_then {out} {out₁} {out₂} {at} {m} {n} {xs} {ys} p q =
    record {
      next = q.next ∙ ap (λ i. i + length ys) p.next ∙ add_assoc at (length xs) (length ys) ∙ ap (λ i. at + i) (sym (length-append xs ys));
      after = q.after ∙ ap (λ l. sets l m ys) p.after ∙ ap (λ i. sets (sets out at xs) i ys) p.next ∙ sym (sets_append out at xs ys);
    }

-- a writer keeps the buffer's length
pub put_length : {out out' : List ℕ} {at r : ℕ} {xs : List ℕ} → Put out at xs r out' → length out' ≡ length out
put_length {out} {at = at} {xs = xs} p = ap length p.after ∙ length-sets out at xs

-- where the next writer starts after so many bytes, and that the buffer is as long as before
pub put_past : {out out' xs : List ℕ} {at r : ℕ} (n : ℕ) → length xs ≡ n → Put out at xs r out' → (r ≡ at + n) × (length out' ≡ length out)
put_past {at = at} n e p = (p.next ∙ ap (λ k. at + k) e, put_length p)

-- ---- a writer that is lent what remains of the buffer, from an offset on

set_behind : (p q : List ℕ) (i a : ℕ) → set (p ++ q) (length p + i) a ≡ p ++ set q i a
set_behind [] q i a = ap (λ n. set q n a) (zero-add i)
set_behind (x ∷ p) q i a = ap (λ n. set (x ∷ p ++ q) n a) (suc-add (length p) i) ∙ ap (λ l. x ∷ l) (set_behind p q i a)

sets_behind : (p q : List ℕ) (i : ℕ) (xs : List ℕ) → sets (p ++ q) (length p + i) xs ≡ p ++ sets q i xs
sets_behind p q i [] = refl
sets_behind p q i (x ∷ xs) =
    ap (λ l. sets l (suc (length p + i)) xs) (set_behind p q i x) ∙ ap (λ n. sets (p ++ set q i x) n xs) (sym (add-suc (length p) i)) ∙ sets_behind p (set q i x) (suc i) xs

-- the whole buffer after it: the part before the offset, what the writer left, and nothing behind that
abbrev pub around : List ℕ → ℕ → List ℕ → List ℕ
around out at rest = take at out ++ (rest ++ drop (length out - at) (drop at out))

-- what remains
abbrev pub remains : List ℕ → ℕ → List ℕ
remains out at = take (length out - at) (drop at out)

pub length_remains : (out : List ℕ) (at : ℕ) → length (remains out at) ≡ length out - at
length_remains out at = ap length (take_all (length out - at) (drop at out) (omega (arith, length-drop at out))) ∙ length-drop at out

pub sets_remains : (out : List ℕ) (at : ℕ) (xs : List ℕ) → at ≤ length out → around out at (sets (remains out at) 0 xs) ≡ sets out at xs
sets_remains out at xs h =
    let none : drop (length out - at) (drop at out) ≡ [] = drop_of_length-le (drop at out) {i = length out - at} (omega (arith, length-drop at out)) in
    let all : remains out at ≡ drop at out = take_all (length out - at) (drop at out) (omega (arith, length-drop at out)) in
    let front : length (take at out) + 0 ≡ at = omega (arith, length-take-le at out h) in
    rw (none, all, append-nil)
    (sym (sets_behind (take at out) (drop at out) 0 xs) ∙ ap₂ (λ l n. sets l n xs) (take-append-drop at out) front)

pub put_remains : (out : List ℕ) (at : ℕ) {xs rest : List ℕ} {r : ℕ} → at ≤ length out → Put (remains out at) 0 xs r rest → Put out at xs (at + r) (around out at rest)
put_remains out at {xs} h p =
    record {
      next = ap (λ n. at + n) (p.next ∙ zero-add (length xs));
      after = ap (around out at) p.after ∙ sets_remains out at xs h;
    }

-- ---- a text, byte by byte

-- a turn of the loop that copies a text: what is left to store after its store
pub sets_more : (out : List ℕ) (at : ℕ) (text : List ℕ) (j : ℕ) → j < length text
    → sets out (at + j) (drop j text) ≡ sets (set out (at + j) (get_or text j 0)) (at + (j + 1)) (drop (j + 1) text)
sets_more out at text j h = rw (drop-cons text j 0 h, add-one, add-suc)

pub sets_over : (out : List ℕ) (at : ℕ) (text : List ℕ) → sets out at (drop (length text) text) ≡ out
sets_over out at text = rw (drop-length text)
