-- The first j words are those of a newly opened ledger: one more, a part more, one entry more, and all of them.
use Prim.Native.Nat.{ℕ, zero, suc, ◌+◌, ◌-◌, ◌<◌, ◌≤◌}
use native.Mathlib.Decide.{dec_lt}
use mathlib.Core.Path.{◌≡◌, refl, sym, ap, ◌∙◌}
use mathlib.Core.List.{List, [], ◌∷◌, ◌++◌}
use native.Mathlib.Nat.{zero-add, not-suc-le-zero}
use native.Mathlib.Omega.{arith}
use borrow.Author.Count.{below_more}
use borrow.Rule.Slice.PartMut.{put_mid, post_of}
use lib.ListN.{length, get_or, set, replicate, take, length-set, get_or-append}
use lib.Seq.{get_or-take, get_or-set_same, get_or-set_other, get_or-append_right, length-take-le, ext_get_or}
use Rattle.terms.specs.declared.setting.Setting.{Setting}
use Rattle.loops.proofs.Fill.{length_from, get_d_from}
use Rattle.rules.specs.Layout.{size, slots, slot_words, slot_at, preferred_field, last_field, counter_field, held_field, with_entry}
use Rattle.rules.specs.Open.{open_entry, open_word, opened}
use Rattle.open_writes.proofs.Word.{open_word_entry}

pub record Begun (s : Setting) (j : ℕ) (w : List ℕ) : Type 0 where
  pub words : (k : ℕ) → k < j → get_or w k 0 ≡ open_word s k

pub begun_none : (s : Setting) (w : List ℕ) → Begun s 0 w
begun_none s w = record { words = λ k h. absurd (not-suc-le-zero h) }

pub begun_more : {s : Setting} {j : ℕ} {w : List ℕ} (k v : ℕ) → k ≡ j + 1 → j < length w → v ≡ open_word s j → Begun s j w → Begun s k (set w j v)
begun_more {s} {j} {w} k v q h e b =
    rw q
    record {
      words = below_more (λ k. get_or (set w j v) k 0 ≡ open_word s k) j
          (λ k l. get_or-set_other w j k v 0 (λ q. omega arith) ∙ b.words k l)
          (get_or-set_same w j v 0 h ∙ e);
    }

-- a row of zeros
pub zero_at : (n i : ℕ) → get_or {A = ℕ} (replicate n 0) i 0 ≡ 0
zero_at zero i = refl
zero_at (suc n) zero = refl
zero_at (suc n) (suc i) = zero_at n i

-- a part that is copied over
pub begun_part : {s : Setting} {j : ℕ} {w : List ℕ} (at k n : ℕ) (ys : List ℕ)
    → at ≡ j → n ≡ j + k → n ≤ length w → length ys ≡ k → ((i : ℕ) → i < k → get_or ys i 0 ≡ open_word s (j + i)) → Begun s j w → Begun s n (put_mid at k w ys)
begun_part {s} {j} {w} at k n ys start e h long part b = rw start record { words = λ i l. go i l (dec_lt i j) }
  where
    before : length (take j w) ≡ j
    before = length-take-le j w (omega arith)

    go : (i : ℕ) → i < n → Dec (i < j) → get_or (put_mid j k w ys) i 0 ≡ open_word s i
    go i l (yes u) = get_or-append (take j w) _ 0 i (omega (arith, before)) ∙ get_or-take j w i 0 u ∙ b.words i u
    go i l (no u) =
        let place : j + (i - j) ≡ i = omega arith in
        get_or-append_right (take j w) _ i 0 (omega (arith, before)) ∙ ap (λ q. get_or (ys ++ post_of j k w) (i - q) 0) before
        ∙ get_or-append ys _ 0 (i - j) (omega arith) ∙ part (i - j) (omega arith) ∙ ap (open_word s) place

-- the four words of slot t's entry
pub begun_entry : {s : Setting} (t : ℕ) {w : List ℕ} (a b c d : ℕ)
    → length w ≡ size → t < slots → a ∷ b ∷ c ∷ d ∷ [] ≡ open_entry t → Begun s (slot_at t 0) w
    → Begun s (slot_at (t + 1) 0) (with_entry (with_entry (with_entry (with_entry w t preferred_field a) t last_field b) t counter_field c) t held_field d)
begun_entry {s} t a b c d n h e g =
    begun_more _ d (omega arith) (simp length-set (omega arith)) (word held_field (omega arith))
    (begun_more _ c (omega arith) (simp length-set (omega arith)) (word counter_field (omega arith))
    (begun_more _ b (omega arith) (simp length-set (omega arith)) (word last_field (omega arith))
    (begun_more _ a (omega arith) (omega arith) (word preferred_field (omega arith)) g)))
  where
    word : (f : ℕ) → f < slot_words → get_or (a ∷ b ∷ c ∷ d ∷ []) f 0 ≡ open_word s (slot_at t f)
    word f l = ap (λ row. get_or row f 0) e ∙ sym (open_word_entry s t f l)

pub begun_all : {s : Setting} {w : List ℕ} → length w ≡ size → Begun s size w → w ≡ opened s
unfolding opened
begun_all {s} {w} n b =
    ext_get_or 0 w (opened s) (n ∙ sym (length_from (open_word s) 0 size)) (λ k l.
    let h : k < size = omega arith in
    b.words k h ∙ sym (get_d_from (open_word s) 0 size k h ∙ ap (open_word s) (zero-add k)))
