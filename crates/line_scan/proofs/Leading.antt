-- Laws of the list that the words begin with, as a loop reads it: what is left of the words completes the list, and once
-- a word is no number, or the limit is reached, the words are no list.
use mathlib.Core.Path.{◌≡◌, refl, sym, ap, ◌∙◌}
use mathlib.Core.Bool.{Bool, true, false, cond}
use mathlib.Core.List.{List, [], ◌∷◌, ◌++◌}
use Prim.Native.Nat.{ℕ, zero, suc, ◌+◌, ◌-◌, ◌<◌, ◌≤◌}
use native.Mathlib.Nat.{sub-zero, zero-add}
use native.Mathlib.Numerals.{add-one}
use native.Mathlib.Omega.{arith}
use lib.ListN.{length, get_or, set, drop}
use lib.Seq.{sets, sets-eq}
use borrow.Author.Tests.{eq-eqb, ne_eqb, eqb-true}
use Rattle.std.proofs.Common.{Option, Some, None}
use Rattle.line_words.specs.Words.{words_after}
use Rattle.line_number.specs.Numbers.{number_read}
use Rattle.line_scan.specs.Steps.{word_after, end_after}
use Rattle.line_scan.specs.Lists.{ahead, leading, is_list, many_of, Listed}
use Rattle.line_number.proofs.Digits.{number_le}
use Rattle.line_scan.proofs.Split.{words_after_next, words_after_end}

module _ {A : Type 0} (reader : List ℕ → Option A) where
  leading_nil : (most : ℕ) → leading reader most [] ≡ []
  unfolding leading
  leading_nil zero = refl
  leading_nil (suc most) = refl

  leading_zero : (ws : List (List ℕ)) → leading reader 0 ws ≡ []
  unfolding leading
  leading_zero ws = refl

  leading_suc : (most : ℕ) (w : List ℕ) (ws : List (List ℕ)) → leading reader (suc most) (w ∷ ws) ≡ ahead (reader w) (leading reader most ws)
  unfolding leading
  leading_suc most w ws = refl

-- what is left after `count` words, with the buffer as it then is
pub record Left {A : Type 0} (reader : List ℕ → Option A) (most : ℕ) (ws₀ : List (List ℕ)) (buffer₀ : List A) (count : ℕ) (ws : List (List ℕ)) (buffer : List A) : Type 0 where
  pub counted : length ws₀ ≡ count + length ws
  pub led : length (leading reader most ws₀) ≡ count + length (leading reader (most - count) ws)
  pub stored : sets buffer₀ 0 (leading reader most ws₀) ≡ sets buffer count (leading reader (most - count) ws)

pub left_start : {A : Type 0} (reader : List ℕ → Option A) (most : ℕ) (ws : List (List ℕ)) (buffer : List A) → Left reader most ws buffer 0 ws buffer
left_start reader most ws buffer =
    record {
      counted = sym (zero-add (length ws));
      led = rw (sub-zero, zero-add);
      stored = rw sub-zero;
    }

module _ {A : Type 0} {reader : List ℕ → Option A} {most : ℕ} {ws₀ : List (List ℕ)} {buffer₀ : List A} {count : ℕ} {buffer : List A} where
  pub left_more : {w : List ℕ} {ws : List (List ℕ)} → Left reader most ws₀ buffer₀ count (w ∷ ws) buffer → count < most
      → (v : A) → reader w ≡ Some v → Left reader most ws₀ buffer₀ (count + 1) ws (set buffer count v)
  left_more {w} {ws} l h v e =
      let m : most - count ≡ suc (most - (count + 1)) = omega arith in
      let more : leading reader (most - count) (w ∷ ws) ≡ v ∷ leading reader (most - (count + 1)) ws =
      ap (λ k. leading reader k (w ∷ ws)) m ∙ leading_suc reader (most - (count + 1)) w ws ∙ ap (λ n. ahead n (leading reader (most - (count + 1)) ws)) e
      in
      record {
        counted = omega (arith, l.counted);
        led = omega (arith, l.led, ap length more);
        stored = l.stored ∙ ap (sets buffer count) more ∙ ap (λ i. sets (set buffer count v) i (leading reader (most - (count + 1)) ws)) (sym (add-one count));
      }

  pub left_over : Left reader most ws₀ buffer₀ count [] buffer → Listed reader most ws₀ buffer₀ (Some count) buffer
  unfolding many_of
  left_over l =
      let none = leading_nil reader (most - count) in
      let all : length (leading reader most ws₀) ≡ length ws₀ = omega (arith, l.counted, l.led, ap length none) in
      let n : length ws₀ ≡ count = omega (arith, l.counted) in
      record {
        many = rw (eq-eqb (length (leading reader most ws₀)) (length ws₀) all, n);
        after = sym (l.stored ∙ ap (sets buffer count) none);
      }

  -- a word is left, but no number
  stuck : {w : List ℕ} {ws : List (List ℕ)} → Left reader most ws₀ buffer₀ count (w ∷ ws) buffer → leading reader (most - count) (w ∷ ws) ≡ []
      → Listed reader most ws₀ buffer₀ None buffer
  unfolding many_of
  stuck {w} {ws} l none =
      record {
        many = rw (ne_eqb (length (leading reader most ws₀)) (length ws₀) (λ q. omega (arith, l.counted, l.led, ap length none)));
        after = sym (l.stored ∙ ap (sets buffer count) none);
      }

  pub left_full : {w : List ℕ} {ws : List (List ℕ)} → Left reader most ws₀ buffer₀ count (w ∷ ws) buffer → most ≤ count → Listed reader most ws₀ buffer₀ None buffer
  left_full {w} {ws} l h =
      let m : most - count ≡ 0 = omega arith in
      stuck l (ap (λ k. leading reader k (w ∷ ws)) m ∙ leading_zero reader (w ∷ ws))

  pub left_refused : {w : List ℕ} {ws : List (List ℕ)} → Left reader most ws₀ buffer₀ count (w ∷ ws) buffer → count < most
      → reader w ≡ None → Listed reader most ws₀ buffer₀ None buffer
  left_refused {w} {ws} l h e =
      let m : most - count ≡ suc (most - (count + 1)) = omega arith in
      stuck l (ap (λ k. leading reader k (w ∷ ws)) m ∙ leading_suc reader (most - (count + 1)) w ws ∙ ap (λ n. ahead n (leading reader (most - (count + 1)) ws)) e)

-- ---- the same at a place in the line

module _ {A : Type 0} {reader : List ℕ → Option A} {most : ℕ} {ws₀ : List (List ℕ)} {buffer₀ : List A} (line : List ℕ) (at : ℕ) {count : ℕ} {buffer : List A} (l : Left reader most ws₀ buffer₀ count (words_after line at) buffer) where
  pub at_over : length line ≤ at → Listed reader most ws₀ buffer₀ (Some count) buffer
  at_over h = left_over (rw (words_after_end line at h) at l)

  pub at_full : at < length line → most ≤ count → Listed reader most ws₀ buffer₀ None buffer
  at_full h f = left_full (rw (words_after_next line at h) at l) f

  pub at_refused : at < length line → count < most → reader (word_after line at) ≡ None → Listed reader most ws₀ buffer₀ None buffer
  at_refused h c e = left_refused (rw (words_after_next line at h) at l) c e

  pub at_more : at < length line → count < most → (v : A) → reader (word_after line at) ≡ Some v
      → Left reader most ws₀ buffer₀ (count + 1) (words_after line (end_after line at)) (set buffer count v)
  at_more h c v e = left_more (rw (words_after_next line at h) at l) c v e

-- ---- what a list holds

-- no more numbers than the limit
pub leading_length : {A : Type 0} (reader : List ℕ → Option A) (most : ℕ) (ws : List (List ℕ)) → length (leading reader most ws) ≤ most
unfolding leading
leading_length reader zero ws = omega arith
leading_length reader (suc most) [] = omega arith
leading_length {A} reader (suc most) (w ∷ ws) = go (reader w) (leading_length reader most ws)
  where
    go : (n : Option A) → length (leading reader most ws) ≤ most → length (ahead n (leading reader most ws)) ≤ suc most
    go (Some v) h = omega arith
    go None h = omega arith

-- as many as are counted
pub many_count : {A : Type 0} (reader : List ℕ → Option A) (most : ℕ) (ws : List (List ℕ)) (n : ℕ) → many_of reader most ws ≡ Some n → n ≡ length (leading reader most ws)
unfolding many_of
many_count reader most ws n e = go (is_list reader most ws) refl e
  where
    go : (t : Bool) → is_list reader most ws ≡ t → cond t (Some (length ws)) None ≡ Some n → n ≡ length (leading reader most ws)
    go true q e = let h : length ws ≡ n = cc in omega (arith, eqb-true (length (leading reader most ws)) (length ws) q)
    go false q e = absurd (let z : ◌≡◌ {A = ℕ} 0 1 = cc in omega arith)

-- each within the limit of a number, as is what stands for a number that is left out
pub leading_le : (limit most : ℕ) (ws : List (List ℕ)) (i left : ℕ) → left ≤ limit → get_or (leading (number_read limit) most ws) i left ≤ limit
unfolding leading
leading_le limit zero ws i left h = h
leading_le limit (suc most) [] i left h = h
leading_le limit (suc most) (w ∷ ws) i left h = go (number_read limit w) refl i (λ j. leading_le limit most ws j left h)
  where
    go : (n : Option ℕ) → number_read limit w ≡ n → (i : ℕ) → ((j : ℕ) → get_or (leading (number_read limit) most ws) j left ≤ limit) → get_or (ahead n (leading (number_read limit) most ws)) i left ≤ limit
    go (Some v) e zero rest = number_le limit w v e
    go (Some v) e (suc i) rest = rest i
    go None e i rest = h

-- a list in front of what is left of a buffer: where the list ends, the buffer goes on
front : (vs buffer : List ℕ) (i : ℕ) → length vs ≤ length buffer → get_or (vs ++ drop (length vs) buffer) i 0 ≡ get_or vs i (get_or buffer i 0)
front [] buffer i h = refl
front (v ∷ vs) [] i h = absurd (omega arith)
front (v ∷ vs) (b ∷ buffer) zero h = refl
front (v ∷ vs) (b ∷ buffer) (suc i) h = front vs buffer i (omega arith)

-- a buffer after a list was read into it: number i of the list, and where it has none what the buffer held
pub listed_at : {reader : List ℕ → Option ℕ} {most : ℕ} {ws : List (List ℕ)} {buffer buffer' : List ℕ} {r : Option ℕ}
    → Listed reader most ws buffer r buffer' → most ≤ length buffer → (i : ℕ) → get_or buffer' i 0 ≡ get_or (leading reader most ws) i (get_or buffer i 0)
listed_at {reader} {most} {ws} {buffer} l h i =
    let vs = leading reader most ws in
    let within : length vs ≤ length buffer = omega (arith, leading_length reader most ws) in
    ap (λ b. get_or b i 0) (l.after ∙ sets-eq vs buffer 0 (omega arith) ∙ ap (λ n. vs ++ drop n buffer) (zero-add (length vs))) ∙ front vs buffer i within
