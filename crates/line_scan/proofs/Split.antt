-- Laws of the words of a line: the first word ends at the first space, and what follows a word is read from where it ends.
use mathlib.Core.Path.{◌≡◌, refl, sym, ap, ◌∙◌}
use mathlib.Core.Bool.{Bool, true, false, cond}
use mathlib.Core.List.{List, [], ◌∷◌}
use Prim.Native.Nat.{ℕ, zero, suc, ◌+◌, ◌<◌, ◌≤◌}
use native.Mathlib.Nat.{add-suc}
use native.Mathlib.Numerals.{add-one}
use native.Mathlib.Decide.{dec_lt}
use native.Mathlib.Omega.{arith}
use lib.ListN.{length, get_or, take, drop, length-drop}
use lib.Seq.{drop-drop}
use lib.Dec.{eqb, leb-suc-suc}
use borrow.Author.Tests.{lt-ltb, le-ltb}
use Rattle.loops.specs.Search.{first_from}
use Rattle.loops.proofs.Search.{first_le}
use Rattle.text_bytes.specs.Bytes.{space}
use Rattle.line_words.specs.Words.{before, words, word_end, first_word, words_after}
use Rattle.line_scan.specs.Steps.{word_after, end_after}

pub word_end_le : (line : List ℕ) → word_end line ≤ length line
unfolding word_end
word_end_le line = first_le (λ i. eqb (get_or line i 0) space) (length line)

-- ---- one byte more in front

first_from_suc : (p : ℕ → Bool) (i k : ℕ) → first_from p (suc i) k ≡ suc (first_from (λ j. p (suc j)) i k)
unfolding first_from
first_from_suc p i zero = refl
first_from_suc p i (suc k) = go (p (suc i)) (first_from_suc p (suc i) k)
  where
    go : (b : Bool) {x y : ℕ} → x ≡ suc y → ◌≡◌ {A = ℕ} (elim b [ true ↦ suc i | false ↦ x ]) (suc (elim b [ true ↦ i | false ↦ y ]))
    go true e = refl
    go false e = e

word_end_space : (b : ℕ) (line : List ℕ) → eqb b space ≡ true → word_end (b ∷ line) ≡ 0
unfolding word_end first_from
word_end_space b line e = rw (first_from, e)

word_end_other : (b : ℕ) (line : List ℕ) → eqb b space ≡ false → word_end (b ∷ line) ≡ suc (word_end line)
unfolding word_end first_from
word_end_other b line e = rw (first_from, e) (first_from_suc (λ i. eqb (get_or (b ∷ line) i 0) space) 0 (length line))

words_after_suc : (b : ℕ) (line : List ℕ) (at : ℕ) → words_after (b ∷ line) (suc at) ≡ words_after line at
unfolding words_after
words_after_suc b line at = rw leb-suc-suc

words_after_zero : (b : ℕ) (line : List ℕ) → words_after (b ∷ line) 0 ≡ words line
unfolding words_after
words_after_zero b line = rw (lt-ltb 0 (suc (length line)) (omega arith))

words_space : (b : ℕ) (line : List ℕ) → eqb b space ≡ true → words (b ∷ line) ≡ [] ∷ words line
unfolding words
words_space b line e = rw (words, e)

words_other : (b : ℕ) (line : List ℕ) → eqb b space ≡ false → words (b ∷ line) ≡ before b (words line)
unfolding words
words_other b line e = rw (words, e)

-- ---- the first word, and what follows it

pub words_first : (line : List ℕ) → words line ≡ first_word line ∷ words_after line (word_end line)
unfolding words word_end words_after first_from
words_first [] = refl
words_first (b ∷ line) = go (eqb b space) refl (words_first line)
  where
    go : (t : Bool) → eqb b space ≡ t → words line ≡ first_word line ∷ words_after line (word_end line)
        → words (b ∷ line) ≡ first_word (b ∷ line) ∷ words_after (b ∷ line) (word_end (b ∷ line))
    go true e rest = words_space b line e ∙ sym (ap (λ n. take n (b ∷ line) ∷ words_after (b ∷ line) n) (word_end_space b line e) ∙ ap (λ ws. [] ∷ ws) (words_after_zero b line))
    go false e rest =
        words_other b line e ∙ ap (before b) rest
        ∙ sym (ap (λ n. take n (b ∷ line) ∷ words_after (b ∷ line) n) (word_end_other b line e) ∙ ap (λ ws. (b ∷ first_word line) ∷ ws) (words_after_suc b line (word_end line)))

-- ---- the word after one, and what follows that

words_after_drop : (line : List ℕ) (m e : ℕ) → m ≤ length line → words_after (drop m line) e ≡ words_after line (m + e)
unfolding words_after
words_after_drop line m e h = go (dec_lt (m + e) (length line))
  where
    go : Dec (m + e < length line) → words_after (drop m line) e ≡ words_after line (m + e)
    go (yes l) =
        rw (lt-ltb e (length (drop m line)) (omega (arith, length-drop m line)), lt-ltb (m + e) (length line) l, drop-drop (suc e) m line, add-suc)
    go (no l) = rw (le-ltb e (length (drop m line)) (omega (arith, length-drop m line)), le-ltb (m + e) (length line) (omega arith))

pub words_after_next : (line : List ℕ) (at : ℕ) → at < length line → words_after line at ≡ word_after line at ∷ words_after line (end_after line at)
unfolding words_after
words_after_next line at h =
    ap (λ t. cond t (words (drop (suc at) line)) []) (lt-ltb at (length line) h) ∙ ap (λ n. words (drop n line)) (sym (add-one at)) ∙ words_first (drop (at + 1) line)
    ∙ ap (λ ws. word_after line at ∷ ws) (words_after_drop line (at + 1) (word_end (drop (at + 1) line)) (omega arith))

pub words_after_end : (line : List ℕ) (at : ℕ) → length line ≤ at → words_after line at ≡ []
unfolding words_after
words_after_end line at h = rw (le-ltb at (length line) h)

pub end_after_le : (line : List ℕ) (at : ℕ) → at < length line → end_after line at ≤ length line
end_after_le line at h = omega (arith, word_end_le (drop (at + 1) line), length-drop (at + 1) line)
