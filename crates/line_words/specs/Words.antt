-- Document 01, "The text program": a line is words with one space between.
use Rattle.std.specs.Prelude.{ℕ, suc, true, false, cond, List, [], ◌∷◌, length, get_or, take, drop, eqb, ltb}
use Rattle.loops.specs.Search.{first}
use Rattle.text_bytes.specs.Bytes.{space}

-- a byte more before the first word
abbrev pub before : ℕ → List (List ℕ) → List (List ℕ)
before b [] = (b ∷ []) ∷ []
before b (w ∷ ws) = (b ∷ w) ∷ ws

-- what stands between the spaces. An empty line, or a space at the start, at the end or next to another, makes an empty
-- word, which is neither a command nor a number.
unfoldable pub words : List ℕ → List (List ℕ)
words [] = [] ∷ []
words (b ∷ line) = elim (eqb b space) [ true ↦ [] ∷ words line | false ↦ before b (words line) ]

-- ---- the same by a place in the line, as it is read

-- where the first word ends: at the first space, or with the line
unfoldable pub word_end : List ℕ → ℕ
word_end line = first (λ i. eqb (get_or line i 0) space) (length line)

abbrev pub first_word : List ℕ → List ℕ
first_word line = take (word_end line) line

-- the words that follow one that ends at a place
unfoldable pub words_after : List ℕ → ℕ → List (List ℕ)
words_after line at = cond (ltb at (length line)) (words (drop (suc at) line)) []
