-- The next word of a line, read at the place where the word before it ends.
use Rattle.std.specs.Prelude.{ℕ, ◌+◌, cond, List, Option, Some, None, length, drop, ltb}
use Rattle.line_words.specs.Words.{word_end, first_word}

abbrev pub word_after : List ℕ → ℕ → List ℕ
word_after line at = first_word (drop (at + 1) line)

abbrev pub end_after : List ℕ → ℕ → ℕ
end_after line at = at + 1 + word_end (drop (at + 1) line)

abbrev pub step_by : Option ℕ → ℕ → Option (ℕ × ℕ)
step_by (Some v) end = Some (v, end)
step_by None end = None

-- its value and where it ends, where there is a word and it is a number
unfoldable pub step_of : (List ℕ → Option ℕ) → List ℕ → ℕ → Option (ℕ × ℕ)
step_of reader line at = cond (ltb at (length line)) (step_by (reader (word_after line at)) (end_after line at)) None
