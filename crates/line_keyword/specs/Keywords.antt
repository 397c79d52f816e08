-- Document 01, "The text program": the word that begins a line, in lower case.
use Rattle.std.specs.Prelude.{ℕ, Bool, ◌&&◌, cond, List, length, get_or, eqb}
use Rattle.loops.specs.Search.{all}
use Rattle.text_bytes.specs.Bytes.{bytes}
use Rattle.terms.specs.declared.answer.Reading.TheVariants.{Query, Accepted, Lead, Confidence, Size}
use Rattle.line_keyword.specs.declared.Keyword.{Keyword}
use Rattle.line_keyword.specs.declared.Keyword.TheVariants.{Open, Book, Poll, Read, List as ListAll, Unknown}

-- the same bytes in the same order
unfoldable pub is_same : List ℕ → List ℕ → Bool
is_same a b = eqb (length a) (length b) && all (λ i. eqb (get_or a i 0) (get_or b i 0)) (length a)

abbrev pub reading_word : List ℕ → Keyword
reading_word word =
    cond (is_same word (bytes "query")) (Read Query)
    (cond (is_same word (bytes "accepted")) (Read Accepted)
    (cond (is_same word (bytes "lead")) (Read Lead)
    (cond (is_same word (bytes "confidence")) (Read Confidence)
    (cond (is_same word (bytes "size")) (Read Size)
    Unknown))))

abbrev pub keyword_of : List ℕ → Keyword
keyword_of word =
    cond (is_same word (bytes "open")) Open
    (cond (is_same word (bytes "book")) Book
    (cond (is_same word (bytes "poll")) Poll
    (cond (is_same word (bytes "list")) ListAll
    (reading_word word))))
