-- Document 01, "The text program": what is printed. Every printed line ends with a line feed.
use Rattle.std.specs.Prelude.{ℕ, List, [], ◌∷◌, ◌++◌, Err, Ok}
use Rattle.terms.specs.declared.answer.Refusal.{Refusal}
use Rattle.terms.specs.Answers.{refusal_number, Answer}
use Rattle.text_bytes.specs.Bytes.{bytes, line_feed}
use Rattle.text_put.specs.Decimal.{decimal, signed}

-- ---- texts

-- before the number
abbrev pub refused_text : List ℕ
refused_text = bytes "refused "

abbrev pub bad_line : List ℕ
bad_line = bytes "bad line\n"

abbrev pub too_long : List ℕ
too_long = bytes "input too long\n"

-- ---- answers

-- "refused" and the number
abbrev pub refusal_prints : Refusal → List ℕ
refusal_prints r = refused_text ++ (decimal (refusal_number r) ++ (line_feed ∷ []))

-- a reading prints its value
abbrev pub reading_prints : Answer → List ℕ
reading_prints (Ok v) = signed v ++ (line_feed ∷ [])
reading_prints (Err r) = refusal_prints r

-- other taken calls print nothing
abbrev pub call_prints : Answer → List ℕ
call_prints (Ok v) = []
call_prints (Err r) = refusal_prints r

-- how many bytes an answer takes at most: "refused ", twenty digits and a line feed, with some to spare
abbrev pub answer_most : ℕ
answer_most = 32
