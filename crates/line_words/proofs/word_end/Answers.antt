-- The first space is the first byte that is one.
use Rattle.std.proofs.Common.{ℕ, ◌∙◌}
use lib.Dec.{eqb}
use Rattle.std.proofs.lemmas.List.Sums.{position_or_len_is}
use Rattle.loops.proofs.Search.{first_le, first_before, first_hit}
use Rattle.text_bytes.specs.Bytes.{space}
use Rattle.line_words.specs.Words.{word_end}
use Rattle.line_words.proofs.word_end.Goals as goal
use lib.ListN.{length, get_or}

pub returns : goal.returns
unfolding word_end
returns c =
    let line = c.args.line.now in
    let is_space = λ (i : ℕ). eqb (get_or line i 0) space in
    c.find_byte.ensures.0
    ∙ position_or_len_is (λ b. eqb b space) line _ 0 (first_le is_space (length line)) (λ k h. first_before is_space (length line) k h) (first_hit is_space (length line))
