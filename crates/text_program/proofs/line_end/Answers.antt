-- The first line feed is the first byte that is one.
use Rattle.std.proofs.Common.{◌≡◌, ℕ, ◌+◌, Bool, true, false, cond, suc, refl, sym, ◌∙◌, eqb, arith}
use Rattle.std.proofs.lemmas.List.Recursion.{is_position_or_len}
use Rattle.text_bytes.specs.Bytes.{line_feed}
use Rattle.text_program.specs.Piece.{line_end}
use Rattle.text_program.proofs.line_end.Goals as goal

one_more : (t : Bool) (n : ℕ) → ◌≡◌ {A = ℕ} (elim t [ true ↦ 0 | false ↦ suc n ]) (cond t 0 (1 + n))
one_more true n = refl
one_more false n = omega arith

pub returns : goal.returns
unfolding line_end
returns c = c.find_byte.ensures.0 ∙ sym (is_position_or_len line_end (λ b. eqb b line_feed) refl (λ b input. one_more (eqb b line_feed) (line_end input)) c.args.input.now)
