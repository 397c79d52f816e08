use Rattle.std.proofs.Common.{sym, ap, ◌∙◌, arith, ◌++◌, take, append_assoc, append-nil, rules}
use Rattle.std.proofs.KnownBytes.{Appends-trans}
use Rattle.text_program.proofs.Program.{words_over, printed_over}
use Rattle.console.proofs.serve_lines.Goals as goal

pub loop-start-preserved : goal.loop-start-preserved
loop-start-preserved g c =
    let piece = c.serve_piece-piece in
    let wrote = c.loop-start.invariant.written in
    let h = c.in_ok-write_out.ensures in
    record {
      whole = search rules;
      room = search rules;
      told = piece.ensures.told;
      after = c.loop-start.invariant.after ∙ piece.ensures.after;
      written = (
        wrote.0 ++ take piece.result.count piece.new.out,
        Appends-trans _ _ _ _ _ wrote.1 h,
        wrote.2 ∙ ap (λ rest. wrote.0 ++ rest) piece.ensures.rest ∙ sym (append_assoc wrote.0 _ _),
      );
    }

-- where the input ends, nothing changes the words any more, and nothing is left to print
pub returns-clause-words : goal.returns-clause-words
returns-clause-words g c =
    sym (c.loop-start.invariant.after ∙ words_over c.loop-start.w c.args.input.now c.loop-start.start (omega arith))

pub returns-clause-written : goal.returns-clause-written
returns-clause-written g c =
    let wrote = c.loop-start.invariant.written in
    rw (wrote.2, printed_over c.loop-start.w c.args.input.now c.loop-start.start (omega arith), append-nil) wrote.1
