-- A turn serves one line more and keeps what is gathered; it ends with the input, or where the longest answer may have no room.
use mathlib.Core.Path.{◌≡◌, ap, ◌∙◌}
use mathlib.Core.List.{List}
use Prim.Native.Nat.{ℕ, ◌+◌, ◌-◌, ◌≤◌}
use native.Mathlib.Omega.{arith}
use lib.ListN.{length, drop, take, length-drop}
use lib.Seq.{take_all}
use borrow.Author.Tests.{leb-true, leb-false}
use Rattle.text_program.specs.Piece.{line_end}
use Rattle.text_program.proofs.Lines.{end_le}
use Rattle.text_program.proofs.Pieces.{gathering_more, gathering_over, gathered_full, gathered_over}
use Rattle.text_program.proofs.serve_piece.Goals as goal

-- the line that starts at `next`, and that it ends within the input
ends : (input : List ℕ) (next : ℕ) {end : ℕ} → end ≡ line_end (take (length input - next) (drop next input)) → end ≡ line_end (drop next input)
ends input next e = e ∙ ap line_end (take_all (length input - next) (drop next input) (omega (arith, length-drop next input)))

end_within : (input : List ℕ) (next : ℕ) {end : ℕ} → next ≤ length input → end ≡ line_end (take (length input - next) (drop next input)) → next + end ≤ length input
end_within input next h e = omega (arith, ends input next e, end_le (drop next input), length-drop next input)

pub overflow_add-end : goal.overflow_add-end
overflow_add-end c = omega (arith, end_within c.args.input.now c.loop-next.next (omega arith) c.line_end.ensures)

pub slice_bounds-serve-end : goal.slice_bounds-serve-end
slice_bounds-serve-end c = omega (arith, end_within c.args.input.now c.loop-next.next (omega arith) c.line_end.ensures)

pub loop-next-preserved : goal.loop-next-preserved
loop-next-preserved c =
    let loop = c.loop-next in
    let end = loop.next + c.line_end.result in (
      gathering_more loop.invariant.0 (end - loop.next) (end + 1) (omega arith) (omega (arith, ends c.args.input.now loop.next c.line_end.ensures)) (omega arith)
          (omega (arith, loop.invariant.1, leb-true))
          (omega (arith, c.serve-served.auto.out, loop.invariant.0.whole))
          c.serve-served.ensures,
      loop.invariant.1,
    )

pub returns-else-count-most : goal.returns-else-count-most
returns-else-count-most c =
    let loop = c.loop-next in
    gathering_over loop.invariant.0
    (gathered_full _ _ _ (omega (arith, loop.invariant.0.put.next, loop.invariant.1, leb-false)))
    (λ l. loop.invariant.0.moved (omega (arith, loop.invariant.1, leb-false)))

pub returns-after-loop-next : goal.returns-after-loop-next
returns-after-loop-next c =
    let loop = c.loop-next in
    gathering_over loop.invariant.0
    (gathered_over _ _ c.args.input.now loop.next (omega arith))
    (λ l. omega arith)
