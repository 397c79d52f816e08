-- What is left of the words from `at` on completes the list, and each turn stores one value.
use mathlib.Core.Path.{refl, sym, ap, ◌∙◌}
use lib.ListN.{length-set}
use native.Mathlib.Omega.{arith}
use Rattle.std.proofs.lemmas.Fn.{says_at}
use Rattle.line_scan.proofs.Leading.{left_start, at_over, at_full, at_refused, at_more}
use Rattle.line_scan.proofs.many.read_list.Goals as goal

pub loop-word-init : goal.loop-word-init
loop-word-init g c = (c.requires.within, refl, λ reader says. left_start reader _ _ _)

pub returns-then-list-count : goal.returns-then-list-count
returns-then-list-count g c =
    let next = c.in-Some.ensures in
    λ reader says. at_full c.args.line.now c.loop-word.at (c.loop-word.invariant.2 reader says) next.0 (omega arith)

pub returns-in_err-list : goal.returns-in_err-list
returns-in_err-list g c =
    let next = c.in-Some.ensures in
    λ reader says.
    let told = says _ _ (says_at g.F.Fn c.in_err-list.ensures refl) in
    rw c.from_residual.ensures
    (at_refused c.args.line.now c.loop-word.at (c.loop-word.invariant.2 reader says) next.0 (omega arith) (sym (told ∙ ap reader next.1)))

pub loop-word-preserved : goal.loop-word-preserved
loop-word-preserved g c =
    let next = c.in-Some.ensures in (
      next.3,
      simp length-set c.loop-word.invariant.1,
      λ reader says.
          let told = says _ _ (says_at g.F.Fn c.in_ok-list.ensures refl) in
          rw next.2
          (at_more c.args.line.now c.loop-word.at (c.loop-word.invariant.2 reader says) next.0 (omega arith) _ (sym (told ∙ ap reader next.1))),
    )

pub returns : goal.returns
returns g c = λ reader says. at_over c.args.line.now c.loop-word.at (c.loop-word.invariant.2 reader says) c.in_default.ensures
