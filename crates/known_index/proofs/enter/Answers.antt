-- There was room, or there was none and nothing was written.
use Rattle.std.specs.Prelude.{Err}
use Prim.Native.Nat.{◌-◌}
use mathlib.Core.Path.{sym, ap, ◌∙◌}
use borrow.Author.Tests.{not-true, not-false}
use Rattle.terms.specs.declared.answer.Refusal.TheVariants.{IndexFull}
use Rattle.terms.specs.Answers.{handover, done}
use Rattle.name_index.specs.Index.{with_number, newest}
use Rattle.name_index.proofs.Tested.{enter_room, enter_full}
use Rattle.known_index.proofs.Entered.{full_kept}
use Rattle.known_index.proofs.enter.Goals as goal

pub returns-then-put_number : goal.returns-then-put_number
returns-then-put_number c =
    ap (handover done c.args.w.now) (c.put_number.ensures.1 ∙ ap (λ n. with_number c.args.w.now (n - 1) c.args.index.now) c.how_many-newest.ensures)
    ∙ enter_room c.args.w.now c.args.index.now c.requires.0 c.requires.1 (not-true _ (sym c.put_number.ensures.0 ∙ c.if-put_number.true))

pub returns-else-put_number : goal.returns-else-put_number
returns-else-put_number c =
    let none = not-false _ (sym c.put_number.ensures.0 ∙ c.if-put_number.false) in
    ap (handover (Err IndexFull) c.args.w.now) ((c.put_number.ensures.1 ∙ ap (λ n. with_number c.args.w.now (n - 1) c.args.index.now) c.how_many-newest.ensures) ∙ full_kept c.args.w.now c.args.index.now c.requires.1 none (newest c.args.w.now))
    ∙ enter_full c.args.w.now c.args.index.now c.requires.0 c.requires.1 none
