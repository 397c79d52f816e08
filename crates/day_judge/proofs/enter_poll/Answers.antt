-- The booking's number and the outcome are those of the poll that is read there.
use mathlib.Core.Path.{sym, ap, ◌∙◌}
use mathlib.Core.Bool.{Bool, not, ◌&&◌}
use Prim.Native.Nat.{ℕ, ◌+◌}
use lib.Dec.{eqb, leb}
use lib.ListN.{drop}
use borrow.Author.Rules.{rules}
use Rattle.bits.specs.Bits.{with_bit}
use Rattle.day_judge.proofs.Polls.{poll_booking, poll_decides}
use Rattle.day_judge.proofs.enter_poll.Goals as goal

pub returns : goal.returns
returns c =
    let S = c.args in
    let sections = S.sections.now in
    let i = c.number_at-i.result in
    let o = c.number_at-outcome.result in
    let l = drop S.at sections in
    let a = drop (S.at + 2) sections in
    let b = drop (S.at + 2 + 2) sections in (
      poll_decides l a b i o (search rules) (search rules) c.number_at-i.ensures c.number_at-outcome.ensures S.most S.seen.now _
          (ap (λ (t : Bool). not (eqb i 0) && leb i S.most && not t && leb o 1) c.is_set.ensures),
      c.set_bit.ensures ∙ ap (λ (x : ℕ). with_bit x S.seen.now) (sym (poll_booking l a b i o (search rules) (search rules) c.number_at-i.ensures c.number_at-outcome.ensures)),
    )
