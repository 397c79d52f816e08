-- The slot is read once: a preference moves no slot and leaves the entry fit for the rest of the turn.
use borrow.Author.Rules.{rules}
use Rattle.poll_writes.specs.Settling.{Settleable}
use Rattle.poll_writes.proofs.Settles.{prefer_settleable}
use Rattle.poll_writes.proofs.settling.settle_one.Goals as goal

pub follow_one-requires : goal.follow_one-requires
follow_one-requires c =
    let fit : Settleable c.args.w.now c.wide_field-s.result = rw c.wide_field-s.ensures c.requires.0 in
    (rw c.prefer_one.ensures (prefer_settleable fit (search rules)), search rules)
