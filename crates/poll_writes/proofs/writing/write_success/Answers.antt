-- A ledger has what raising and settling lean on, and noting and raising move neither slots nor entries.
use native.Mathlib.Omega.{arith}
use Rattle.bits.specs.Members.{members_in}
use Rattle.poll_writes.proofs.Ledgers.{Ledger→Raising, Ledger→Settling, noted_raising, raised_noted_settling}
use Rattle.poll_writes.proofs.writing.write_success.Goals as goal

pub raise-requires : goal.raise-requires
raise-requires c =
    (rw (c.note.ensures, c.wide-n.ensures.0, c.header.ensures) (noted_raising c.args.w.now c.args.i _ _ (Ledger→Raising c.requires.0)), c.requires.2)

pub settle-requires : goal.settle-requires
settle-requires c = (
  rw (c.raise.ensures, c.note.ensures, c.wide-n.ensures.0, c.header.ensures)
      (raised_noted_settling c.args.w.now c.args.i _ (members_in c.args.members.now) _ (omega (arith, c.requires.0.sound.bookings_most)) (Ledger→Settling c.requires.0)),
  c.requires.2,
)
