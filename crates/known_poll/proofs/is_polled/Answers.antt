-- The state word is read as one of four states, and all but the first say that the booking was polled.
use native.Mathlib.Omega.{arith}
use Rattle.terms.specs.declared.vote.State.TheVariants.{Waiting, NoChit, Chit, Unknown}
use Rattle.terms.proofs.States.{state_reads, unknown_other}
use Rattle.known_poll.proofs.is_polled.Goals as goal

pub returns-in-Waiting : goal.returns-in-Waiting
returns-in-Waiting c =
    rw (state_reads Waiting c.field.ensures c.read_state.ensures c.in-Waiting.is)

pub returns-in-NoChit : goal.returns-in-NoChit
returns-in-NoChit c =
    rw (state_reads NoChit c.field.ensures c.read_state.ensures c.in-NoChit.is)

pub returns-in-Chit : goal.returns-in-Chit
returns-in-Chit c =
    rw (state_reads Chit c.field.ensures c.read_state.ensures c.in-Chit.is)

pub returns-in-Unknown : goal.returns-in-Unknown
returns-in-Unknown c =
    rw (unknown_other 0 (omega arith) (state_reads Unknown c.field.ensures c.read_state.ensures c.in-Unknown.is))
