-- The test of success chooses the outcome.
use Rattle.rules.specs.Poll.{polled}
use Rattle.known_poll.proofs.write_poll.Goals as goal

pub returns : goal.returns
unfolding polled
returns c =
    rw c.is_success-success.ensures at c.write_outcome.ensures
