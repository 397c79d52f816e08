-- The state read tells the state word, and there the rule computes to what the arm returns.
use mathlib.Core.Logic.{⊎_elim}
use borrow.Author.Tests.{lt-leb}
use Rattle.rules.specs.IsSound.{state_good}
use Rattle.terms.specs.declared.vote.State.TheVariants.{Waiting, NoChit, Chit, Unknown}
use Rattle.terms.proofs.States.{state_reads}
use Rattle.sound_rows.proofs.record.state_good.Goals as goal

pub returns-in-Waiting : goal.returns-in-Waiting
unfolding state_good
returns-in-Waiting c =
    rw (state_reads Waiting c.field.ensures c.read_state.ensures c.in-Waiting.is, c.field-o.ensures, c.header-p.ensures)

pub returns-in-NoChit : goal.returns-in-NoChit
unfolding state_good
returns-in-NoChit c =
    ⊎_elim
    (λ e. rw (state_reads NoChit c.field.ensures c.read_state.ensures e, c.field-o.ensures, c.header-p.ensures))
    (λ e. rw (state_reads Chit c.field.ensures c.read_state.ensures e, c.field-o.ensures, c.header-p.ensures))
    c.in-NoChit.is

pub returns-in-Unknown : goal.returns-in-Unknown
unfolding state_good
returns-in-Unknown c =
    rw (lt-leb _ 2 (state_reads Unknown c.field.ensures c.read_state.ensures c.in-Unknown.is))
