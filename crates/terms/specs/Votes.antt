-- Document 01, "Poll": what a vote byte says; and what a state word says.
use Rattle.std.specs.Prelude.{ℕ, Bool, true, false, cond, eqb}
use Rattle.terms.specs.declared.vote.Vote.{Vote}
use Rattle.terms.specs.declared.vote.Vote.TheVariants.{Yes, No, Silent, Refused}
use Rattle.terms.specs.declared.vote.State.{State}
use Rattle.terms.specs.declared.vote.State.TheVariants.{Waiting, NoChit, Chit, Unknown}

-- 1 is yes, 255 is no (the signed byte −1) and 0 is silent; 2 to 254 are refused
unfoldable pub vote_of : ℕ → Vote
vote_of byte = cond (eqb byte 1) Yes (cond (eqb byte 255) No (cond (eqb byte 0) Silent Refused))

abbrev pub is_yes : Vote → Bool
is_yes Yes = true
is_yes No = false
is_yes Silent = false
is_yes Refused = false

abbrev pub is_refused : Vote → Bool
is_refused Yes = false
is_refused No = false
is_refused Silent = false
is_refused Refused = true

-- 0 waiting, 1 polled without a chit, 2 chit
unfoldable pub state_says : ℕ → State
state_says word = cond (eqb word 0) Waiting (cond (eqb word 1) NoChit (cond (eqb word 2) Chit Unknown))
