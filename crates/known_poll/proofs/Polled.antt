-- A poll on a ledger by its cases, in the order of its refusals: each case is what the law's call gives.
use Rattle.std.specs.Prelude.{Err, None, Some}
use mathlib.Core.Path.{◌≡◌}
use mathlib.Core.Bool.{true, false, not}
use mathlib.Core.List.{List}
use Prim.Native.Nat.{ℕ}
use lib.ListN.{length}
use lib.Dec.{eqb}
use Rattle.terms.specs.declared.answer.Refusal.TheVariants.{UnknownName, NotWaiting, WrongVotes, BadVote}
use Rattle.rules.specs.Layout.{setting_in, state_of}
use Rattle.terms.specs.Answers.{outcome, done}
use Rattle.rules.specs.Poll.{has_refused_vote}
use Rattle.rules.specs.Sound.{Ledger}
use Rattle.rules.specs.Book.{look_up}
use Rattle.rules.specs.Poll.{polled}
use Rattle.rules.specs.Calls.{poll_call}
use Rattle.rule_laws.proofs.Tested.{tested_known}

module _ (w : List ℕ) (name : ℕ) (votes : List ℕ) (ledger : Ledger w) where
  pub poll_absent : look_up w name ≡ None → outcome (Err UnknownName) w ≡ poll_call w name votes
  unfolding poll_call
  poll_absent a = rw (tested_known, a)

  module _ (i : ℕ) (found : look_up w name ≡ Some i) where
    pub poll_over : not (eqb (state_of w i) 0) ≡ true → outcome (Err NotWaiting) w ≡ poll_call w name votes
    unfolding poll_call
    poll_over s = rw (tested_known, found, s)

    module _ (waiting : not (eqb (state_of w i) 0) ≡ false) where
      pub poll_miscounted : not (eqb (length votes) (setting_in w).k) ≡ true → outcome (Err WrongVotes) w ≡ poll_call w name votes
      unfolding poll_call
      poll_miscounted k = rw (tested_known, found, waiting, k)

      module _ (counted : not (eqb (length votes) (setting_in w).k) ≡ false) where
        pub poll_bad : has_refused_vote votes ≡ true → outcome (Err BadVote) w ≡ poll_call w name votes
        unfolding poll_call
        poll_bad v = rw (tested_known, found, waiting, counted, v)

        pub poll_taken : has_refused_vote votes ≡ false → outcome done (polled w i votes) ≡ poll_call w name votes
        unfolding poll_call
        poll_taken v = rw (tested_known, found, waiting, counted, v)
