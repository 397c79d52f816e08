-- A ledger stays a ledger.
use Rattle.std.specs.Prelude.{◌≡◌, true, ℕ, List}
use Rattle.terms.specs.Answers.{is_taken}
use Rattle.rules.specs.Sound.{Ledger}
use Rattle.promises.specs.Run.{Call, outcome_of, opens, Opening, after}

-- a taken opening, and a file that is read, leave a sound workspace, whatever was there before
unfoldable pub OpenedSound : Type 0
OpenedSound = (c : Call) (w : List ℕ) → opens c ≡ true → is_taken (outcome_of c w).answer ≡ true → Ledger (outcome_of c w).words

-- every call, taken or refused, leaves a sound workspace sound, whether or not a history reaches it
unfoldable pub SoundKept : Type 0
SoundKept = (c : Call) (w : List ℕ) → Ledger w → Ledger (outcome_of c w).words

-- so it is sound after every run
unfoldable pub RunSound : Type 0
RunSound = (o : Opening) (calls : List Call) → Ledger (after o calls).words
