-- No two bookings of a slot are accepted at the same moment. CR 5: an acceptance stays, and is earned by the words of the poll that marks it.
use Rattle.std.specs.Prelude.{◌≡◌, Bool, true, false, ◌&&◌, List, [], ◌∷◌, ℕ, ◌<◌, pos, Ok}
use Rattle.terms.specs.Answers.{is_taken}
use Rattle.rules.specs.Layout.{most_bookings, bookings, slot_of, name_of, mark_of}
use Rattle.rules.specs.Readings.{accepted_of}
use Rattle.rules.specs.Calls.{poll_call, accepted_call}
use Rattle.rules.specs.Sound.{Ledger}
use Rattle.rules.specs.AsRead.{Earned}
use Rattle.promises.specs.Run.{Call, Open, Book, Poll, Ask, WriteFile, ReadFile, IndexBuild, IndexEnter, IndexFind, outcome_of, opens, Station, run}

-- in every sound workspace two accepted bookings of one slot are the same booking
unfoldable pub AcceptedOnce : Type 0
AcceptedOnce =
    (w : List ℕ) → Ledger w → (i j : ℕ) → i < bookings w → j < bookings w → slot_of w i ≡ slot_of w j
    → accepted_of w i ≡ true → accepted_of w j ≡ true → i ≡ j

-- the same as callers see it: of two names in one slot at most one is answered with 1
unfoldable pub AcceptedCallOnce : Type 0
AcceptedCallOnce =
    (w : List ℕ) (i j : ℕ) → i < bookings w → j < bookings w → slot_of w i ≡ slot_of w j
    → accepted_call w (name_of w i) ≡ Ok (pos 1) → accepted_call w (name_of w j) ≡ Ok (pos 1) → i ≡ j

-- ---- an acceptance stays

-- the call makes a new ledger: it opens or reads, and is taken
abbrev pub renews : Call → List ℕ → Bool
renews c w = opens c && is_taken (outcome_of c w).answer

-- no call but a taken opening or reading takes an acceptance away, on any sound workspace
unfoldable pub AcceptedStays : Type 0
AcceptedStays =
    (c : Call) (w : List ℕ) → renews c w ≡ false → Ledger w → (i : ℕ) → i < bookings w
    → accepted_of w i ≡ true → accepted_of (outcome_of c w).words i ≡ true

-- none of the calls makes a new ledger, each on the words that the one before it left
unfoldable pub NoneRenews : List Call → List ℕ → Type 0
NoneRenews [] w = Unit
NoneRenews (c ∷ cs) w = (renews c w ≡ false) × NoneRenews cs (outcome_of c w).words

-- so over any run a name that was answered with 1 is answered with 1
unfoldable pub AcceptedCallStays : Type 0
AcceptedCallStays =
    (calls : List Call) (t : Station) (name : ℕ) → NoneRenews calls t.words
    → accepted_call t.words name ≡ Ok (pos 1) → accepted_call (run calls t).words name ≡ Ok (pos 1)

-- ---- an acceptance is earned

-- a taken poll marks only a booking that meets the rule after it, with the parents' marks for their acceptance, in a slot without another mark
unfoldable pub MarkEarned : Type 0
MarkEarned =
    (w : List ℕ) (name : ℕ) (votes : List ℕ) → is_taken (poll_call w name votes).answer ≡ true → (i : ℕ) → i < bookings w
    → accepted_of w i ≡ false → accepted_of (poll_call w name votes).words i ≡ true → Earned (poll_call w name votes).words i

-- and every such booking: after it nobody has earned a mark and has none
unfoldable pub EarnedMarked : Type 0
EarnedMarked =
    (w : List ℕ) (name : ℕ) (votes : List ℕ) → is_taken (poll_call w name votes).answer ≡ true → (i : ℕ) → i < bookings w
    → Earned (poll_call w name votes).words i → accepted_of (poll_call w name votes).words i ≡ true

abbrev pub is_poll : Call → Bool
is_poll (Open s) = false
is_poll (Book name slot parents) = false
is_poll (Poll name votes) = true
is_poll (Ask what name) = false
is_poll (WriteFile form buffer) = false
is_poll (ReadFile form file) = false
is_poll (IndexBuild index) = false
is_poll (IndexEnter index) = false
is_poll (IndexFind index name) = false

-- no call but a poll, and a taken opening or reading, changes a mark: a booking gives none and takes none
unfoldable pub OnlyPollsMark : Type 0
OnlyPollsMark =
    (c : Call) (w : List ℕ) → is_poll c ≡ false → renews c w ≡ false → (i : ℕ) → i < most_bookings
    → mark_of (outcome_of c w).words i ≡ mark_of w i
