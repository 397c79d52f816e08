-- CR 6: by the built index a lookup equals the plain search, entering after a taken booking keeps it so; and what a lookup gives by any index.
use Rattle.std.specs.Prelude.{◌≡◌, Bool, false, cond, List, [], ◌∷◌, ℕ, ◌<◌, pos, length, set, Ok}
use Rattle.terms.specs.Answers.{number, is_taken, done, handover, Answer}
use Rattle.rules.specs.Layout.{bookings, name_of}
use Rattle.rules.specs.Sound.{Ledger}
use Rattle.rules.specs.Calls.{book_call, reading_call}
use Rattle.name_index.specs.Index.{cells, cell, home, tried, newest, built}
use Rattle.name_index.specs.AsRead.{NameMet, FirstEmpty}
use Rattle.name_index.specs.Calls.{index_build_call, index_enter_call, index_find_call}
use Rattle.promises.specs.Run.{Call, Open, Book, Poll, Ask, WriteFile, ReadFile, IndexBuild, IndexEnter, IndexFind, outcome_of, Station, run}
use Rattle.promises.specs.Acceptance.{renews, NoneRenews}

-- the plain search: the number of the booking with the name, refused as every reading is
abbrev pub plain_search : List ℕ → ℕ → Answer
plain_search = reading_call pos

-- by the built index a lookup equals the plain search, for every name and any words
unfoldable pub BuiltFinds : Type 0
BuiltFinds = (w : List ℕ) (name : ℕ) → index_find_call w (built w) name ≡ plain_search w name

-- in words: by the built index every booking is found by its name, with its number
unfoldable pub BuiltNumbers : Type 0
BuiltNumbers = (w : List ℕ) → Ledger w → (i : ℕ) → i < bookings w → index_find_call w (built w) (name_of w i) ≡ Ok (pos i)

-- by any index it is what probing finds: the number in the cell where the name is met
unfoldable pub ProbingFinds : Type 0
ProbingFinds =
    (w index : List ℕ) (name : ℕ) → Ledger w → length index ≡ cells → (m : NameMet w index name)
    → index_find_call w index name ≡ Ok (pos (cell index (tried (home name) m.others)))

-- so by any index a lookup that finds a number finds that of the plain search: it can miss, and never mislead
unfoldable pub FoundIsPlain : Type 0
FoundIsPlain = (w index : List ℕ) (name : ℕ) → number (index_find_call w index name) ≡ 0 → index_find_call w index name ≡ plain_search w name

-- a taken build leaves the built index, whatever stood there, and every word
unfoldable pub BuildMakes : Type 0
BuildMakes = (w index : List ℕ) → number (index_build_call w index).answer ≡ 0 → index_build_call w index ≡ handover done w (built w)

-- a taken entering writes n − 1 into the first empty cell from the home of the newest booking's name, and changes nothing else
pub record EntersFirst (w index left : List ℕ) : Type 0 where
  pub place : ℕ
  pub first : FirstEmpty index (home (name_of w (newest w))) place
  pub written : left ≡ set index place (newest w)

unfoldable pub EnterWrites : Type 0
EnterWrites =
    (w index : List ℕ) → number (index_enter_call w index).answer ≡ 0
    → EntersFirst w index (index_enter_call w index).lent × (index_enter_call w index ≡ handover done w (index_enter_call w index).lent)

-- entering after a taken booking gives the built index
unfoldable pub EnteredIsBuilt : Type 0
EnteredIsBuilt =
    (w : List ℕ) (name slot : ℕ) (parents : List ℕ) → number (book_call w name slot parents).answer ≡ 0
    → let v = (book_call w name slot parents).words in
    index_enter_call v (built w) ≡ handover done v (built v)

-- a call that makes no new ledger and adds no booking leaves the built index as it is: polls, readings, files that are written, refused calls
unfoldable pub BuiltLasts : Type 0
BuiltLasts =
    (c : Call) (w : List ℕ) → renews c w ≡ false → Ledger w → bookings (outcome_of c w).words ≡ bookings w
    → built (outcome_of c w).words ≡ built w

-- ---- a station that enters each booking when it is taken

-- the call adds a booking
abbrev pub adds : Call → List ℕ → Bool
adds (Open s) w = false
adds (Book name slot parents) w = is_taken (book_call w name slot parents).answer
adds (Poll name votes) w = false
adds (Ask what name) w = false
adds (WriteFile form buffer) w = false
adds (ReadFile form file) w = false
adds (IndexBuild index) w = false
adds (IndexEnter index) w = false
adds (IndexFind index name) w = false

-- its index after the calls
unfoldable pub kept_index : List Call → (w index : List ℕ) → List ℕ
kept_index [] w index = index
kept_index (c ∷ cs) w index =
    let v = (outcome_of c w).words in
    kept_index cs v (cond (adds c w) (index_enter_call v index).lent index)

-- an index that was built once is the built one after any such calls, as long as none of them makes a new ledger
unfoldable pub KeptIsBuilt : Type 0
KeptIsBuilt =
    (calls : List Call) (t : Station) → Ledger t.words → NoneRenews calls t.words
    → kept_index calls t.words (built t.words) ≡ built (run calls t).words
