-- The promises said of the code: they follow from what the contracts of the public functions allow, and from nothing else.
use Rattle.std.specs.Prelude.{◌≡◌, true, false, List, ◌≢◌, ℕ, ◌<◌, ◌≤◌, ℤ, pos}
use Rattle.loops.specs.Total.{total}
use Rattle.terms.specs.declared.answer.Reading.TheVariants.{Accepted}
use Rattle.terms.specs.declared.form.Form.{Form}
use Rattle.terms.specs.Answers.{number, value, Answer}
use Rattle.rules.specs.Layout.{bookings, polls, slot_of, name_of, confidence_of, preferred_in}
use Rattle.rules.specs.Readings.{accepted_of}
use Rattle.rules.specs.Sound.{Ledger}
use Rattle.day_file.specs.Bytes.{file_of}
use Rattle.promises.specs.Run.{Call, Open, Book, Poll, Ask, WriteFile, ReadFile, IndexBuild, IndexEnter, IndexFind, outcome_of, opens, lent_by, lent_after, History, fresh, history_after}
use Rattle.promises.specs.Refusals.{OpenListed, BookListed, PollListed, ReadingListed, WriteFileListed, ReadFileListed, BuildListed, EnterListed, FindListed}
use Rattle.promises.specs.Damage.{NamesDamage}
use Rattle.promises.specs.DayFile.{Written}
use Rattle.promises.specs.NameIndex.{plain_search, adds}
use Rattle.promises.specs.Confidence.{Counted, sizes}
use Rattle.station.specs.Returned.{Handed}
use Rattle.code_promises.specs.Contract.{Contract, Unasked, Allowed}

-- all that a caller sees of a call: the words before it, the number and the value that it gave, the words after it, and the bytes or cells after it in
-- the buffer lent besides. What stood in that buffer is in the call, and a call that is lent none to write into leaves none
pub record Done : Type 0 where
  pub call : Call
  pub before : List ℕ
  pub number : ℕ
  pub value : ℤ
  pub after : List ℕ
  pub lent : List ℕ

-- a public function: its contract, and what a caller sees of each call that it allows
pub record Function : Type 4 where
  pub contract : Contract
  pub done : Allowed contract → Done

-- number and value say all that an answer does, so what returns an answer and what returns a number are spoken of alike
unfoldable pub AnswerTold : Type 0
AnswerTold = (r q : Answer) → number r ≡ number q → value r ≡ value q → r ≡ q

-- the number is that of the call's first listed case that applies, and 0 if none does
abbrev pub ListedFirst : Call → List ℕ → ℕ → Type 0
ListedFirst (Open s) w = OpenListed w s
ListedFirst (Book name slot parents) w = BookListed w name slot parents
ListedFirst (Poll name votes) w = PollListed w name votes
ListedFirst (Ask what name) w = ReadingListed w name
ListedFirst (WriteFile form buffer) w = WriteFileListed form w buffer
ListedFirst (ReadFile form file) w = ReadFileListed form w file
ListedFirst (IndexBuild index) w = BuildListed w index
ListedFirst (IndexEnter index) w = EnterListed w index
ListedFirst (IndexFind index name) w = FindListed w index name

-- demands 2 and 3 of words with their history
pub record Kept (w : List ℕ) (h : History) : Type 0 where
  pub ledger : Ledger w
  pub accepted_once : (i j : ℕ) → i < bookings w → j < bookings w → slot_of w i ≡ slot_of w j → accepted_of w i ≡ true → accepted_of w j ≡ true → i ≡ j
  pub confidence : (j : ℕ) → j < bookings w → Counted w j h.successes (confidence_of w j)
  pub sum : total (confidence_of w) (bookings w) ≡ sizes w h.successes
  pub preferred : (i : ℕ) → i < bookings w → confidence_of w i ≤ confidence_of w (preferred_in w (slot_of w i))
  pub polled : polls w ≡ h.taken

-- ---- the promises, of functions by their names. Which functions these are stands in proofs/Functions.antt
module _ {Name : Type 0} (function : Name → Function) where
  -- none of them needs a check first
  unfoldable pub NothingAsked : Type 0
  NothingAsked = (f : Name) → Unasked (function f).contract

  -- one of them may have made this call
  pub record Made (d : Done) : Type 0 where
    pub by : Name
    pub allowed : Allowed (function by).contract
    pub seen : (function by).done allowed ≡ d

  -- function f may make the call c on the words w
  pub record Makes (f : Name) (c : Call) (w : List ℕ) : Type 0 where
    pub allowed : Allowed (function f).contract
    pub asks : ((function f).done allowed).call ≡ c
    pub words : ((function f).done allowed).before ≡ w

  -- every call on any words may be made by the function that a face has for it, so the promises speak of something. The contracts are over
  -- all numbers, so also over those that a machine has
  unfoldable pub CodeCallable : (face : Call → Name) → Type 0
  CodeCallable face = (c : Call) (w : List ℕ) → Makes (face c) c w

  -- each call gives what the law says: number, value, words, and bytes or cells
  unfoldable pub CodeLawful : Type 0
  CodeLawful =
      (d : Done) → Made d
      → Handed (outcome_of d.call d.before) d.number d.value d.after × (d.lent ≡ lent_after d.call d.before)

  -- two outcomes of one call on the same words are equal
  unfoldable pub OutcomeUnique : Type 0
  OutcomeUnique =
      (d e : Done) → Made d → Made e → d.call ≡ e.call → d.before ≡ e.before → (d.number ≡ e.number) × (d.value ≡ e.value)
      × (d.after ≡ e.after) × (d.lent ≡ e.lent)

  -- each refusal comes exactly in its listed case, the first in the order
  unfoldable pub CodeListed : Type 0
  CodeListed = (d : Done) → Made d → ListedFirst d.call d.before d.number

  -- a refused call has changed no word, no byte and no cell, and its value is 0 unless its number is 14 or 15
  unfoldable pub CodeRefuses : Type 0
  CodeRefuses =
      (d : Done) → Made d → d.number ≢ 0 → (d.after ≡ d.before) × (d.number ≢ 14 → d.number ≢ 15 → d.value ≡ pos 0)
      × (d.lent ≡ lent_by d.call)

  -- with 14 and 15 the value is the lowest number of a record, or slot, that breaks a rule
  unfoldable pub CodeNamesDamage : Type 0
  CodeNamesDamage = (d : Done) → Made d → NamesDamage d.before d.number d.value

  -- a file that is written, in the form that was named, stands at the front of the buffer, the bytes past it stay, the value is its length, and no word changes
  unfoldable pub CodeWrites : Type 0
  CodeWrites =
      (d : Done) (form : Form) (buffer : List ℕ) → Made d → d.call ≡ WriteFile form buffer → d.number ≡ 0
      → Written (file_of form d.before) buffer d.value d.lent × (d.after ≡ d.before)

  -- a file that is read leaves a ledger whose file, in that form, it is, whatever the words were, and value 0
  unfoldable pub CodeReads : Type 0
  CodeReads =
      (d : Done) (form : Form) (file : List ℕ) → Made d → d.call ≡ ReadFile form file → d.number ≡ 0
      → Ledger d.after × (file_of form d.after ≡ file) × (d.value ≡ pos 0)

  -- by the index that a taken build left, a lookup on the same words gives what the plain search gives
  unfoldable pub CodeFinds : Type 0
  CodeFinds =
      (d e : Done) (index : List ℕ) (name : ℕ) → Made d → d.call ≡ IndexBuild index → d.number ≡ 0
      → Made e → e.call ≡ IndexFind d.lent name → e.before ≡ d.before
      → (e.number ≡ number (plain_search d.before name)) × (e.value ≡ value (plain_search d.before name))

  -- entering after a taken booking leaves the index that a taken build leaves then, if it was one that a taken build left before
  unfoldable pub CodeEnters : Type 0
  CodeEnters =
      (d b e a : Done) (index other parents : List ℕ) (name slot : ℕ)
      → Made d → d.call ≡ IndexBuild index → d.number ≡ 0
      → Made b → b.call ≡ Book name slot parents → b.before ≡ d.before → b.number ≡ 0
      → Made e → e.call ≡ IndexEnter d.lent → e.before ≡ b.after
      → Made a → a.call ≡ IndexBuild other → a.before ≡ b.after → a.number ≡ 0
      → (e.number ≡ 0) × (e.value ≡ pos 0) × (e.after ≡ e.before) × (e.lent ≡ a.lent)

  -- any call but a taken booking, opening or reading leaves the index that a taken build left as good as one that is built after it
  unfoldable pub CodeLasts : Type 0
  CodeLasts =
      (d c a : Done) (index other : List ℕ)
      → Made d → d.call ≡ IndexBuild index → d.number ≡ 0
      → Made c → c.before ≡ d.before → adds c.call c.before ≡ false → (opens c.call ≡ true → c.number ≢ 0)
      → Made a → a.call ≡ IndexBuild other → a.before ≡ c.after → a.number ≡ 0
      → a.lent ≡ d.lent

  -- by any index a lookup that is taken gives what the plain search gives
  unfoldable pub CodeNeverMisleads : Type 0
  CodeNeverMisleads =
      (e : Done) (index : List ℕ) (name : ℕ) → Made e → e.call ≡ IndexFind index name → e.number ≡ 0
      → (number (plain_search e.before name) ≡ 0) × (e.value ≡ value (plain_search e.before name))

  -- a taken answer of 1 to the question whether booking i of the words w is accepted
  pub record Accepts (w : List ℕ) (i : ℕ) : Type 0 where
    pub done : Done
    pub made : Made done
    pub asks : done.call ≡ Ask Accepted (name_of w i)
    pub words : done.before ≡ w
    pub taken : done.number ≡ 0
    pub one : done.value ≡ pos 1

  -- of two names in one slot at most one is answered so
  unfoldable pub CodeAcceptsOnce : Type 0
  CodeAcceptsOnce = (w : List ℕ) (i j : ℕ) → i < bookings w → j < bookings w → slot_of w i ≡ slot_of w j → Accepts w i → Accepts w j → i ≡ j

  -- words that any calls lead to from the words w, no opening or reading that is taken among them
  pub data Followed (w : List ℕ) : List ℕ → Type 0 where
    nothing : Followed w w
    another : (d : Done) → Made d → (opens d.call ≡ true → d.number ≢ 0) → Followed w d.before → Followed w d.after

  -- there a name that was answered with 1 is answered with 1
  unfoldable pub CodeAcceptsStays : Type 0
  CodeAcceptsStays =
      (w u : List ℕ) (i : ℕ) → Accepts w i → Followed w u → (d : Done) → Made d → d.call ≡ Ask Accepted (name_of w i) → d.before ≡ u
      → (d.number ≡ 0) × (d.value ≡ pos 1)

  -- words that any calls leave after a taken opening or a file that was read, with the history of their polls
  pub data Ran : List ℕ → History → Type 0 where
    opened : (d : Done) → Made d → opens d.call ≡ true → d.number ≡ 0 → Ran d.after (history_after d.call d.before fresh)
    called : (d : Done) {h : History} → Made d → Ran d.before h → Ran d.after (history_after d.call d.before h)

  -- all such words have what demands 2 and 3 ask for
  unfoldable pub CodeKeeps : Type 0
  CodeKeeps = (w : List ℕ) (h : History) → Ran w h → Kept w h
