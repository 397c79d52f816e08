-- Document 01, "Numbers a caller gets back": the number and the value of every answer, and what a call leaves.
use Rattle.std.specs.Prelude.{ℕ, Bool, true, false, List, ℤ, pos, Result, Ok, Err, ⊤}
use Rattle.terms.specs.declared.answer.Refusal.{Refusal}
use Rattle.terms.specs.declared.answer.Refusal.TheVariants.{
  WrongLength,
  DamagedHeader,
  BadSetting,
  NameTaken,
  BadSlot,
  BadParents,
  UnknownParent,
  ParentTwice,
  Full,
  UnknownName,
  NotWaiting,
  WrongVotes,
  BadVote,
  DamagedRecord,
  DamagedSlot,
  ShortBuffer,
  BadFile,
  WrongIndex,
  OtherMarks,
  IndexFull,
}

-- what a call answers: the value of a taken one, or why it is refused
abbrev pub Answer : Type 0
Answer = Result ℤ Refusal

-- what a test of lent memory tells: that nothing stops the call, or what does
abbrev pub Tested : Type 0
Tested = Result ⊤ Refusal

abbrev pub refusal_number : Refusal → ℕ
refusal_number WrongLength = 1
refusal_number DamagedHeader = 2
refusal_number BadSetting = 3
refusal_number NameTaken = 4
refusal_number BadSlot = 5
refusal_number BadParents = 6
refusal_number UnknownParent = 7
refusal_number ParentTwice = 8
refusal_number Full = 9
refusal_number UnknownName = 10
refusal_number NotWaiting = 11
refusal_number WrongVotes = 12
refusal_number BadVote = 13
refusal_number (DamagedRecord row) = 14
refusal_number (DamagedSlot row) = 15
refusal_number ShortBuffer = 16
refusal_number BadFile = 17
refusal_number WrongIndex = 18
refusal_number OtherMarks = 19
refusal_number IndexFull = 27

-- the lowest row that breaks a rule, where a record or a slot is damaged; 0 for every other refusal
abbrev pub refusal_row : Refusal → ℕ
refusal_row WrongLength = 0
refusal_row DamagedHeader = 0
refusal_row BadSetting = 0
refusal_row NameTaken = 0
refusal_row BadSlot = 0
refusal_row BadParents = 0
refusal_row UnknownParent = 0
refusal_row ParentTwice = 0
refusal_row Full = 0
refusal_row UnknownName = 0
refusal_row NotWaiting = 0
refusal_row WrongVotes = 0
refusal_row BadVote = 0
refusal_row (DamagedRecord row) = row
refusal_row (DamagedSlot row) = row
refusal_row ShortBuffer = 0
refusal_row BadFile = 0
refusal_row WrongIndex = 0
refusal_row OtherMarks = 0
refusal_row IndexFull = 0

-- a taken call returns 0 and its value, a refusal its number and its row
abbrev pub number : Answer → ℕ
number (Ok v) = 0
number (Err r) = refusal_number r

abbrev pub value : Answer → ℤ
value (Ok v) = v
value (Err r) = pos (refusal_row r)

-- its number is 0
abbrev pub is_taken : Answer → Bool
is_taken (Ok v) = true
is_taken (Err r) = false

-- open, book, poll, reading a file, and building and entering an index have value 0
abbrev pub done : Answer
done = Ok (pos 0)

-- what a call gives: its answer, and the words that it leaves; of a move, the bytes of its output
pub record Outcome : Type 0 where
  pub answer : Answer
  pub words : List ℕ

abbrev pub outcome : Answer → List ℕ → Outcome
outcome a w = record { answer = a; words = w }

-- a taken call leaves what it makes, and a refused one every word
abbrev pub leaves : Answer → (before after : List ℕ) → Outcome
leaves (Ok v) before after = outcome (Ok v) after
leaves (Err r) before after = outcome (Err r) before

-- what a call with a second lent buffer gives: its answer, and the words and the buffer that it leaves
pub record Handover : Type 0 where
  pub answer : Answer
  pub words : List ℕ
  pub lent : List ℕ

abbrev pub handover : Answer → (words lent : List ℕ) → Handover
handover a w b = record { answer = a; words = w; lent = b }

-- a taken call that hands something over leaves it in the buffer, and a refused one the buffer as it was; no such call changes a word
abbrev pub hands_over : Answer → (words before after : List ℕ) → Handover
hands_over (Ok v) words before after = handover (Ok v) words after
hands_over (Err r) words before after = handover (Err r) words before
