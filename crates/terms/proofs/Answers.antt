-- A call is taken exactly if its number is 0.
use Rattle.std.specs.Prelude.{Err, Ok}
use mathlib.Core.Path.{◌≡◌, refl}
use lib.Dec.{eqb}
use Rattle.terms.specs.declared.answer.Refusal.TheVariants.{
  WrongLength,
  DamagedHeader,
  BadSetting,
  NameTaken,
  BadSlot,
  BadParents,
  UnknownParent,
  ParentTwice,
  Full,
  UnknownName,
  NotWaiting,
  WrongVotes,
  BadVote,
  DamagedRecord,
  DamagedSlot,
  ShortBuffer,
  BadFile,
  WrongIndex,
  OtherMarks,
  IndexFull,
}
use Rattle.terms.specs.Answers.{number, is_taken, Answer}

pub taken_by_number : (a : Answer) → is_taken a ≡ eqb (number a) 0
taken_by_number (Ok v) = refl
taken_by_number (Err WrongLength) = refl
taken_by_number (Err DamagedHeader) = refl
taken_by_number (Err BadSetting) = refl
taken_by_number (Err NameTaken) = refl
taken_by_number (Err BadSlot) = refl
taken_by_number (Err BadParents) = refl
taken_by_number (Err UnknownParent) = refl
taken_by_number (Err ParentTwice) = refl
taken_by_number (Err Full) = refl
taken_by_number (Err UnknownName) = refl
taken_by_number (Err NotWaiting) = refl
taken_by_number (Err WrongVotes) = refl
taken_by_number (Err BadVote) = refl
taken_by_number (Err (DamagedRecord row)) = refl
taken_by_number (Err (DamagedSlot row)) = refl
taken_by_number (Err ShortBuffer) = refl
taken_by_number (Err BadFile) = refl
taken_by_number (Err WrongIndex) = refl
taken_by_number (Err OtherMarks) = refl
taken_by_number (Err IndexFull) = refl
