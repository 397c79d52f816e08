-- Number and value say all that an answer does: each refusal is found again by them. Assumes nothing.
use Rattle.std.specs.Prelude.{Err, Ok}
use mathlib.Core.Path.{◌≡◌, refl, sym, ap, ap₂, ◌∙◌}
use mathlib.Core.List.{List, [], ◌∷◌, ◌++◌}
use Prim.Native.Nat.{ℕ}
use lib.IntN.{ℤ, nat_abs}
use lib.ListN.{get_or, replicate}
use Rattle.terms.specs.declared.answer.Refusal.{Refusal}
use Rattle.terms.specs.declared.answer.Refusal.TheVariants.{
  WrongLength,
  DamagedHeader,
  BadSetting,
  NameTaken,
  BadSlot,
  BadParents,
  UnknownParent,
  ParentTwice,
  Full,
  UnknownName,
  NotWaiting,
  WrongVotes,
  BadVote,
  DamagedRecord,
  DamagedSlot,
  ShortBuffer,
  BadFile,
  WrongIndex,
  OtherMarks,
  IndexFull,
}
use Rattle.terms.specs.Answers.{number, value}
use Rattle.rule_laws.proofs.Calls.{number_refused}
use Rattle.code_promises.specs.OfCode.{AnswerTold}

-- the refusals in the order of their numbers, those that name a row with this one; 0 and 20 to 26 are none's
abbrev refusals : ℕ → List Refusal
refusals row =
    WrongLength
    ∷ WrongLength
    ∷ DamagedHeader
    ∷ BadSetting
    ∷ NameTaken
    ∷ BadSlot
    ∷ BadParents
    ∷ UnknownParent
    ∷ ParentTwice
    ∷ Full
    ∷ UnknownName
    ∷ NotWaiting
    ∷ WrongVotes
    ∷ BadVote
    ∷ DamagedRecord row
    ∷ DamagedSlot row
    ∷ ShortBuffer
    ∷ BadFile
    ∷ WrongIndex
    ∷ OtherMarks
    ∷ replicate 7 WrongLength ++ IndexFull
    ∷ []

abbrev refusal_at : ℕ → ℤ → Refusal
refusal_at n v = get_or (refusals (nat_abs v)) n WrongLength

found_again : (r : Refusal) → refusal_at (number (Err r)) (value (Err r)) ≡ r
found_again WrongLength = refl
found_again DamagedHeader = refl
found_again BadSetting = refl
found_again NameTaken = refl
found_again BadSlot = refl
found_again BadParents = refl
found_again UnknownParent = refl
found_again ParentTwice = refl
found_again Full = refl
found_again UnknownName = refl
found_again NotWaiting = refl
found_again WrongVotes = refl
found_again BadVote = refl
found_again (DamagedRecord row) = refl
found_again (DamagedSlot row) = refl
found_again ShortBuffer = refl
found_again BadFile = refl
found_again WrongIndex = refl
found_again OtherMarks = refl
found_again IndexFull = refl

pub answer_told : AnswerTold
unfolding AnswerTold
answer_told (Ok v) (Ok x) n e = ap Ok e
answer_told (Ok v) (Err q) n e = absurd (number_refused q (sym n))
answer_told (Err r) (Ok x) n e = absurd (number_refused r n)
answer_told (Err r) (Err q) n e = ap Err (sym (found_again r) ∙ ap₂ refusal_at n e ∙ found_again q)
