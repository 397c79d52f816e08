-- Refused calls leave every word and have value 0 unless they name a row; a taken open, book or poll has value 0.
-- `leaves` hands the words before back in the one arm that a refusal takes, and `hands_over` the bytes, so each call cites one law. Assumes nothing.
use Rattle.std.specs.Prelude.{Err, None, Ok, Option, Some}
use mathlib.Core.Path.{◌≡◌, refl, sym, ap}
use mathlib.Core.Bool.{Bool, true, false, cond, true≢false}
use mathlib.Core.List.{List}
use mathlib.Core.Logic.{◌≢◌}
use Prim.Native.Nat.{ℕ, ◌≤◌}
use native.Mathlib.Omega.{arith}
use lib.IntN.{ℤ, pos}
use Rattle.terms.specs.declared.setting.Setting.{Setting}
use Rattle.terms.specs.declared.answer.Refusal.{Refusal}
use Rattle.terms.specs.declared.answer.Refusal.TheVariants.{
  WrongLength,
  DamagedHeader,
  BadSetting,
  NameTaken,
  BadSlot,
  BadParents,
  UnknownParent,
  ParentTwice,
  Full,
  UnknownName,
  NotWaiting,
  WrongVotes,
  BadVote,
  DamagedRecord,
  DamagedSlot,
  ShortBuffer,
  BadFile,
  WrongIndex,
  OtherMarks,
  IndexFull,
}
use Rattle.terms.specs.Answers.{refusal_number, refusal_row, number, value, is_taken, Outcome, leaves, hands_over, Answer, Tested}
use Rattle.rules.specs.Calls.{open_answer, open_call, test_of, unless_stopped, book_answer, book_call, poll_answer, poll_call, asked_of}

-- ---- the number tells a refusal from a taken call

-- a refusal's number is 1 to 27
pub refusal_number_within : (r : Refusal) → (1 ≤ refusal_number r) × (refusal_number r ≤ 27)
refusal_number_within WrongLength = omega arith
refusal_number_within DamagedHeader = omega arith
refusal_number_within BadSetting = omega arith
refusal_number_within NameTaken = omega arith
refusal_number_within BadSlot = omega arith
refusal_number_within BadParents = omega arith
refusal_number_within UnknownParent = omega arith
refusal_number_within ParentTwice = omega arith
refusal_number_within Full = omega arith
refusal_number_within UnknownName = omega arith
refusal_number_within NotWaiting = omega arith
refusal_number_within WrongVotes = omega arith
refusal_number_within BadVote = omega arith
refusal_number_within (DamagedRecord row) = omega arith
refusal_number_within (DamagedSlot row) = omega arith
refusal_number_within ShortBuffer = omega arith
refusal_number_within BadFile = omega arith
refusal_number_within WrongIndex = omega arith
refusal_number_within OtherMarks = omega arith
refusal_number_within IndexFull = omega arith

pub number_refused : (r : Refusal) → number (Err r) ≢ 0
number_refused r e = omega (arith, (refusal_number_within r).0)

-- a call is taken exactly if its number is 0
pub zero_taken : (r : Answer) → number r ≡ 0 → is_taken r ≡ true
zero_taken (Ok v) e = refl
zero_taken (Err r) e = absurd (number_refused r e)

pub taken_zero : (r : Answer) → is_taken r ≡ true → number r ≡ 0
taken_zero (Ok v) e = refl
taken_zero (Err r) e = absurd (true≢false (sym e))

-- a writing call gives its answer
pub leaves_answer : (a : Answer) (before after : List ℕ) → (leaves a before after).answer ≡ a
leaves_answer (Ok v) before after = refl
leaves_answer (Err r) before after = refl

-- and so does one that hands bytes over, which changes no word
pub hands_over_answer : (a : Answer) (words before after : List ℕ) → (hands_over a words before after).answer ≡ a
hands_over_answer (Ok v) words before after = refl
hands_over_answer (Err r) words before after = refl

pub hands_over_words : (a : Answer) (words before after : List ℕ) → (hands_over a words before after).words ≡ words
hands_over_words (Ok v) words before after = refl
hands_over_words (Err r) words before after = refl

-- ---- refused

-- only 14 and 15 name a row
row_other : (r : Refusal) → refusal_number r ≢ 14 → refusal_number r ≢ 15 → refusal_row r ≡ 0
row_other WrongLength h k = refl
row_other DamagedHeader h k = refl
row_other BadSetting h k = refl
row_other NameTaken h k = refl
row_other BadSlot h k = refl
row_other BadParents h k = refl
row_other UnknownParent h k = refl
row_other ParentTwice h k = refl
row_other Full h k = refl
row_other UnknownName h k = refl
row_other NotWaiting h k = refl
row_other WrongVotes h k = refl
row_other BadVote h k = refl
row_other (DamagedRecord row) h k = absurd (h refl)
row_other (DamagedSlot row) h k = absurd (k refl)
row_other ShortBuffer h k = refl
row_other BadFile h k = refl
row_other WrongIndex h k = refl
row_other OtherMarks h k = refl
row_other IndexFull h k = refl

-- the value of a refused call that names no row
abbrev pub Valueless : Answer → Type 0
Valueless a = number a ≢ 14 → number a ≢ 15 → value a ≡ pos 0

pub value_refused : (a : Answer) → number a ≢ 0 → Valueless a
value_refused (Ok v) h = absurd (h refl)
value_refused (Err r) h = λ k l. ap pos (row_other r k l)

-- what a refused writing call gives: every word stays, and the value is 0 unless the number is 14 or 15
pub record Unmoved (w : List ℕ) (o : Outcome) : Type 0 where
  pub words : o.words ≡ w
  pub value : Valueless o.answer

pub leaves_refused : (a : Answer) (before after : List ℕ) → number (leaves a before after).answer ≢ 0 → Unmoved before (leaves a before after)
leaves_refused (Ok v) before after h = absurd (h refl)
leaves_refused (Err r) before after h = record { words = refl; value = value_refused (Err r) h }

pub open_refused : (w : List ℕ) (s : Setting) → number (open_call w s).answer ≢ 0 → Unmoved w (open_call w s)
unfolding open_call
open_refused w s = leaves_refused (open_answer w s) w _

pub book_refused : (w : List ℕ) (name slot : ℕ) (parents : List ℕ) → number (book_call w name slot parents).answer ≢ 0 → Unmoved w (book_call w name slot parents)
unfolding book_call
book_refused w name slot parents = leaves_refused (book_answer test_of w name slot parents) w _

pub poll_refused : (w : List ℕ) (name : ℕ) (votes : List ℕ) → number (poll_call w name votes).answer ≢ 0 → Unmoved w (poll_call w name votes)
unfolding poll_call
poll_refused w name votes = leaves_refused (poll_answer test_of w name votes) w _

-- one that hands bytes over leaves every byte too
pub hands_over_refused : (a : Answer) (words before after : List ℕ) → number (hands_over a words before after).answer ≢ 0
    → (hands_over a words before after).lent ≡ before
hands_over_refused (Ok v) words before after h = absurd (h refl)
hands_over_refused (Err r) words before after h = refl

-- ---- a taken open, book or poll has value 0

value_cond : (t : Bool) (a b : Answer) → value (cond t a b) ≡ cond t (value a) (value b)
value_cond true a b = refl
value_cond false a b = refl

cond_same : (t : Bool) (x : ℤ) → cond t x x ≡ x
cond_same true x = refl
cond_same false x = refl

abbrev value_asked : Option ℕ → (ℕ → ℤ) → ℤ
value_asked (Some i) rest = rest i
value_asked None rest = pos 0

value_asked_lem : (f : Option ℕ) (rest : ℕ → Answer) → value (asked_of f rest) ≡ value_asked f (λ i. value (rest i))
value_asked_lem (Some i) rest = refl
value_asked_lem None rest = refl

asked_same : (f : Option ℕ) → value_asked f (λ i. pos 0) ≡ pos 0
asked_same (Some i) = refl
asked_same None = refl

-- what the test stops may name a row
taken_stopped : (t : Tested) (rest : Answer) → value rest ≡ pos 0 → number (unless_stopped t rest) ≡ 0 → value (unless_stopped t rest) ≡ pos 0
taken_stopped (Ok tt) rest e h = e
taken_stopped (Err r) rest e h = absurd (number_refused r h)

leaves_value : (a : Answer) (before after : List ℕ) → (number a ≡ 0 → value a ≡ pos 0) → number (leaves a before after).answer ≡ 0
    → value (leaves a before after).answer ≡ pos 0
leaves_value (Ok v) before after e = e
leaves_value (Err r) before after e = e

pub open_value : (w : List ℕ) (s : Setting) → number (open_call w s).answer ≡ 0 → value (open_call w s).answer ≡ pos 0
unfolding open_call
open_value w s = leaves_value (open_answer w s) w _ (λ h. simp (value_cond, cond_same))

pub book_value : (w : List ℕ) (name slot : ℕ) (parents : List ℕ) → number (book_call w name slot parents).answer ≡ 0
    → value (book_call w name slot parents).answer ≡ pos 0
unfolding book_call
book_value w name slot parents = leaves_value (book_answer test_of w name slot parents) w _ (taken_stopped (test_of w) _ (simp (value_cond, cond_same)))

pub poll_value : (w : List ℕ) (name : ℕ) (votes : List ℕ) → number (poll_call w name votes).answer ≡ 0 → value (poll_call w name votes).answer ≡ pos 0
unfolding poll_call
poll_value w name votes = leaves_value (poll_answer test_of w name votes) w _ (taken_stopped (test_of w) _ (simp (value_cond, value_asked_lem, cond_same, asked_same)))
