-- What the program keeps is known from one call to the next: only a taken opening changes it. On words that are all zero every call but open gives 2.
use Rattle.std.specs.Prelude.{Err}
use mathlib.Core.Path.{◌≡◌, refl, sym, ap, subst, ◌∙◌}
use mathlib.Core.Bool.{Bool, true, false, true≢false, false≢true}
use mathlib.Core.List.{List}
use Prim.Native.Nat.{ℕ}
use native.Mathlib.Omega.{arith}
use lib.ListN.{length, replicate, length-replicate}
use borrow.Author.Tests.{eq-eqb}
use Rattle.terms.specs.declared.setting.Setting.{Setting}
use Rattle.terms.specs.declared.answer.Refusal.TheVariants.{DamagedHeader, BadSetting}
use Rattle.terms.specs.Answers.{outcome, done, Answer}
use Rattle.rules.specs.Layout.{size}
use Rattle.terms.specs.Setting.{is_good}
use Rattle.rules.specs.IsSound.{header_good}
use Rattle.rules.specs.Open.{opened}
use Rattle.rules.specs.Sound.{Ledger}
use Rattle.rules.specs.Calls.{test_of, tested, open_call, book_call, poll_call}
use Rattle.rule_laws.proofs.Good.{is_good→Good}
use Rattle.rule_laws.proofs.Opened.{opened_ledger}
use Rattle.rule_laws.proofs.Tested.{stop_tested, stop_leaves, damage_header, test_long}
use Rattle.promises.specs.Run.{Book, Poll, outcome_of}
use Rattle.promises.specs.Soundness.{SoundKept}
use Rattle.promises.proofs.Kept.{sound_kept}
use Rattle.line_serve.specs.Serve.{Keeps}

pub known_ledger : (w : List ℕ) (known : Bool) → Keeps known w → known ≡ true → Ledger w
known_ledger w true k e = k
known_ledger w false k e = absurd (false≢true e)

known_zeros : (w : List ℕ) (known : Bool) → Keeps known w → known ≡ false → w ≡ replicate size 0
known_zeros w true k e = absurd (true≢false e)
known_zeros w false k e = k

-- ---- words that are all zero: n is 0, which breaks a header rule. So what is known of words is one Bool, and a contract that says it settles it

zeros_none : Ledger (replicate size 0) → ⊥
zeros_none ledger = omega (arith, ledger.sound.bookings_least)

pub keeps_one : (w : List ℕ) (a b : Bool) → Keeps a w → Keeps b w → a ≡ b
keeps_one w true true k l = refl
keeps_one w true false k l = absurd (zeros_none (subst Ledger l k))
keeps_one w false true k l = absurd (zeros_none (subst Ledger k l))
keeps_one w false false k l = refl

zeros_stop : test_of (replicate size 0) ≡ Err DamagedHeader
unfolding header_good
zeros_stop = test_long (replicate size 0) (length-replicate {A = ℕ} size 0) ∙ sym (damage_header (replicate size 0) refl)

pub unopened_stop : (w : List ℕ) (known : Bool) → Keeps known w → known ≡ false → test_of w ≡ Err DamagedHeader
unopened_stop w known k e = ap test_of (known_zeros w known k e) ∙ zeros_stop

module _ (w : List ℕ) (known : Bool) (k : Keeps known w) (f : known ≡ false) where
  pub unopened_tested : (rest : Answer) → tested test_of w rest ≡ Err DamagedHeader
  unopened_tested rest = stop_tested w DamagedHeader rest (unopened_stop w known k f)

  pub unopened_book : (name slot : ℕ) (parents : List ℕ) → book_call w name slot parents ≡ outcome (Err DamagedHeader) w
  unfolding book_call
  unopened_book name slot parents = stop_leaves w _ DamagedHeader _ (unopened_stop w known k f)

  pub unopened_poll : (name : ℕ) (votes : List ℕ) → poll_call w name votes ≡ outcome (Err DamagedHeader) w
  unfolding poll_call
  unopened_poll name votes = stop_leaves w _ DamagedHeader _ (unopened_stop w known k f)

-- ---- a booking and a poll change nothing about what the words are

pub book_keeps : (w : List ℕ) (known : Bool) → Keeps known w → (name slot : ℕ) (parents : List ℕ) → Keeps known (book_call w name slot parents).words
unfolding SoundKept outcome_of
book_keeps w true k name slot parents = sound_kept (Book name slot parents) w k
book_keeps w false k name slot parents = ap (λ o. o.words) (unopened_book w false k refl name slot parents) ∙ k

pub poll_keeps : (w : List ℕ) (known : Bool) → Keeps known w → (name : ℕ) (votes : List ℕ) → Keeps known (poll_call w name votes).words
unfolding SoundKept outcome_of
poll_keeps w true k name votes = sound_kept (Poll name votes) w k
poll_keeps w false k name votes = ap (λ o. o.words) (unopened_poll w false k refl name votes) ∙ k

-- ---- opening

module _ (w : List ℕ) (h : length w ≡ size) where
  pub open_good : (s : Setting) → is_good s ≡ true → open_call w s ≡ outcome done (opened s)
  unfolding open_call
  open_good s g = simp (eq-eqb (length w) size h, g)

  pub open_bad : (s : Setting) → is_good s ≡ false → open_call w s ≡ outcome (Err BadSetting) w
  unfolding open_call
  open_bad s g = simp (eq-eqb (length w) size h, g)

pub open_keeps : (s : Setting) → is_good s ≡ true → Ledger (opened s)
open_keeps s g = opened_ledger s (is_good→Good s g)
