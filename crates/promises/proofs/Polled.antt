-- What a taken poll of booking i leaves of a ledger: a ledger, with n as before and p one more, whose bookings last and whose
-- preferred ones lead if they did. Each holds of the outcome, a success or a failure, and still once those who earned it are marked.
use mathlib.Core.Path.{◌≡◌, ◌∙◌}
use mathlib.Core.Bool.{Bool, true, false, cond}
use mathlib.Core.List.{List}
use Prim.Native.Nat.{ℕ, ◌+◌, ◌<◌, ◌≤◌}
use native.Mathlib.Omega.{arith}
use lib.Dec.{eqb}
use Rattle.loops.specs.Total.{bit}
use Rattle.rules.specs.Layout.{bookings, polls, slot_field, confidence_field, preferred_field, slot_of, confidence_of, preferred_in, most_bookings, mark_of}
use Rattle.rules.specs.Sound.{Ledger}
use Rattle.rules.specs.Ancestry.{ancestry, is_member}
use Rattle.rules.specs.Marks.{marked}
use Rattle.rules.specs.Poll.{is_success, failed, succeeded, concluded, polled_by, polled}
use Rattle.rule_laws.proofs.Slots.{booking_lt}
use Rattle.rule_laws.proofs.Marked.{header_marked_kept, field_marked_beside, entry_marked_kept}
use Rattle.rule_laws.proofs.MarkedSound.{Ledger_marked}
use Rattle.promises.specs.Lasting.{Grown}
use Rattle.promises.proofs.Taken.{Pollable, Led}
use Rattle.promises.proofs.Noted.{Noted, Noted_marked, Noted_bookings, Noted→Grown}
use Rattle.promises.proofs.PolledSound.{Gained, sound_noted}
use Rattle.promises.proofs.Succeeded.{succeeded_Noted, succeeded_Gained, succeeded_led, confidence_succeeded}
use Rattle.promises.proofs.Failed.{failed_Noted, failed_Gained, failed_led, confidence_failed}

-- ---- those who earned it are marked

pub confidence_marked : (v : List ℕ) (j : ℕ) → confidence_of (marked v) j ≡ confidence_of v j
confidence_marked v j = field_marked_beside (bookings v) v j confidence_field (omega arith) (omega arith)

marked_led : (v : List ℕ) → Ledger v → Led v → Led (marked v)
marked_led v ledger led k h =
    let here : k < bookings v = omega (arith, header_marked_kept (bookings v) v 0 (omega arith)) in
    rw (
      field_marked_beside (bookings v) v k slot_field (omega arith) (omega arith),
      entry_marked_kept (bookings v) v (slot_of v k) preferred_field ledger.sound.bookings_most,
      confidence_marked v k,
      confidence_marked v (preferred_in v (slot_of v k)),
    ) (led k here)

-- ---- by the outcome

module _ (w : List ℕ) (i : ℕ) (success : Bool) (ledger : Ledger w) (pollable : Pollable w i) where
  concluded_Noted : Noted w (concluded success w i) i (cond success 2 1)
  concluded_Noted =
      elim success as (λ b. Noted w (concluded b w i) i (cond b 2 1))
      [ true ↦ succeeded_Noted w i ledger pollable.below | false ↦ failed_Noted w i ledger pollable.below ]

  noted_ledger : (v : List ℕ) (state : ℕ) → 1 ≤ state → state ≤ 2 → Noted w v i state → Gained w v (bit (eqb state 2)) → Ledger v
  noted_ledger v state least most n gained = record {
    whole = n.long ∙ ledger.whole;
    sound = sound_noted w v i state ledger.sound pollable n least most gained;
  }

  -- the outcome changes no mark
  pub concluded_mark : (j : ℕ) → j < most_bookings → mark_of (concluded success w i) j ≡ mark_of w j
  concluded_mark =
      elim success as (λ b. (j : ℕ) → j < most_bookings → mark_of (concluded b w i) j ≡ mark_of w j)
      [ true ↦ (succeeded_Gained w i ledger pollable.below).mark | false ↦ (failed_Gained w i ledger pollable.below).mark ]

  -- before anybody is marked
  pub concluded_ledger : Ledger (concluded success w i)
  concluded_ledger =
      elim success as (λ b. Ledger (concluded b w i)) [
        | true ↦ noted_ledger (succeeded w i) 2 (omega arith) (omega arith) (succeeded_Noted w i ledger pollable.below) (succeeded_Gained w i ledger pollable.below)
        | false ↦ noted_ledger (failed w i) 1 (omega arith) (omega arith) (failed_Noted w i ledger pollable.below) (failed_Gained w i ledger pollable.below)
      ]

  concluded_led : Led w → Led (concluded success w i)
  concluded_led led =
      elim success as (λ b. Led (concluded b w i))
      [ true ↦ succeeded_led w i ledger pollable.below led | false ↦ failed_led w i ledger pollable.below led ]

  -- and after
  pub polled_by_Noted : Noted w (polled_by success w i) i (cond success 2 1)
  polled_by_Noted = Noted_marked (booking_lt w ledger.sound i pollable.below) concluded_Noted

  pub bookings_concluded : bookings (concluded success w i) ≡ bookings w
  bookings_concluded = Noted_bookings concluded_Noted

  pub polled_by_ledger : Ledger (polled_by success w i)
  polled_by_ledger = Ledger_marked (concluded success w i) concluded_ledger

  polled_by_led : Led w → Led (polled_by success w i)
  polled_by_led led = marked_led (concluded success w i) concluded_ledger (concluded_led led)

-- ---- by the votes

module _ (w : List ℕ) (i : ℕ) (votes : List ℕ) (ledger : Ledger w) (pollable : Pollable w i) where
  pub polled_Noted : Noted w (polled w i votes) i (cond (is_success w votes) 2 1)
  unfolding polled
  polled_Noted = polled_by_Noted w i (is_success w votes) ledger pollable

  pub bookings_polled : bookings (polled w i votes) ≡ bookings w
  bookings_polled = Noted_bookings polled_Noted

  pub polls_polled : polls (polled w i votes) ≡ polls w + 1
  polls_polled = polled_Noted.more

  pub polled_grown : Grown w (polled w i votes)
  polled_grown = Noted→Grown polled_Noted ledger.sound.bookings_most

  pub polled_led : Led w → Led (polled w i votes)
  unfolding polled
  polled_led = polled_by_led w i (is_success w votes) ledger pollable

  pub polled_ledger : Ledger (polled w i votes)
  unfolding polled
  polled_ledger = polled_by_ledger w i (is_success w votes) ledger pollable

  -- every member of the ancestry of a success gains one confidence, and nobody else
  pub confidence_success : is_success w votes ≡ true → (j : ℕ) → j < bookings w
      → confidence_of (polled w i votes) j ≡ confidence_of w j + bit (is_member (ancestry w i) j)
  unfolding polled
  confidence_success e j l = rw e (confidence_marked (succeeded w i) j ∙ confidence_succeeded w i j ledger l pollable.below)

  pub confidence_failure : is_success w votes ≡ false → (j : ℕ) → j < bookings w → confidence_of (polled w i votes) j ≡ confidence_of w j
  unfolding polled
  confidence_failure e j l = rw e (confidence_marked (failed w i) j ∙ confidence_failed w i j (booking_lt w ledger.sound j l))
