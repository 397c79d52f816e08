-- Polls by each edition as people read them, and that the setting lasts.
use mathlib.Core.Path.{◌≡◌, refl, ap, ◌∙◌}
use mathlib.Core.Bool.{Bool, true, false}
use mathlib.Core.List.{List}
use mathlib.Core.Logic.{◌≢◌}
use Prim.Native.Nat.{ℕ}
use native.Mathlib.Omega.{arith}
use Rattle.terms.specs.Answers.{is_taken}
use Rattle.terms.specs.Editions.{restart}
use Rattle.terms.proofs.Editions.{restart_first, restart_later}
use Rattle.rules.specs.Layout.{entry, bookings, setting_in, last_field, counter_field, slot_of, last_in, counter_in}
use Rattle.rules.specs.Sound.{Ledger}
use Rattle.rules.specs.Book.{look_up, number_of}
use Rattle.rules.specs.Poll.{is_success, concluded, polled}
use Rattle.rules.specs.Calls.{book_call, poll_call}
use Rattle.rule_laws.proofs.Words.{setting_in_kept}
use Rattle.rule_laws.proofs.Marked.{entry_marked_kept}
use Rattle.promises.specs.Run.{Open, Book, Poll, Ask, WriteFile, ReadFile, IndexBuild, IndexEnter, IndexFind, outcome_of}
use Rattle.promises.specs.Editions.{SettingLasts, LastRestarts, FailureTold}
use Rattle.promises.proofs.Taken.{Pollable, open_kept, book_taken, book_kept, poll_taken, poll_kept, write_words, read_kept, build_words, enter_words}
use Rattle.promises.proofs.BookedWords.{setting_in_booked}
use Rattle.promises.proofs.Succeeded.{succeeded_changed}
use Rattle.promises.proofs.Failed.{entry_failed, counter_first, counter_member, counter_beside}
use Rattle.promises.proofs.Polled.{concluded_ledger, polled_Noted}

-- ---- a taken poll

module _ (w : List ℕ) (name : ℕ) (votes : List ℕ) (t : is_taken (poll_call w name votes).answer ≡ true) where
  abbrev polled_number : ℕ
  polled_number = number_of (look_up w name)

  abbrev taken : Ledger w × Pollable w polled_number × ((poll_call w name votes).words ≡ polled w polled_number votes)
  taken = poll_taken w name votes t

  -- marking leaves the slot entries of the outcome
  entry_outcome : (success : Bool) → is_success w votes ≡ success → (s f : ℕ)
      → entry (poll_call w name votes).words s f ≡ entry (concluded success w polled_number) s f
  unfolding polled
  entry_outcome success e s f =
      ap (λ v. entry v s f) taken.2
      ∙ entry_marked_kept (bookings (outcome (is_success w votes))) (outcome (is_success w votes)) s f
      (concluded_ledger w polled_number (is_success w votes) taken.0 taken.1).sound.bookings_most
      ∙ ap (λ b. entry (outcome b) s f) e
    where
      outcome : Bool → List ℕ
      outcome b = concluded b w polled_number

  restarts : (success : Bool) → is_success w votes ≡ success → (s : ℕ) → last_in (poll_call w name votes).words s ≢ last_in w s
      → counter_in (poll_call w name votes).words s ≡ restart (setting_in w).edition
  restarts true e s changed =
      entry_outcome true e s counter_field
      ∙ succeeded_changed w polled_number taken.0 taken.1.below s (λ q. changed (entry_outcome true e s last_field ∙ q))
  restarts false e s changed =
      absurd
      (changed
      (entry_outcome false e s last_field ∙ entry_failed w polled_number taken.0 taken.1.below s last_field (omega arith) (omega arith)))

  setting_polled : setting_in (poll_call w name votes).words ≡ setting_in w
  setting_polled =
      ap setting_in taken.2
      ∙ setting_in_kept w (polled w polled_number votes) (λ g l h d. (polled_Noted w polled_number votes taken.0 taken.1).head g (omega arith) d)

pub last_restarts : LastRestarts
unfolding LastRestarts
last_restarts w name votes t s u changed =
    let counter = restarts w name votes t (is_success w votes) refl s changed in
    record { first = λ q. counter ∙ ap restart q ∙ restart_first; later = λ q. counter ∙ ap restart q ∙ restart_later }

pub failure_told : FailureTold
unfolding FailureTold
failure_told w name votes t e =
    let i : ℕ = number_of (look_up w name) in
    let able = poll_taken w name votes t in
    let same = entry_outcome w name votes t false e in
    record {
      beside = λ s f u h d. same s f ∙ entry_failed w i able.0 able.1.below s f h d;
      kept = λ q s u. same s counter_field ∙ counter_first w i able.0 able.1.below q s;
      zero = λ q j r. same (slot_of w j) counter_field ∙ counter_member w i able.0 able.1.below q j r;
      others = λ q s u d. same s counter_field ∙ counter_beside w i able.0 able.1.below q s d;
    }

-- ---- the setting

setting_booked : (w : List ℕ) (name slot : ℕ) (parents : List ℕ) (taken : Bool) → is_taken (book_call w name slot parents).answer ≡ taken
    → setting_in (book_call w name slot parents).words ≡ setting_in w
setting_booked w name slot parents true t =
    let o = book_taken w name slot parents t in
    ap setting_in o.2 ∙ setting_in_booked w name slot parents
setting_booked w name slot parents false t = ap setting_in (book_kept w name slot parents t)

setting_poll : (w : List ℕ) (name : ℕ) (votes : List ℕ) (taken : Bool) → is_taken (poll_call w name votes).answer ≡ taken
    → setting_in (poll_call w name votes).words ≡ setting_in w
setting_poll w name votes true t = setting_polled w name votes t
setting_poll w name votes false t = ap setting_in (poll_kept w name votes t)

pub setting_lasts : SettingLasts
unfolding SettingLasts outcome_of
setting_lasts (Open s) w n = ap setting_in (open_kept w s n)
setting_lasts (Book name slot parents) w n = setting_booked w name slot parents (is_taken (book_call w name slot parents).answer) refl
setting_lasts (Poll name votes) w n = setting_poll w name votes (is_taken (poll_call w name votes).answer) refl
setting_lasts (Ask what name) w n = refl
setting_lasts (WriteFile form buffer) w n = ap setting_in (write_words form w buffer)
setting_lasts (ReadFile form file) w n = ap setting_in (read_kept form w file n)
setting_lasts (IndexBuild index) w n = ap setting_in (build_words w index)
setting_lasts (IndexEnter index) w n = ap setting_in (enter_words w index)
setting_lasts (IndexFind index name) w n = refl
