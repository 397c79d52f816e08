-- An acceptance stays, and is earned: every call but a poll leaves the marks as they are, or makes a new ledger; a poll's outcome changes none, and then
-- the pass over the marks takes none away and gives those that are earned. Assumes nothing.
use Rattle.std.specs.Prelude.{Ok, Some}
use mathlib.Core.Path.{◌≡◌, refl, sym, ap, subst, ◌∙◌}
use mathlib.Core.Bool.{Bool, true, false, true≢false}
use mathlib.Core.List.{List, [], ◌∷◌}
use mathlib.Core.Logic.{◌≢◌}
use Prim.Native.Nat.{ℕ, ◌<◌}
use native.Mathlib.Omega.{arith}
use lib.IntN.{pos, nat_abs}
use borrow.Author.Tests.{eq-eqb, eqb-true, eqb-false}
use Rattle.loops.specs.Total.{bit}
use Rattle.terms.specs.Answers.{is_taken}
use Rattle.rules.specs.Layout.{most_bookings, bookings, name_of, mark_of}
use Rattle.rules.specs.Readings.{accepted_of}
use Rattle.rules.specs.Sound.{Ledger}
use Rattle.rules.specs.AsRead.{Earned}
use Rattle.rules.specs.Book.{look_up, number_of}
use Rattle.rules.specs.Marks.{marked}
use Rattle.rules.specs.Poll.{is_success, concluded, polled}
use Rattle.rules.specs.Calls.{book_call, poll_call, accepted_call}
use Rattle.rule_laws.proofs.Lookup.{found_below_lem, found_name, found_is}
use Rattle.rule_laws.proofs.Slots.{booking_lt}
use Rattle.rule_laws.proofs.Tested.{reading_found}
use Rattle.rule_laws.proofs.MarkedEarned.{mark_stays, marked→Earned, Earned→marked}
use Rattle.promises.specs.Run.{Call, Open, Book, Poll, Ask, WriteFile, ReadFile, IndexBuild, IndexEnter, IndexFind, outcome_of, step, run}
use Rattle.promises.specs.Acceptance.{renews, AcceptedStays, NoneRenews, AcceptedCallStays, MarkEarned, EarnedMarked, OnlyPollsMark}
use Rattle.promises.proofs.Taken.{Pollable, open_kept, book_taken, book_kept, poll_taken, poll_kept, write_words, read_kept, build_words, enter_words, reading_taken}
use Rattle.promises.proofs.BookedRecords.{mark_of_booked}
use Rattle.promises.proofs.Polled.{bookings_concluded, concluded_mark, concluded_ledger}
use Rattle.promises.proofs.Kept.{call_kept}
use Rattle.promises.proofs.Acceptance.{bit_one}

-- ---- a taken poll

module _ (w : List ℕ) (name : ℕ) (votes : List ℕ) (t : is_taken (poll_call w name votes).answer ≡ true) where
  abbrev taken : Ledger w × Pollable w (number_of (look_up w name)) × ((poll_call w name votes).words ≡ polled w (number_of (look_up w name)) votes)
  taken = poll_taken w name votes t

  -- the words of its outcome, before anybody is marked
  abbrev outcome : List ℕ
  outcome = concluded (is_success w votes) w (number_of (look_up w name))

  outcome_ledger : Ledger outcome
  outcome_ledger = concluded_ledger w (number_of (look_up w name)) (is_success w votes) taken.0 taken.1

  outcome_bookings : bookings outcome ≡ bookings w
  outcome_bookings = bookings_concluded w (number_of (look_up w name)) (is_success w votes) taken.0 taken.1

  outcome_mark : (j : ℕ) → j < bookings w → mark_of outcome j ≡ mark_of w j
  outcome_mark j u =
      concluded_mark w (number_of (look_up w name)) (is_success w votes) taken.0 taken.1 j (booking_lt w taken.0.sound j u)

  then_marked : (poll_call w name votes).words ≡ marked outcome
  unfolding polled
  then_marked = taken.2

  poll_stays : (j : ℕ) → j < bookings w → mark_of w j ≡ 1 → mark_of (poll_call w name votes).words j ≡ 1
  poll_stays j u m = ap (λ v. mark_of v j) then_marked ∙ mark_stays outcome outcome_ledger j (outcome_mark j u ∙ m)

  poll_earned : (j : ℕ) → j < bookings w → mark_of w j ≢ 1 → mark_of (poll_call w name votes).words j ≡ 1 → Earned (poll_call w name votes).words j
  poll_earned j u new now =
      subst (λ v. Earned v j) (sym then_marked)
      (marked→Earned outcome outcome_ledger j (omega (arith, outcome_bookings)) (λ m. new (sym (outcome_mark j u) ∙ m))
      (ap (λ v. mark_of v j) (sym then_marked) ∙ now))

  poll_marks : (j : ℕ) → j < bookings w → Earned (poll_call w name votes).words j → mark_of (poll_call w name votes).words j ≡ 1
  poll_marks j u earned =
      ap (λ v. mark_of v j) then_marked
      ∙ Earned→marked outcome outcome_ledger j (omega (arith, outcome_bookings)) (subst (λ v. Earned v j) then_marked earned)

pub mark_earned : MarkEarned
unfolding MarkEarned
mark_earned w name votes t i u new now =
    poll_earned w name votes t i u (eqb-false (mark_of w i) 1 new) (eqb-true (mark_of (poll_call w name votes).words i) 1 now)

pub earned_marked : EarnedMarked
unfolding EarnedMarked
earned_marked w name votes t i u earned = eq-eqb _ 1 (poll_marks w name votes t i u earned)

-- ---- every other call

booking_marks : (w : List ℕ) (name slot : ℕ) (parents : List ℕ) (b : Bool) → is_taken (book_call w name slot parents).answer ≡ b → (i : ℕ) → i < most_bookings
    → mark_of (book_call w name slot parents).words i ≡ mark_of w i
booking_marks w name slot parents true t i u =
    let o = book_taken w name slot parents t in
    ap (λ v. mark_of v i) o.2 ∙ mark_of_booked w name slot parents o.0 o.1 i u
booking_marks w name slot parents false t i u = ap (λ v. mark_of v i) (book_kept w name slot parents t)

pub only_polls_mark : OnlyPollsMark
unfolding OnlyPollsMark outcome_of
only_polls_mark (Open s) w p n i u = ap (λ v. mark_of v i) (open_kept w s n)
only_polls_mark (Book name slot parents) w p n i u = booking_marks w name slot parents (is_taken (book_call w name slot parents).answer) refl i u
only_polls_mark (Poll name votes) w p n i u = absurd (true≢false p)
only_polls_mark (Ask what name) w p n i u = refl
only_polls_mark (WriteFile form buffer) w p n i u = ap (λ v. mark_of v i) (write_words form w buffer)
only_polls_mark (ReadFile form file) w p n i u = ap (λ v. mark_of v i) (read_kept form w file n)
only_polls_mark (IndexBuild index) w p n i u = ap (λ v. mark_of v i) (build_words w index)
only_polls_mark (IndexEnter index) w p n i u = ap (λ v. mark_of v i) (enter_words w index)
only_polls_mark (IndexFind index name) w p n i u = refl

-- ---- an acceptance stays

polling_stays : (w : List ℕ) (name : ℕ) (votes : List ℕ) (b : Bool) → is_taken (poll_call w name votes).answer ≡ b → (i : ℕ) → i < bookings w
    → mark_of w i ≡ 1 → mark_of (poll_call w name votes).words i ≡ 1
polling_stays w name votes true t i u m = poll_stays w name votes t i u m
polling_stays w name votes false t i u m = ap (λ v. mark_of v i) (poll_kept w name votes t) ∙ m

mark_kept : (c : Call) (w : List ℕ) → renews c w ≡ false → Ledger w → (i : ℕ) → i < bookings w → mark_of w i ≡ 1 → mark_of (outcome_of c w).words i ≡ 1
unfolding OnlyPollsMark outcome_of
mark_kept (Open s) w n l i u m = only_polls_mark (Open s) w refl n i (booking_lt w l.sound i u) ∙ m
mark_kept (Book name slot parents) w n l i u m = only_polls_mark (Book name slot parents) w refl n i (booking_lt w l.sound i u) ∙ m
mark_kept (Poll name votes) w n l i u m = polling_stays w name votes (is_taken (poll_call w name votes).answer) refl i u m
mark_kept (Ask what name) w n l i u m = m
mark_kept (WriteFile form buffer) w n l i u m = only_polls_mark (WriteFile form buffer) w refl n i (booking_lt w l.sound i u) ∙ m
mark_kept (ReadFile form file) w n l i u m = only_polls_mark (ReadFile form file) w refl n i (booking_lt w l.sound i u) ∙ m
mark_kept (IndexBuild index) w n l i u m = only_polls_mark (IndexBuild index) w refl n i (booking_lt w l.sound i u) ∙ m
mark_kept (IndexEnter index) w n l i u m = only_polls_mark (IndexEnter index) w refl n i (booking_lt w l.sound i u) ∙ m
mark_kept (IndexFind index name) w n l i u m = m

pub accepted_stays : AcceptedStays
unfolding AcceptedStays
accepted_stays c w n l i u a = eq-eqb _ 1 (mark_kept c w n l i u (eqb-true (mark_of w i) 1 a))

-- by name: it is found at the same number, since bookings last
call_stays : (c : Call) (w : List ℕ) (name : ℕ) → renews c w ≡ false → accepted_call w name ≡ Ok (pos 1) → accepted_call (outcome_of c w).words name ≡ Ok (pos 1)
unfolding AcceptedStays
call_stays c w name n e =
    let asked = reading_taken (λ k. pos (bit (accepted_of w k))) w name (pos 1) e in
    let i : ℕ = number_of (look_up w name) in
    let below : i < bookings w = found_below_lem w name i asked.1 in
    let kept = call_kept c w n asked.0 in
    let u : List ℕ = (outcome_of c w).words in
    let named : name_of u i ≡ name = kept.grown.name i below ∙ found_name w name i asked.1 in
    let found : look_up u name ≡ Some i = ap (look_up u) (sym named) ∙ found_is u kept.ledger.sound i (omega (arith, kept.grown.more)) in
    let accepted = accepted_stays c w n asked.0 i below (bit_one (accepted_of w i) (ap nat_abs asked.2)) in
    reading_found (λ k. pos (bit (accepted_of u k))) u name kept.ledger i found ∙ ap (λ b. Ok (pos (bit b))) accepted

pub accepted_call_stays : AcceptedCallStays
unfolding AcceptedCallStays NoneRenews run
accepted_call_stays [] t name none e = e
accepted_call_stays (c ∷ calls) t name none e = accepted_call_stays calls (step c t) name none.1 (call_stays c t.words name none.0 e)
