-- A day's replay is taken exactly if the day keeps its rules. Taken, its words hold the day, and the day of a ledger keeps them; and where they are kept each
-- call in turn finds its tests passed, by the day that the words hold so far. Assumes nothing.
use Rattle.std.specs.Prelude.{None, Some}
use mathlib.Core.Path.{◌≡◌, refl, sym, ap, ◌∙◌}
use mathlib.Core.Bool.{Bool, true, false}
use mathlib.Core.List.{List, []}
use mathlib.Core.Logic.{◌≢◌}
use Prim.Native.Nat.{ℕ, zero, suc, ◌+◌, ◌-◌, ◌<◌, ◌≤◌}
use native.Mathlib.Nat.{zero-add}
use native.Mathlib.Decide.{ℕ_discrete}
use native.Mathlib.Omega.{arith}
use lib.ListN.{length, get_or, take, replicate, length-replicate, get_or-replicate}
use lib.Seq.{get_or-take, length-take-le}
use lib.Dec.{eqb, ltb}
use borrow.Author.Tests.{ltb-true, leb-true, eqb-false, lt-ltb, eq-eqb, ne_eqb, not-true}
use Rattle.loops.specs.Search.{all, any}
use Rattle.loops.specs.Total.{bit}
use Rattle.loops.proofs.Search.{all→, none→, →none}
use Rattle.loops.proofs.Bools.{row_at}
use Rattle.loops.proofs.Fill.{length_from, get_d_from}
use Rattle.terms.specs.declared.setting.Setting.{Setting}
use Rattle.terms.specs.Answers.{is_taken, done}
use Rattle.terms.specs.Setting.{is_good}
use Rattle.terms.specs.Votes.{vote_of, is_refused}
use Rattle.rules.specs.Layout.{size, most_bookings, bookings, setting_in, name_of, state_of, ordinal_of, polls}
use Rattle.rules.specs.Sound.{Ledger}
use Rattle.rules.specs.Open.{opened}
use Rattle.rules.specs.Book.{look_up, is_found, is_absent, number_of, parent_found, has_unknown, has_twice, booked}
use Rattle.rules.specs.Poll.{has_refused_vote, polled}
use Rattle.rules.specs.Calls.{is_bad_slot, is_bad_count, test_of, open_answer, open_call, book_answer, poll_answer}
use Rattle.rule_laws.proofs.Calls.{leaves_answer}
use Rattle.rule_laws.proofs.Tested.{ledger_fine}
use Rattle.rule_laws.proofs.Lookup.{is_named, found_is}
use Rattle.day_file.specs.Day.{DayBooking, DayPoll, Day, holder, day_of, booking_in, name_in, poll_in, polled_in}
use Rattle.day_file.specs.Replay.{are_booked, in_order, names_of, votes_for, rebook_by, repoll_by, replay}
use Rattle.day_file.specs.InTurn.{rebooked, repolled}
use Rattle.day_file.specs.DayRules.{booking_passes, poll_passes, day_good}
use Rattle.day_file.proofs.Holders.{holder_alone}
use Rattle.promises.proofs.Rebooked.{number_below, number_found}
use Rattle.promises.proofs.DayRows.{bookings_told, name_told, polls_told, poll_told}
use Rattle.promises.proofs.Stages.{rebooked_more, rebooked_holds, repolled_start, repolled_more, repolled_end, repolled_holds, replay_ledger, replayed_day}
use Rattle.promises.proofs.DayGood.{booking_tests, poll_tests, day_tests, held_good}

-- ---- calls that no refusal stops

pub open_takes : (w : List ℕ) (s : Setting) → length w ≡ size → is_good s ≡ true → is_taken (open_call w s).answer ≡ true
unfolding open_call
open_takes w s long good = rw (leaves_answer (open_answer w s) w (opened s), eq-eqb (length w) size long, good)

book_takes : (w : List ℕ) (name slot : ℕ) (parents : List ℕ) → Ledger w → is_found (look_up w name) ≡ false → is_bad_slot slot ≡ false
    → is_bad_count (length parents) ≡ false → has_unknown w parents ≡ false → has_twice parents ≡ false → eqb (bookings w) most_bookings ≡ false
    → book_answer test_of w name slot parents ≡ done
book_takes w name slot parents ledger fresh in_range some known once room = rw (ledger_fine w ledger, fresh, in_range, some, known, once, room)

poll_takes : (w : List ℕ) (name : ℕ) (votes : List ℕ) (i : ℕ) → Ledger w → look_up w name ≡ Some i → state_of w i ≡ 0
    → length votes ≡ (setting_in w).k → has_refused_vote votes ≡ false → poll_answer test_of w name votes ≡ done
poll_takes w name votes i ledger found waiting counted cast =
    rw (ledger_fine w ledger, found, waiting, eq-eqb (length votes) (setting_in w).k counted, cast)

-- ---- a booking of the day

module _ (w : List ℕ) (ledger : Ledger w) where
  -- a name that no booking has
  name_absent : (name : ℕ) → ((i : ℕ) → i < bookings w → name_of w i ≢ name) → look_up w name ≡ None
  unfolding look_up
  name_absent name fresh = rw (→none (is_named w name) (bookings w) (λ i h. ne_eqb (name_of w i) name (fresh i h)))

  module _ (numbers : List ℕ) (known : are_booked w numbers ≡ true) where
    names_known : has_unknown w (names_of w numbers) ≡ false
    unfolding has_unknown
    names_known =
        →none (λ a. is_absent (parent_found w (names_of w numbers) a)) (length (names_of w numbers)) (λ a h.
        ap is_absent (number_found w ledger.sound numbers known a (omega (arith, length_from (λ a. name_of w (get_or numbers a 0)) 0 (length numbers)))))

    -- numbers that differ have names that differ
    names_once : has_twice numbers ≡ false → has_twice (names_of w numbers) ≡ false
    unfolding has_twice
    names_once once =
        let long : length (names_of w numbers) ≡ length numbers = length_from (λ a. name_of w (get_or numbers a 0)) 0 (length numbers) in
        let named : (a : ℕ) → a < length numbers → get_or (names_of w numbers) a 0 ≡ name_of w (get_or numbers a 0)
        = λ a u. rw zero-add at (get_d_from (λ a. name_of w (get_or numbers a 0)) 0 (length numbers) a u) in
        →none (λ a. any (λ c. eqb (get_or (names_of w numbers) c 0) (get_or (names_of w numbers) a 0)) a) (length (names_of w numbers)) (λ a h.
        →none (λ c. eqb (get_or (names_of w numbers) c 0) (get_or (names_of w numbers) a 0)) a (λ c l.
        let u : a < length numbers = omega arith in
        let v : c < length numbers = omega arith in
        let differ : get_or numbers c 0 ≢ get_or numbers a 0 =
        eqb-false _ _ (none→ (λ c. eqb (get_or numbers c 0) (get_or numbers a 0)) a
        (none→ (λ a. any (λ c. eqb (get_or numbers c 0) (get_or numbers a 0)) a) (length numbers) once a u) c l) in
        ne_eqb (get_or (names_of w numbers) c 0) (get_or (names_of w numbers) a 0) (λ q.
        ledger.sound.name_alone (get_or numbers c 0) (get_or numbers a 0)
        (number_below w ledger.sound numbers known c v) (number_below w ledger.sound numbers known a u) differ
        (sym (named c v) ∙ q ∙ named a u))))

  pub rebook_takes : (b : DayBooking) → ((i : ℕ) → i < bookings w → name_of w i ≢ b.name) → is_bad_slot b.slot ≡ false
      → is_bad_count (length b.parents) ≡ false → are_booked w b.parents ≡ true → has_twice b.parents ≡ false → bookings w < most_bookings
      → is_taken (rebook_by test_of b w).answer ≡ true
  rebook_takes b fresh in_range some known once room =
      let long : length (names_of w b.parents) ≡ length b.parents = length_from (λ a. name_of w (get_or b.parents a 0)) 0 (length b.parents) in
      let answer =
      book_takes w b.name b.slot (names_of w b.parents) ledger (ap is_found (name_absent b.name fresh)) in_range (ap is_bad_count long ∙ some)
      (names_known b.parents known) (names_once b.parents known once) (ne_eqb (bookings w) most_bookings (λ z. omega arith)) in
      rw (known, leaves_answer (book_answer test_of w b.name b.slot (names_of w b.parents)) w (booked w b.name b.slot (names_of w b.parents)), answer)

  -- ---- a poll of the day

  -- neither kind of vote is refused
  votes_cast : (success : Bool) → has_refused_vote (votes_for w success) ≡ false
  unfolding vote_of
  votes_cast success =
      →none (λ j. is_refused (vote_of (get_or (votes_for w success) j 0))) (length (votes_for w success)) (λ j h.
      ap (λ v. is_refused (vote_of v)) (get_or-replicate (setting_in w).k j (bit success) 0 (omega (arith, length-replicate (setting_in w).k (bit success))))
      ∙ fine success)
    where
      fine : (t : Bool) → is_refused (vote_of (bit t)) ≡ false
      fine true = refl
      fine false = refl

  pub repoll_takes : (q : DayPoll) → q.booking < bookings w → state_of w q.booking ≡ 0 → is_taken (repoll_by test_of q w).answer ≡ true
  repoll_takes q below waiting =
      let answer =
      poll_takes w (name_of w q.booking) (votes_for w q.success) q.booking ledger (found_is w ledger.sound q.booking below) waiting
      (length-replicate (setting_in w).k (bit q.success)) (votes_cast q.success) in
      rw (
        lt-ltb q.booking (bookings w) below,
        leaves_answer (poll_answer test_of w (name_of w q.booking) (votes_for w q.success)) w
            (polled w (number_of (look_up w (name_of w q.booking))) (votes_for w q.success)),
        answer,
      )

-- ---- a day that keeps its rules

-- a booking that no poll of the day is of waits
waiting_told : (w : List ℕ) (d : Day) → day_of w ≡ d → Ledger w → (i : ℕ) → 0 < i → i < bookings w
    → ((r : ℕ) → r < length d.polls → polled_in d.polls r ≢ i) → state_of w i ≡ 0
waiting_told w d e ledger i l h unpolled = go (ℕ_discrete (ordinal_of w i) 0)
  where
    go : Dec (ordinal_of w i ≡ 0) → state_of w i ≡ 0
    go (yes z) = (ledger.sound.booking i l h).ordinal_waiting.0 z
    go (no z) =
        let r : ℕ = ordinal_of w i - 1 in
        let place : suc r ≡ ordinal_of w i = omega arith in
        let within : r < length d.polls = omega (arith, ledger.sound.ordinal_most i h, polls_told w d e) in
        absurd (unpolled r within (ap (λ q. q.booking) (poll_told w d e r within) ∙ ap (holder w) place ∙ holder_alone w ledger.sound i h z))

-- the names so far are those of the whole day
pub name_in_take : (bs : List DayBooking) (j i : ℕ) → i < j + 1 → name_in (take j bs) i ≡ name_in bs i
name_in_take bs j zero h = refl
name_in_take bs j (suc i) h = ap (λ b. b.name) (get_or-take j bs i (record { name = 0; slot = 0; parents = [] }) (omega arith))

-- what the rules of a row say
module _ (bs : List DayBooking) (j : ℕ) (good : booking_passes bs j ≡ true) where
  booking_test : (k : ℕ) → get_or (booking_tests bs j) k true ≡ true
  unfolding booking_passes
  booking_test = row_at (booking_tests bs j) good

  row_free : (i : ℕ) → i < j + 1 → name_in bs i ≢ (booking_in bs j).name
  row_free i h =
      eqb-false (name_in bs i) (booking_in bs j).name
      (none→ (λ i. eqb (name_in bs i) (booking_in bs j).name) (j + 1) (not-true _ (booking_test 0)) i h)

  -- the booking is taken on words that hold the day so far
  row_takes : (w : List ℕ) (s : Setting) → j < length bs → Ledger w → day_of w ≡ record { setting = s; bookings = take j bs; polls = [] }
      → is_taken (rebook_by test_of (booking_in bs j) w).answer ≡ true
  row_takes w s h ledger e =
      let b : DayBooking = booking_in bs j in
      let so_far : Day = record { setting = s; bookings = take j bs; polls = [] } in
      let many : bookings w ≡ j + 1 = omega (arith, bookings_told w so_far e ledger, length-take-le j bs (omega arith)) in
      rebook_takes w ledger b
      (λ i u q. row_free i (omega arith) (sym (name_in_take bs j i (omega arith)) ∙ name_told w so_far e ledger i u ∙ q))
      (not-true _ (booking_test 1))
      (not-true _ (booking_test 2))
      (ap (λ n. all (λ a. ltb (get_or b.parents a 0) n) (length b.parents)) many ∙ booking_test 3)
      (not-true _ (booking_test 4))
      (omega (arith, many, ltb-true (j + 1) most_bookings (booking_test 5)))

module _ (most : ℕ) (qs : List DayPoll) (q : ℕ) (good : poll_passes most qs q ≡ true) where
  poll_test_lem : (k : ℕ) → get_or (poll_tests most qs q) k true ≡ true
  unfolding poll_passes
  poll_test_lem = row_at (poll_tests most qs q) good

  poll_new : (r : ℕ) → r < q → polled_in qs r ≢ polled_in qs q
  poll_new r h =
      eqb-false (polled_in qs r) (polled_in qs q) (none→ (λ r. eqb (polled_in qs r) (polled_in qs q)) q (not-true _ (poll_test_lem 2)) r h)

  poll_row_takes : (w : List ℕ) (s : Setting) (bs : List DayBooking) → length bs ≡ most → q < length qs → Ledger w
      → day_of w ≡ record { setting = s; bookings = bs; polls = take q qs } → is_taken (repoll_by test_of (poll_in qs q) w).answer ≡ true
  poll_row_takes w s bs all-booked h ledger e =
      let so_far : Day = record { setting = s; bookings = bs; polls = take q qs } in
      let above : polled_in qs q ≢ 0 = eqb-false (polled_in qs q) 0 (not-true _ (poll_test_lem 0)) in
      let below : polled_in qs q < bookings w = omega (arith, bookings_told w so_far e ledger, leb-true (polled_in qs q) most (poll_test_lem 1)) in
      repoll_takes w ledger (poll_in qs q) below
      (waiting_told w so_far e ledger (polled_in qs q) (omega arith) below (λ r u z.
      let v : r < q = omega (arith, length-take-le q qs (omega arith)) in
      poll_new r v (ap (λ p. p.booking) (sym (get_or-take q qs r (record { booking = 0; success = false }) v)) ∙ z)))

module _ (d : Day) (good : day_good d ≡ true) where
  day_test : (k : ℕ) → get_or (day_tests d) k true ≡ true
  unfolding day_good
  day_test = row_at (day_tests d) good

  open_stage : is_taken (rebooked d 0).answer ≡ true
  unfolding rebooked in_order
  open_stage = open_takes (replicate size 0) d.setting (length-replicate {A = ℕ} size 0) (day_test 0)

  booking_stage_lem : (j : ℕ) → j ≤ length d.bookings → is_taken (rebooked d j).answer ≡ true
  booking_stage_lem zero h = open_stage
  booking_stage_lem (suc j) h =
      let before = booking_stage_lem j (omega arith) in
      let holds = rebooked_holds d j (omega arith) before in
      ap (λ o. is_taken o.answer) (rebooked_more d j h before)
      ∙ row_takes d.bookings j (all→ (booking_passes d.bookings) (length d.bookings) (day_test 1) j h) (rebooked d j).words d.setting h
      holds.ledger holds.day

  poll_stage_lem : (q : ℕ) → q ≤ length d.polls → is_taken (repolled d q).answer ≡ true
  poll_stage_lem zero h = ap (λ o. is_taken o.answer) (repolled_start d) ∙ booking_stage_lem (length d.bookings) (omega arith)
  poll_stage_lem (suc q) h =
      let before = poll_stage_lem q (omega arith) in
      let holds = repolled_holds d q (omega arith) before in
      ap (λ o. is_taken o.answer) (repolled_more d q h before)
      ∙ poll_row_takes (length d.bookings) d.polls q (all→ (poll_passes (length d.bookings) d.polls) (length d.polls) (day_test 2) q h)
      (repolled d q).words d.setting d.bookings refl h holds.ledger holds.day

  good_taken : is_taken (replay d).answer ≡ true
  good_taken = ap (λ o. is_taken o.answer) (sym (repolled_end d)) ∙ poll_stage_lem (length d.polls) (omega arith)

-- ---- exactly those

-- two tests of which each passes where the other does
tests_agree : (a b : Bool) → (a ≡ true → b ≡ true) → (b ≡ true → a ≡ true) → a ≡ b
tests_agree true b f g = sym (f refl)
tests_agree false true f g = g refl
tests_agree false false f g = refl

pub replay_good : (d : Day) → is_taken (replay d).answer ≡ day_good d
replay_good d =
    tests_agree (is_taken (replay d).answer) (day_good d)
    (λ taken. held_good (replay d).words d (replayed_day d taken) (replay_ledger d taken))
    (good_taken d)
