-- A taken replay as a run: the calls of the day, from any words of the right length, are each taken, leave the replay's words, and have the day's polls as their
-- history. Assumes nothing.
use mathlib.Core.Path.{◌≡◌, refl, sym, ap, ap₂, subst, ◌∙◌}
use mathlib.Core.Bool.{true, cond}
use mathlib.Core.List.{List, [], ◌∷◌, ◌++◌}
use Prim.Native.Nat.{ℕ, zero, suc, ◌+◌, ◌<◌}
use native.Mathlib.Nat.{zero-add, le_of_suc-le-suc, not-suc-le-zero}
use native.Mathlib.Omega.{arith}
use lib.ListN.{length, get_or, take, replicate}
use lib.Seq.{take-length, length-take-le}
use borrow.Author.Tests.{lt-ltb}
use Rattle.loops.specs.Total.{bit}
use Rattle.loops.specs.Fill.{from}
use Rattle.loops.proofs.Fill.{from_agree}
use Rattle.terms.specs.Answers.{is_taken}
use Rattle.rules.specs.Layout.{size, bookings, name_of}
use Rattle.rules.specs.Book.{look_up, number_of}
use Rattle.rules.specs.Poll.{is_success}
use Rattle.rules.specs.Calls.{open_call, book_call, poll_call}
use Rattle.rule_laws.proofs.Good.{Good→isGood}
use Rattle.rule_laws.proofs.Lookup.{found_is}
use Rattle.day_file.specs.Day.{DayBooking, DayPoll, Day, booking_in, name_in, poll_in}
use Rattle.day_file.specs.Replay.{names_of, votes_for, replay}
use Rattle.day_file.specs.InTurn.{rebooked, repolled}
use Rattle.promises.specs.Run.{Call, Open, Poll, outcome_of, History, fresh, with_poll, with_polls, history_after, Station, step, run, AllTaken}
use Rattle.promises.specs.ReadFile.{book_call_of, poll_call_of, calls_of}
use Rattle.promises.proofs.Taken.{open_taken}
use Rattle.promises.proofs.Rebooked.{Rebooking, number_below}
use Rattle.promises.proofs.Repolled.{votes_decide}
use Rattle.promises.proofs.DayRows.{setting_told, bookings_told, name_told}
use Rattle.promises.proofs.Stages.{
  Holds,
  booked_so_far,
  polled_so_far,
  rebooked_more,
  rebooked_by,
  rebooked_holds,
  repolled_more,
  repolled_by,
  repolled_holds,
  stage_rebooked,
  stage_repolled,
  stage_good,
  stage_opened,
  stage_polls,
  stage_ends,
}
use Rattle.promises.proofs.Replayed.{open_takes, name_in_take}

-- ---- runs in parts

-- each of the calls is taken, and they lead from one station to the other
abbrev pub Runs : List Call → Station → Station → Type 0
Runs calls t u = AllTaken calls t.words × (run calls t ≡ u)

pub runs_append : (cs ds : List Call) (t u v : Station) → Runs cs t u → Runs ds u v → Runs (cs ++ ds) t v
unfolding AllTaken run
runs_append [] ds t u v r s = subst (λ x. Runs ds x v) (sym r.1) s
runs_append (c ∷ cs) ds t u v r s = let more = runs_append cs ds (step c t) u v (r.0.1, r.1) s in ((r.0.0, more.0), more.1)

-- a call for each number, each from its stage to the next
pub runs_from : (call : ℕ → Call) (stage : ℕ → Station) (i n : ℕ)
    → ((j : ℕ) → j < i + n → (is_taken (outcome_of (call j) (stage j).words).answer ≡ true) × (step (call j) (stage j) ≡ stage (suc j)))
    → Runs (from call i n) (stage i) (stage (i + n))
unfolding AllTaken run from
runs_from call stage i zero h = let e : i ≡ i + 0 = omega arith in (tt, ap stage e)
runs_from call stage i (suc n) h =
    let e : suc i + n ≡ i + suc n = omega arith in
    let here = h i (omega arith) in
    let more = subst (λ m. Runs (from call (suc i) n) (stage (suc i)) (stage m)) e (runs_from call stage (suc i) n (λ j u. h j (omega arith))) in
    let rest = subst (λ t. Runs (from call (suc i) n) t (stage (i + suc n))) (sym here.1) more in
    ((here.0, rest.0), rest.1)

-- ---- the history of the day's polls

with_polls_more : (qs : List DayPoll) (q : ℕ) (h : History) → q < length qs
    → with_polls (take (suc q) qs) h ≡ with_poll (poll_in qs q).success (poll_in qs q).booking (with_polls (take q qs) h)
unfolding with_polls
with_polls_more [] q h l = absurd (not-suc-le-zero l)
with_polls_more (x ∷ qs) zero h l = refl
with_polls_more (x ∷ qs) (suc q) h l = with_polls_more qs q (with_poll x.success x.booking h) (le_of_suc-le-suc l)

module _ (d : Day) (taken : is_taken (replay d).answer ≡ true) where
  -- ---- bookings

  abbrev booking_stage : ℕ → Station
  booking_stage j = record { words = (rebooked d j).words; history = fresh }

  module _ (j : ℕ) (h : j < length d.bookings) where
    abbrev b : DayBooking
    b = booking_in d.bookings j

    abbrev here : List ℕ
    here = (rebooked d j).words

    booking_by : Rebooking b here (rebooked d (suc j)).words
    booking_by = rebooked_by d j h (stage_rebooked d taken (suc j))

    -- the parents' names, by the day and by the words
    names_told : from (λ a. name_in d.bookings (get_or b.parents a 0)) 0 (length b.parents) ≡ names_of here b.parents
    names_told =
        let holds = rebooked_holds d j (omega arith) (stage_rebooked d taken j) in
        let many : bookings here ≡ j + 1 = omega (arith, bookings_told here (booked_so_far d j) holds.day holds.ledger, length-take-le j d.bookings (omega arith)) in
        from_agree (λ a. name_in d.bookings (get_or b.parents a 0)) (λ a. name_of here (get_or b.parents a 0)) 0 (length b.parents) (λ a l u.
        let below = number_below here holds.ledger.sound b.parents booking_by.known a (omega arith) in
        sym (name_in_take d.bookings j (get_or b.parents a 0) (omega arith)) ∙ name_told here (booked_so_far d j) holds.day holds.ledger (get_or b.parents a 0) below)

    booking_outcome : outcome_of (book_call_of d.bookings j) here ≡ rebooked d (suc j)
    unfolding outcome_of book_call
    booking_outcome =
        ap (book_call here b.name b.slot) names_told
        ∙ sym (rebooked_more d j h (stage_rebooked d taken j) ∙ rw booking_by.known)

    booking_step : (is_taken (outcome_of (book_call_of d.bookings j) here).answer ≡ true) × (step (book_call_of d.bookings j) (booking_stage j) ≡ booking_stage (suc j))
    unfolding history_after
    booking_step = (
      ap (λ o. is_taken o.answer) booking_outcome ∙ stage_rebooked d taken (suc j),
      λ k. record { words = (booking_outcome k).words; history = fresh },
    )

  -- ---- polls

  abbrev poll_stage : ℕ → Station
  poll_stage q = record { words = (repolled d q).words; history = with_polls (take q d.polls) fresh }

  module _ (q : ℕ) (h : q < length d.polls) where
    abbrev p : DayPoll
    p = poll_in d.polls q

    abbrev now : List ℕ
    now = (repolled d q).words

    held : Holds now (polled_so_far d q)
    held = repolled_holds d q (omega arith) (stage_repolled d taken q)

    polled_below : p.booking < bookings now
    polled_below = (repolled_by d q h (stage_repolled d taken (suc q))).able.below

    -- its name and its votes, by the day and by the words
    name_same : name_in d.bookings p.booking ≡ name_of now p.booking
    name_same = name_told now (polled_so_far d q) held.day held.ledger p.booking polled_below

    votes_same : replicate d.setting.k (bit p.success) ≡ votes_for now p.success
    votes_same = ap (λ s. replicate s.k (bit p.success)) (sym (setting_told now (polled_so_far d q) held.day))

    poll_outcome : poll_call now (name_of now p.booking) (votes_for now p.success) ≡ repolled d (suc q)
    unfolding poll_call
    poll_outcome = sym (repolled_more d q h (stage_repolled d taken q) ∙ rw (lt-ltb p.booking (bookings now) polled_below))

    poll_taken : is_taken (poll_call now (name_of now p.booking) (votes_for now p.success)).answer ≡ true
    poll_taken = ap (λ o. is_taken o.answer) poll_outcome ∙ stage_repolled d taken (suc q)

    -- the call is of that booking, with that outcome
    poll_noted : (x : History)
        → cond (is_taken (poll_call now (name_of now p.booking) (votes_for now p.success)).answer)
        (with_poll (is_success now (votes_for now p.success)) (number_of (look_up now (name_of now p.booking))) x) x
        ≡ with_poll p.success p.booking x
    poll_noted x =
        ap (λ t. cond t (with_poll (is_success now (votes_for now p.success)) (number_of (look_up now (name_of now p.booking))) x) x) poll_taken
        ∙ ap₂ (λ s i. with_poll s i x) (votes_decide now held.ledger.sound.setting p.success)
        (ap number_of (found_is now held.ledger.sound p.booking polled_below))

    call_same : poll_call_of d q ≡ Poll (name_of now p.booking) (votes_for now p.success)
    call_same = λ k. Poll (name_same k) (votes_same k)

    poll_step : (is_taken (outcome_of (poll_call_of d q) now).answer ≡ true) × (step (poll_call_of d q) (poll_stage q) ≡ poll_stage (suc q))
    unfolding outcome_of history_after
    poll_step =
        let history : history_after (Poll (name_of now p.booking) (votes_for now p.success)) now (with_polls (take q d.polls) fresh)
        ≡ with_polls (take (suc q) d.polls) fresh
        = poll_noted (with_polls (take q d.polls) fresh) ∙ sym (with_polls_more d.polls q fresh h) in (
          ap (λ c. is_taken (outcome_of c now).answer) call_same ∙ poll_taken,
          ap (λ c. step c (poll_stage q)) call_same ∙ (λ k. record { words = (poll_outcome k).words; history = history k }),
        )

  -- ---- the opening

  opening_step : (t : Station) → length t.words ≡ size → Runs (Open d.setting ∷ []) t (booking_stage 0)
  unfolding AllTaken run outcome_of history_after
  opening_step t long =
      let opens : is_taken (open_call t.words d.setting).answer ≡ true = open_takes t.words d.setting long (Good→isGood d.setting (stage_good d taken)) in
      let words : (open_call t.words d.setting).words ≡ (rebooked d 0).words = (open_taken t.words d.setting opens).2 ∙ sym (stage_opened d taken) in
      ((opens, tt), λ k. record { words = words k; history = cond (opens k) fresh t.history })

  -- ---- the whole run

  replay_runs : (t : Station) → length t.words ≡ size
      → Runs (calls_of d) t (record { words = (replay d).words; history = with_polls d.polls fresh })
  unfolding calls_of with_polls
  replay_runs t long =
      let n : ℕ = length d.bookings in
      let m : ℕ = length d.polls in
      let booked = runs_from (book_call_of d.bookings) booking_stage 0 n (λ j u. booking_step j (omega arith)) in
      let polled = runs_from (poll_call_of d) poll_stage 0 m (λ q u. poll_step q (omega arith)) in
      let whole : take m d.polls ≡ d.polls = take-length d.polls in
      let met : poll_stage 0 ≡ booking_stage (0 + n)
      = (λ k. record { words = stage_polls d taken k; history = fresh }) ∙ ap booking_stage (sym (zero-add n)) in
      let ended : poll_stage (0 + m) ≡ record { words = (replay d).words; history = with_polls d.polls fresh }
      = ap poll_stage (zero-add m) ∙ (λ k. record { words = stage_ends d taken k; history = with_polls (whole k) fresh }) in
      runs_append (Open d.setting ∷ []) (from (book_call_of d.bookings) 0 n ++ from (poll_call_of d) 0 m) t (booking_stage 0) _
      (opening_step t long)
      (runs_append (from (book_call_of d.bookings) 0 n) (from (poll_call_of d) 0 m) (booking_stage 0) (poll_stage 0) _
      (subst (Runs (from (book_call_of d.bookings) 0 n) (booking_stage 0)) (sym met) booked)
      (subst (Runs (from (poll_call_of d) 0 m) (poll_stage 0)) ended polled))

-- from any words of the right length, and any history
pub replay_run : (d : Day) (t : Station) → length t.words ≡ size → is_taken (replay d).answer ≡ true
    → AllTaken (calls_of d) t.words × (run (calls_of d) t ≡ record { words = (replay d).words; history = with_polls d.polls fresh })
replay_run d t long taken = replay_runs d taken t long
