-- The stages of a day's replay: what its opening, its first j bookings and its first q polls leave, where they are taken. Each stage is a ledger that holds the
-- day so far, and the next is made by one call; in the end the words hold the day. Assumes nothing.
use Rattle.std.specs.Prelude.{Err, Ok}
use mathlib.Core.Path.{◌≡◌, refl, sym, ap, subst, ◌∙◌}
use mathlib.Core.Bool.{true, false, true≢false}
use mathlib.Core.List.{List, [], ◌∷◌}
use Prim.Native.Nat.{ℕ, zero, suc, ◌+◌, ◌-◌, ◌<◌, ◌≤◌}
use native.Mathlib.Numerals.{add-one}
use native.Mathlib.Nat.{le_of_suc-le-suc, not-suc-le-zero}
use native.Mathlib.Omega.{arith}
use lib.ListN.{length, get_or, take, replicate}
use lib.Seq.{take-suc, take-length, length-take-le}
use Rattle.loops.specs.Fill.{from}
use Rattle.terms.specs.declared.setting.Setting.{Setting}
use Rattle.terms.specs.Answers.{Outcome, is_taken, Answer}
use Rattle.terms.specs.Setting.{Good, setting_of}
use Rattle.rules.specs.Layout.{size, most_bookings, most_parents, slots, polls_field, bookings, polls, state_of}
use Rattle.rules.specs.Sound.{Ledger}
use Rattle.rules.specs.Open.{opened}
use Rattle.rules.specs.Book.{booked_with}
use Rattle.rules.specs.Poll.{polled_by}
use Rattle.rules.specs.Calls.{test_of, open_call}
use Rattle.rule_laws.proofs.Opened.{header_opened, bookings_opened, opened_ledger}
use Rattle.day_file.specs.Day.{DayBooking, DayPoll, Day, booking_at, holder, poll_of, day_of, booking_in, poll_in, polled_in, succeeded_in}
use Rattle.day_file.specs.Replay.{following, in_order, rebook_by, repoll_by, replay}
use Rattle.day_file.specs.InTurn.{places, rebooked, repolled}
use Rattle.promises.proofs.Taken.{open_taken}
use Rattle.promises.proofs.Rebooked.{
  with_booking,
  Rebooking,
  rebook_taken,
  rebooked_ledger,
  rebooked_day,
  rebooked_places,
  rebooked_few,
}
use Rattle.promises.proofs.Repolled.{with_day_poll, Repolling, repoll_taken, repolled_ledger, repolled_day}
use Rattle.promises.proofs.DayRows.{bookings_told}

-- ---- calls in order

module _ {A : Type 0} (call : A → List ℕ → Outcome) where
  -- the call for x, after what came before
  abbrev next : A → Outcome → Outcome
  next x o = following o.answer o.words (call x)

  -- where it is taken, so was what came before
  next_taken : (x : A) (o : Outcome) → is_taken (next x o).answer ≡ true → (is_taken o.answer ≡ true) × (next x o ≡ call x o.words)
  next_taken x o = go o.answer
    where
      go : (a : Answer) → is_taken (following a o.words (call x)).answer ≡ true
          → (is_taken a ≡ true) × (following a o.words (call x) ≡ call x o.words)
      go (Ok v) e = (refl, refl)
      go (Err r) e = absurd (true≢false (sym e))

  -- after what was taken it is the call itself
  next_after : (x : A) (o : Outcome) → is_taken o.answer ≡ true → next x o ≡ call x o.words
  next_after x o = go o.answer
    where
      go : (a : Answer) → is_taken a ≡ true → following a o.words (call x) ≡ call x o.words
      go (Ok v) e = refl
      go (Err r) e = absurd (true≢false (sym e))

  in_order_start : (xs : List A) (o : Outcome) → is_taken (in_order call xs o).answer ≡ true → is_taken o.answer ≡ true
  unfolding in_order
  in_order_start [] o e = e
  in_order_start (x ∷ xs) o e = (next_taken x o (in_order_start xs (next x o) e)).0

  in_order_sooner : (xs : List A) (j : ℕ) (o : Outcome) → is_taken (in_order call xs o).answer ≡ true → is_taken (in_order call (take j xs) o).answer ≡ true
  unfolding in_order
  in_order_sooner xs zero o e = in_order_start xs o e
  in_order_sooner [] (suc j) o e = e
  in_order_sooner (x ∷ xs) (suc j) o e = in_order_sooner xs j (next x o) e

  -- one call more
  in_order_more : (xs : List A) (j : ℕ) (d : A) (o : Outcome) → j < length xs
      → in_order call (take (suc j) xs) o ≡ next (get_or xs j d) (in_order call (take j xs) o)
  unfolding in_order
  in_order_more [] j d o h = absurd (not-suc-le-zero h)
  in_order_more (x ∷ xs) zero d o h = refl
  in_order_more (x ∷ xs) (suc j) d o h = in_order_more xs j d (next x o) (le_of_suc-le-suc h)

-- ---- the opening

-- a day with neither bookings nor polls
abbrev pub empty_day : Setting → Day
empty_day s = record { setting = s; bookings = []; polls = [] }

pub opened_day : (s : Setting) → day_of (opened s) ≡ empty_day s
unfolding day_of from
opened_day s =
    let k = header_opened s 1 (omega arith) in
    let a = header_opened s 2 (omega arith) in
    let beta1 = header_opened s 3 (omega arith) in
    let beta2 = header_opened s 4 (omega arith) in
    let edition = header_opened s 6 (omega arith) in
    let none : from (booking_at (opened s)) 1 (bookings (opened s) - 1) ≡ [] = ap (λ n. from (booking_at (opened s)) 1 (n - 1)) (bookings_opened s) in
    let unpolled : from (λ o. poll_of (opened s) (holder (opened s) o)) 1 (polls (opened s)) ≡ []
    = ap (from (λ o. poll_of (opened s) (holder (opened s) o)) 1) (header_opened s polls_field (omega arith)) in
    λ i. record { setting = setting_of (k i) (a i) (beta1 i) (beta2 i) (edition i); bookings = none i; polls = unpolled i }

-- ---- one stage and the next

-- words that are a ledger and hold a day
pub record Holds (w : List ℕ) (d : Day) : Type 0 where
  pub ledger : Ledger w
  pub day : day_of w ≡ d

module _ (d : Day) where
  abbrev unused : List ℕ
  unused = replicate size 0

  -- the day so far: after j bookings, and after all of them and q polls
  abbrev pub booked_so_far : ℕ → Day
  booked_so_far j = record { setting = d.setting; bookings = take j d.bookings; polls = [] }

  abbrev pub polled_so_far : ℕ → Day
  polled_so_far q = record { setting = d.setting; bookings = d.bookings; polls = take q d.polls }

  -- ---- bookings

  rebooked_next : (j : ℕ) → j < length d.bookings → rebooked d (suc j) ≡ next (rebook_by test_of) (booking_in d.bookings j) (rebooked d j)
  unfolding rebooked
  rebooked_next j = in_order_more (rebook_by test_of) d.bookings j (record { name = 0; slot = 0; parents = [] }) (open_call unused d.setting)

  -- the call for a row, where the rows before it are taken
  pub rebooked_more : (j : ℕ) → j < length d.bookings → is_taken (rebooked d j).answer ≡ true
      → rebooked d (suc j) ≡ rebook_by test_of (booking_in d.bookings j) (rebooked d j).words
  rebooked_more j h t = rebooked_next j h ∙ next_after (rebook_by test_of) (booking_in d.bookings j) (rebooked d j) t

  pub rebooked_sooner : (j : ℕ) → j < length d.bookings → is_taken (rebooked d (suc j)).answer ≡ true → is_taken (rebooked d j).answer ≡ true
  rebooked_sooner j h t =
      (next_taken (rebook_by test_of) (booking_in d.bookings j) (rebooked d j) (ap (λ o. is_taken o.answer) (sym (rebooked_next j h)) ∙ t)).0

  pub rebooked_by : (j : ℕ) → j < length d.bookings → is_taken (rebooked d (suc j)).answer ≡ true
      → Rebooking (booking_in d.bookings j) (rebooked d j).words (rebooked d (suc j)).words
  rebooked_by j h t =
      let e = rebooked_more j h (rebooked_sooner j h t) in
      subst (λ o. Rebooking (booking_in d.bookings j) (rebooked d j).words o.words) (sym e)
      (rebook_taken (booking_in d.bookings j) (rebooked d j).words (ap (λ o. is_taken o.answer) (sym e) ∙ t))

  pub rebooked_opened : is_taken (rebooked d 0).answer ≡ true → Good d.setting × ((rebooked d 0).words ≡ opened d.setting)
  unfolding rebooked in_order
  rebooked_opened t = let o = open_taken unused d.setting t in (o.1, o.2)

  pub rebooked_holds : (j : ℕ) → j ≤ length d.bookings → is_taken (rebooked d j).answer ≡ true → Holds (rebooked d j).words (booked_so_far j)
  rebooked_holds zero h t =
      let o = rebooked_opened t in
      record { ledger = subst Ledger (sym o.1) (opened_ledger d.setting o.0); day = ap day_of o.1 ∙ opened_day d.setting }
  rebooked_holds (suc j) h t =
      let b : DayBooking = booking_in d.bookings j in
      let r = rebooked_by j h t in
      let before = rebooked_holds j (omega arith) (rebooked_sooner j h t) in
      let grows = take-suc d.bookings j (record { name = 0; slot = 0; parents = [] }) h in
      record {
        ledger = rebooked_ledger b (rebooked d j).words (rebooked d (suc j)).words r;
        day =
            rebooked_day b (rebooked d j).words (rebooked d (suc j)).words r
            ∙ ap (λ x. with_booking x b) before.day
            ∙ (λ k. record { setting = d.setting; bookings = sym grows k; polls = [] });
      }

  -- ---- polls

  repolled_next : (q : ℕ) → q < length d.polls → repolled d (suc q) ≡ next (repoll_by test_of) (poll_in d.polls q) (repolled d q)
  unfolding repolled
  repolled_next q = in_order_more (repoll_by test_of) d.polls q (record { booking = 0; success = false }) (rebooked d (length d.bookings))

  pub repolled_more : (q : ℕ) → q < length d.polls → is_taken (repolled d q).answer ≡ true
      → repolled d (suc q) ≡ repoll_by test_of (poll_in d.polls q) (repolled d q).words
  repolled_more q h t = repolled_next q h ∙ next_after (repoll_by test_of) (poll_in d.polls q) (repolled d q) t

  pub repolled_sooner : (q : ℕ) → q < length d.polls → is_taken (repolled d (suc q)).answer ≡ true → is_taken (repolled d q).answer ≡ true
  repolled_sooner q h t =
      (next_taken (repoll_by test_of) (poll_in d.polls q) (repolled d q) (ap (λ o. is_taken o.answer) (sym (repolled_next q h)) ∙ t)).0

  pub repolled_by : (q : ℕ) → q < length d.polls → is_taken (repolled d (suc q)).answer ≡ true
      → Repolling (poll_in d.polls q) (repolled d q).words (repolled d (suc q)).words
  repolled_by q h t =
      let e = repolled_more q h (repolled_sooner q h t) in
      subst (λ o. Repolling (poll_in d.polls q) (repolled d q).words o.words) (sym e)
      (repoll_taken (poll_in d.polls q) (repolled d q).words (ap (λ o. is_taken o.answer) (sym e) ∙ t))

  pub repolled_start : repolled d 0 ≡ rebooked d (length d.bookings)
  unfolding repolled in_order
  repolled_start = refl

  pub repolled_end : repolled d (length d.polls) ≡ replay d
  unfolding repolled rebooked replay
  repolled_end =
      let polls : take (length d.polls) d.polls ≡ d.polls = take-length d.polls in
      let bookings : take (length d.bookings) d.bookings ≡ d.bookings = take-length d.bookings in
      λ k. in_order (repoll_by test_of) (polls k) (in_order (rebook_by test_of) (bookings k) (open_call unused d.setting))

  pub repolled_holds : (q : ℕ) → q ≤ length d.polls → is_taken (repolled d q).answer ≡ true → Holds (repolled d q).words (polled_so_far q)
  repolled_holds zero h t =
      let e = repolled_start in
      let booked = rebooked_holds (length d.bookings) (omega arith) (ap (λ o. is_taken o.answer) (sym e) ∙ t) in
      let whole = take-length d.bookings in
      record {
        ledger = subst (λ o. Ledger o.words) (sym e) booked.ledger;
        day = ap (λ o. day_of o.words) e ∙ booked.day ∙ (λ k. record { setting = d.setting; bookings = whole k; polls = [] });
      }
  repolled_holds (suc q) h t =
      let p : DayPoll = poll_in d.polls q in
      let r = repolled_by q h t in
      let before = repolled_holds q (omega arith) (repolled_sooner q h t) in
      let grows = take-suc d.polls q (record { booking = 0; success = false }) h in
      record {
        ledger = repolled_ledger p (repolled d q).words (repolled d (suc q)).words r;
        day =
            repolled_day p (repolled d q).words (repolled d (suc q)).words r
            ∙ ap (λ x. with_day_poll x p) before.day
            ∙ (λ k. record { setting = d.setting; bookings = d.bookings; polls = sym grows k });
      }

-- ---- a taken replay

module _ (d : Day) (taken : is_taken (replay d).answer ≡ true) where
  ended : is_taken (repolled d (length d.polls)).answer ≡ true
  ended = ap (λ o. is_taken o.answer) (repolled_end d) ∙ taken

  -- every stage is taken
  pub stage_repolled : (q : ℕ) → is_taken (repolled d q).answer ≡ true
  unfolding repolled rebooked replay
  stage_repolled q =
      in_order_sooner (repoll_by test_of) d.polls q (rebooked d (length d.bookings))
      (subst (λ l. is_taken (in_order (repoll_by test_of) l (rebooked d (length d.bookings))).answer ≡ true) (take-length d.polls) ended)

  pub stage_rebooked : (j : ℕ) → is_taken (rebooked d j).answer ≡ true
  unfolding rebooked
  stage_rebooked j =
      in_order_sooner (rebook_by test_of) d.bookings j (open_call (replicate size 0) d.setting)
      (subst (λ l. is_taken (in_order (rebook_by test_of) l (open_call (replicate size 0) d.setting)).answer ≡ true) (take-length d.bookings)
      (ap (λ o. is_taken o.answer) (sym (repolled_start d)) ∙ stage_repolled 0))

  -- ---- bookings

  pub stage_good : Good d.setting
  stage_good = (rebooked_opened d (stage_rebooked 0)).0

  pub stage_opened : (rebooked d 0).words ≡ opened d.setting
  stage_opened = (rebooked_opened d (stage_rebooked 0)).1

  pub stage_ledger : (j : ℕ) → j ≤ length d.bookings → Ledger (rebooked d j).words × (bookings (rebooked d j).words ≡ j + 1)
  stage_ledger j h =
      let holds = rebooked_holds d j h (stage_rebooked j) in
      let long = length-take-le j d.bookings h in
      (holds.ledger, omega (arith, bookings_told (rebooked d j).words (booked_so_far d j) holds.day holds.ledger))

  pub stage_booked : (j : ℕ) → j < length d.bookings → let b = booking_in d.bookings j in
      (1 ≤ b.slot) × (b.slot < slots) × (bookings (rebooked d j).words < most_bookings) × (length b.parents ≤ most_parents)
      × ((rebooked d (j + 1)).words ≡ booked_with (rebooked d j).words b.name b.slot (places b.parents))
  stage_booked j h =
      let b : DayBooking = booking_in d.bookings j in
      let r = rebooked_by d j h (stage_rebooked (suc j)) in (
        r.able.slot_least,
        r.able.slot_most,
        r.able.room,
        rebooked_few b (rebooked d j).words (rebooked d (suc j)).words r,
        ap (λ n. (rebooked d n).words) (add-one j) ∙ rebooked_places b (rebooked d j).words (rebooked d (suc j)).words r,
      )

  -- ---- polls

  pub stage_polls : (repolled d 0).words ≡ (rebooked d (length d.bookings)).words
  stage_polls = ap (λ o. o.words) (repolled_start d)

  pub stage_poll_ledger : (q : ℕ) → q ≤ length d.polls → Ledger (repolled d q).words
  stage_poll_ledger q h = (repolled_holds d q h (stage_repolled q)).ledger

  pub stage_polled : (q : ℕ) → q < length d.polls
      → (polled_in d.polls q < bookings (repolled d q).words)
      × (state_of (repolled d q).words (polled_in d.polls q) ≡ 0)
      × ((repolled d (q + 1)).words
      ≡ polled_by (succeeded_in d.polls q) (repolled d q).words (polled_in d.polls q))
  stage_polled q h =
      let r = repolled_by d q h (stage_repolled (suc q)) in
      (r.able.below, r.able.waiting, ap (λ n. (repolled d n).words) (add-one q) ∙ r.words)

  pub stage_ends : (repolled d (length d.polls)).words ≡ (replay d).words
  stage_ends = ap (λ o. o.words) (repolled_end d)

  -- ---- the end

  ends_holding : Holds (repolled d (length d.polls)).words (polled_so_far d (length d.polls))
  ends_holding = repolled_holds d (length d.polls) (omega arith) ended

  pub replay_ledger : Ledger (replay d).words
  replay_ledger = subst Ledger stage_ends ends_holding.ledger

  pub replayed_day : day_of (replay d).words ≡ d
  replayed_day =
      let whole = take-length d.polls in
      ap day_of (sym stage_ends) ∙ ends_holding.day ∙ (λ k. record { setting = d.setting; bookings = d.bookings; polls = whole k })
