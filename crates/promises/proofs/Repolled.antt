-- What one more poll of a day's replay leaves, where it is taken: k yes votes are enough, and k silent ones too few, so the words are those of its outcome; they
-- are a ledger, and its day has that poll more. Assumes nothing.
use mathlib.Core.Path.{◌≡◌, refl, sym, ap, subst, ◌∙◌}
use mathlib.Core.Bool.{Bool, true, false, cond}
use mathlib.Core.List.{List, [], ◌∷◌, ◌++◌}
use mathlib.Core.Logic.{◌≢◌}
use Prim.Native.Nat.{ℕ, ◌+◌, ◌-◌}
use native.Mathlib.Omega.{arith}
use lib.ListN.{get_or, replicate, length-replicate, get_or-replicate}
use lib.Dec.{eqb, ltb}
use borrow.Author.Tests.{ltb-true, eqb-true, le-leb, lt-leb}
use Rattle.loops.specs.Total.{count}
use Rattle.loops.specs.Fill.{from}
use Rattle.loops.proofs.Search.{→all}
use Rattle.loops.proofs.Total.{count_all, count_none}
use Rattle.loops.proofs.Fill.{from_more}
use Rattle.terms.specs.declared.answer.Refusal.TheVariants.{UnknownName}
use Rattle.terms.specs.Answers.{is_taken}
use Rattle.terms.specs.Setting.{Good}
use Rattle.terms.specs.Votes.{vote_of, is_yes}
use Rattle.rules.specs.Layout.{ordinal_field, state_field, bookings, setting_in, polls, name_of, state_of, ordinal_of}
use Rattle.rules.specs.Sound.{Ledger}
use Rattle.rules.specs.Book.{look_up, number_of}
use Rattle.rules.specs.Poll.{yes_votes, is_success, polled_by, polled}
use Rattle.rules.specs.Calls.{test_of, poll_by, poll_call}
use Rattle.rule_laws.proofs.Lookup.{found_is}
use Rattle.rule_laws.proofs.Slots.{booking_lt}
use Rattle.rule_laws.proofs.Words.{setting_in_kept}
use Rattle.day_file.specs.Day.{DayPoll, Day, booking_at, holder, poll_of, day_of}
use Rattle.day_file.specs.Replay.{votes_for, repoll_by}
use Rattle.day_file.proofs.Holders.{holder_alone}
use Rattle.promises.proofs.Taken.{Pollable, poll_taken}
use Rattle.promises.proofs.Noted.{Noted, Noted_bookings, Noted→Grown}
use Rattle.promises.proofs.Ordinals.{polled_ordinal}
use Rattle.promises.proofs.Polled.{polled_by_Noted, polled_by_ledger}
use Rattle.promises.proofs.DayGrown.{bookings_grown, PollsKept, polls_kept}
use Rattle.promises.proofs.Rebooked.{taken_cond}

-- ---- the votes

-- n votes of one kind: all are yes, or none is
yes_all : (n : ℕ) → yes_votes (replicate n 1) ≡ n
unfolding vote_of
yes_all n =
    let yes : ℕ → Bool = λ j. is_yes (vote_of (get_or (replicate n 1) j 0)) in
    ap (count yes) (length-replicate n 1) ∙ eqb-true _ n (count_all yes n ∙ →all yes n (λ j h. ap (λ v. is_yes (vote_of v)) (get_or-replicate n j 1 0 h)))

yes_none : (n : ℕ) → yes_votes (replicate n 0) ≡ 0
unfolding vote_of
yes_none n =
    let yes : ℕ → Bool = λ j. is_yes (vote_of (get_or (replicate n 0) j 0)) in
    ap (count yes) (length-replicate n 0) ∙ count_none yes n (λ j h. ap (λ v. is_yes (vote_of v)) (get_or-replicate n j 0 0 h))

-- the votes for an outcome bring it about
pub votes_decide : (w : List ℕ) → Good (setting_in w) → (success : Bool) → is_success w (votes_for w success) ≡ success
votes_decide w good true = le-leb (setting_in w).a (yes_votes (votes_for w true)) (omega (arith, yes_all (setting_in w).k, good.needed_most))
votes_decide w good false = lt-leb (setting_in w).a (yes_votes (votes_for w false)) (omega (arith, yes_none (setting_in w).k, good.majority))

-- ---- a taken one

pub record Repolling (q : DayPoll) (w u : List ℕ) : Type 0 where
  pub ledger : Ledger w
  pub able : Pollable w q.booking
  pub words : u ≡ polled_by q.success w q.booking

-- so the words are those of the outcome
pub polled_as : (w : List ℕ) → Good (setting_in w) → (i : ℕ) (success : Bool) → polled w i (votes_for w success) ≡ polled_by success w i
unfolding polled
polled_as w good i success = ap (λ t. polled_by t w i) (votes_decide w good success)

pub repoll_taken : (q : DayPoll) (w : List ℕ) → is_taken (repoll_by test_of q w).answer ≡ true → Repolling q w (repoll_by test_of q w).words
unfolding poll_call
repoll_taken q w e =
    let name : ℕ = name_of w q.booking in
    let votes : List ℕ = votes_for w q.success in
    let called = taken_cond (ltb q.booking (bookings w)) (poll_by test_of w name votes) UnknownName w e in
    let taken = poll_taken w name votes (sym (ap (λ o. is_taken o.answer) called.1) ∙ e) in
    let found : number_of (look_up w name) ≡ q.booking = ap number_of (found_is w taken.0.sound q.booking (ltb-true _ _ called.0)) in
    record {
      ledger = taken.0;
      able = subst (Pollable w) found taken.1;
      words =
          ap (λ o. o.words) called.1 ∙ taken.2 ∙ ap (λ i. polled w i votes) found
          ∙ polled_as w taken.0.sound.setting q.booking q.success;
    }

-- ---- the day that it leaves

-- a day with one poll more
abbrev pub with_day_poll : Day → DayPoll → Day
with_day_poll d q = record { setting = d.setting; bookings = d.bookings; polls = d.polls ++ (q ∷ []) }

-- a chit is a success
chit : (success : Bool) → eqb (cond success 2 1) 2 ≡ success
chit true = refl
chit false = refl

module _ (q : DayPoll) (w : List ℕ) (ledger : Ledger w) (able : Pollable w q.booking) where
  abbrev after : List ℕ
  after = polled_by q.success w q.booking

  after_noted : Noted w after q.booking (cond q.success 2 1)
  after_noted = polled_by_Noted w q.booking q.success ledger able

  after_ledger : Ledger after
  after_ledger = polled_by_ledger w q.booking q.success ledger able

  bookings_listed : from (booking_at after) 1 (bookings after - 1) ≡ from (booking_at w) 1 (bookings w - 1)
  bookings_listed =
      ap (λ n. from (booking_at after) 1 (n - 1)) (Noted_bookings after_noted)
      ∙ bookings_grown w after (Noted→Grown after_noted ledger.sound.bookings_most) ledger.sound.bookings_least

  -- the polls of before are of other bookings
  earlier_kept : PollsKept w after
  earlier_kept i h d =
      let other : i ≢ q.booking = λ e. d (ap (ordinal_of w) e ∙ polled_ordinal w q.booking ledger.sound able) in
      let within = booking_lt w ledger.sound i h in
      (after_noted.other i ordinal_field within (omega arith) (omega arith) (omega arith) other, after_noted.other i state_field within (omega arith) (omega arith) (omega arith) other)

  holder_new : holder after (1 + polls w) ≡ q.booking
  holder_new =
      let ordinal : ordinal_of after q.booking ≡ 1 + polls w = omega (arith, after_noted.ordinal_now) in
      ap (holder after) (sym ordinal)
      ∙ holder_alone after after_ledger.sound q.booking (omega (arith, Noted_bookings after_noted, able.below)) (λ e. omega arith)

  poll_new : poll_of after (holder after (1 + polls w)) ≡ q
  poll_new =
      let success : eqb (state_of after q.booking) 2 ≡ q.success = ap (λ s. eqb s 2) after_noted.state_now ∙ chit q.success in
      ap (poll_of after) holder_new ∙ (λ k. record { booking = q.booking; success = success k })

  polls_listed : from (λ o. poll_of after (holder after o)) 1 (polls after) ≡ from (λ o. poll_of w (holder w o)) 1 (polls w) ++ (q ∷ [])
  polls_listed =
      let old = polls_kept w after ledger after_ledger (omega (arith, Noted_bookings after_noted)) earlier_kept in
      ap (from (λ o. poll_of after (holder after o)) 1) after_noted.more
      ∙ from_more (λ o. poll_of after (holder after o)) 1 (polls w)
      ∙ (λ k. old k ++ (poll_new k ∷ []))

  after_day : day_of after ≡ with_day_poll (day_of w) q
  unfolding day_of
  after_day =
      let setting : setting_in after ≡ setting_in w = setting_in_kept w after (λ g l h d. after_noted.head g (omega arith) d) in
      λ k. record { setting = setting k; bookings = bookings_listed k; polls = polls_listed k }

-- ---- together

module _ (q : DayPoll) (w u : List ℕ) (r : Repolling q w u) where
  pub repolled_ledger : Ledger u
  repolled_ledger = subst Ledger (sym r.words) (after_ledger q w r.ledger r.able)

  pub repolled_day : day_of u ≡ with_day_poll (day_of w) q
  repolled_day = ap day_of r.words ∙ after_day q w r.ledger r.able
