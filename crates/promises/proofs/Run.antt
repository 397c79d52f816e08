-- Demand 3 over every run: what is right of a station after an opening or a reading, every call keeps.
use Rattle.std.specs.Prelude.{Err, Ok}
use mathlib.Core.Path.{◌≡◌, refl, sym, ap, ap₂, subst, ◌∙◌}
use mathlib.Core.Bool.{Bool, true, false, cond, true≢false}
use mathlib.Core.List.{List, [], ◌∷◌}
use mathlib.Core.Logic.{⊎_elim}
use Prim.Native.Nat.{ℕ, zero, suc, ◌+◌, ◌<◌}
use native.Mathlib.Numerals.{add-one}
use native.Mathlib.Nat.{add-zero, add_comm, eq-or-lt_of_le}
use native.Mathlib.Omega.{arith}
use lib.ListN.{replicate}
use Rattle.loops.specs.Total.{bit, total, count}
use Rattle.loops.proofs.Total.{total_same, total_plus, total_more, total_zeros}
use Rattle.terms.specs.declared.setting.Setting.{Setting}
use Rattle.terms.specs.declared.form.Form.{Form}
use Rattle.terms.specs.declared.form.Form.TheVariants.{First, Second}
use Rattle.terms.specs.Answers.{Outcome, is_taken, Answer}
use Rattle.rules.specs.Layout.{size, bookings, polls, slot_of, confidence_of, preferred_in, polls_field, confidence_field, preferred_field}
use Rattle.rules.specs.Ancestry.{ancestry, is_member}
use Rattle.rules.specs.Readings.{size_of}
use Rattle.rules.specs.Open.{opened}
use Rattle.rules.specs.Book.{booked, look_up, number_of}
use Rattle.rules.specs.Poll.{polled, is_success}
use Rattle.rules.specs.Calls.{test_of, open_call, book_call, poll_call}
use Rattle.rules.specs.Sound.{Ledger}
use Rattle.day_file.specs.Day.{DayBooking, DayPoll, Day}
use Rattle.day_file.specs.Decode.{decode, decode_marked}
use Rattle.day_file.specs.Replay.{names_of, votes_for, following, in_order, rebook_by, repoll_by, replay}
use Rattle.day_file.specs.Calls.{good_in, words_in, read_file_call}
use Rattle.rule_laws.proofs.ButMarks.{ButMarks, many_same, slot_same}
use Rattle.rule_laws.proofs.Opened.{opened_ledger, header_opened, field_opened, bookings_opened}
use Rattle.rule_laws.proofs.Ancestry.{members→Reaches, Reaches→members}
use Rattle.promises.specs.Run.{
  Call,
  Open,
  Book,
  Poll,
  Ask,
  WriteFile,
  ReadFile,
  IndexBuild,
  IndexEnter,
  IndexFind,
  outcome_of,
  opens,
  History,
  fresh,
  with_poll,
  with_polls,
  history_after,
  Station,
  step,
  run,
  Opening,
  after,
}
use Rattle.promises.specs.Soundness.{RunSound}
use Rattle.promises.specs.Confidence.{Counted, none, counts, passes, sizes, ConfidenceIsCounted, TotalIsSummed, PreferredIsMost}
use Rattle.promises.specs.Lasting.{Grown, PollsAreCounted}
use Rattle.promises.proofs.Taken.{Bookable, Pollable, Led, open_taken, open_kept, book_taken, book_kept, poll_taken, poll_kept, write_words, read_taken, read_kept, build_words, enter_words}
use Rattle.promises.proofs.Forms.{but_grown, replayed_but, second_right, good_taken, made_ledger}
use Rattle.promises.proofs.Rebooked.{rebook_taken}
use Rattle.promises.proofs.Repolled.{votes_decide, polled_as, repoll_taken}
use Rattle.promises.proofs.BookedWords.{bookings_booked, polls_booked, confidence_of_booked_same}
use Rattle.promises.proofs.BookedRecords.{confidence_of_booked_old}
use Rattle.promises.proofs.Booked.{booked_ledger, booked_grown, booked_led}
use Rattle.promises.proofs.Polled.{polled_ledger, polled_grown, polled_led, bookings_polled, polls_polled, confidence_success, confidence_failure}
use Rattle.promises.proofs.Grown.{
  Within,
  empty,
  within,
  within_more,
  reaches_grown,
  size_grown,
  sizes_grown,
  counted_grown,
  counted_above,
}

-- ---- what is right of a station after an opening or a reading

pub record Right (w : List ℕ) (h : History) : Type 0 where
  pub ledger : Ledger w
  pub counted : (j : ℕ) → j < bookings w → Counted w j h.successes (confidence_of w j)
  pub summed : total (confidence_of w) (bookings w) ≡ sizes w h.successes
  pub led : Led w
  pub polled : polls w ≡ h.taken
  pub below : Within (bookings w) h.successes

-- ---- a taken opening: one booking, no poll, no confidence

module _ (s : Setting) (ledger : Ledger (opened s)) where
  confidence_opened : (i : ℕ) → i < bookings (opened s) → confidence_of (opened s) i ≡ 0
  confidence_opened zero l = field_opened s 0 confidence_field (omega arith) (omega arith)
  confidence_opened (suc i) l = absurd (omega (arith, bookings_opened s))

  opened_right : Right (opened s) fresh
  unfolding sizes
  opened_right =
      record {
        ledger = ledger;
        counted = λ j l. rw (confidence_opened j l) none;
        summed = total_zeros (confidence_of (opened s)) (bookings (opened s)) confidence_opened;
        led = λ i l. omega (arith, confidence_opened i l);
        polled = header_opened s polls_field (omega arith);
        below = empty;
      }

-- ---- a taken booking

module _ (w : List ℕ) (h : History) (right : Right w h) (name slot : ℕ) (parents : List ℕ) (able : Bookable w name slot parents) where
  abbrev u : List ℕ
  u = booked w name slot parents

  abbrev older : Grown w u
  older = booked_grown w name slot parents right.ledger able

  booked_counted : (j : ℕ) → j < bookings u → Counted u j h.successes (confidence_of u j)
  booked_counted j l =
      ⊎_elim
      (λ (e : j ≡ bookings w).
      rw (e, confidence_of_booked_same w name slot parents right.ledger.whole able.room)
      (counted_above u (booked_ledger w name slot parents right.ledger able) older.more (omega arith) right.below))
      (λ (m : j < bookings w).
      rw (confidence_of_booked_old w name slot parents right.ledger able j m)
      (counted_grown w u right.ledger older right.below (right.counted j m)))
      (eq-or-lt_of_le (omega (arith, bookings_booked w name slot parents right.ledger.whole)))

  booked_summed : total (confidence_of u) (bookings u) ≡ sizes u h.successes
  booked_summed =
      ap (total (confidence_of u)) (bookings_booked w name slot parents right.ledger.whole)
      ∙ total_more (confidence_of u) (bookings w)
      ∙ ap₂ ◌+◌
      (total_same (confidence_of u) (confidence_of w) (bookings w) (confidence_of_booked_old w name slot parents right.ledger able))
      (confidence_of_booked_same w name slot parents right.ledger.whole able.room)
      ∙ add-zero (total (confidence_of w) (bookings w))
      ∙ right.summed
      ∙ sym (sizes_grown w u right.ledger older right.below)

  booked_right : Right u h
  booked_right =
      record {
        ledger = booked_ledger w name slot parents right.ledger able;
        counted = booked_counted;
        summed = booked_summed;
        led = booked_led w name slot parents right.ledger able right.led;
        polled = polls_booked w name slot parents ∙ right.polled;
        below = within_more older.more right.below;
      }

-- ---- a taken poll

module _ (w : List ℕ) (h : History) (right : Right w h) (i : ℕ) (votes : List ℕ) (able : Pollable w i) where
  abbrev v : List ℕ
  v = polled w i votes

  abbrev same : Grown w v
  same = polled_grown w i votes right.ledger able

  -- the earlier polls are counted as before
  earlier : (j : ℕ) → j < bookings w → Counted v j h.successes (confidence_of w j)
  earlier j l = counted_grown w v right.ledger same right.below (right.counted j l)

  -- a successful poll counts where its booking reaches
  counted_one : (b : Bool) (j : ℕ) → is_member (ancestry w i) j ≡ b → j < bookings w → Counted v j (i ∷ h.successes) (confidence_of w j + bit b)
  counted_one true j m l = rw add-one (counts ((reaches_grown w v right.ledger same i j able.below).1 (members→Reaches w i j m)) (earlier j l))
  counted_one false j m l =
      rw add-zero
      (passes
      (λ r. absurd (not_both (Reaches→members w right.ledger.sound i able.below j ((reaches_grown w v right.ledger same i j able.below).0 r)) m))
      (earlier j l))
    where
      not_both : is_member (ancestry w i) j ≡ true → is_member (ancestry w i) j ≡ false → ⊥
      not_both p q = let z : ◌≡◌ {A = ℕ} 0 1 = ap bit (sym q ∙ p) in omega arith

  polled_counted : (b : Bool) → is_success w votes ≡ b → (j : ℕ) → j < bookings v → Counted v j (with_poll b i h).successes (confidence_of v j)
  polled_counted true e j l =
      let m : j < bookings w = omega (arith, bookings_polled w i votes right.ledger able) in
      rw (confidence_success w i votes right.ledger able e j m) (counted_one (is_member (ancestry w i) j) j refl m)
  polled_counted false e j l =
      let m : j < bookings w = omega (arith, bookings_polled w i votes right.ledger able) in
      rw (confidence_failure w i votes right.ledger able e j m) (earlier j m)

  polled_summed : (b : Bool) → is_success w votes ≡ b → total (confidence_of v) (bookings v) ≡ sizes v (with_poll b i h).successes
  unfolding sizes size_of
  polled_summed true e =
      ap (total (confidence_of v)) (bookings_polled w i votes right.ledger able)
      ∙ total_same (confidence_of v) (λ j. confidence_of w j + bit (is_member (ancestry w i) j)) (bookings w) (confidence_success w i votes right.ledger able e)
      ∙ total_plus (confidence_of w) (λ j. bit (is_member (ancestry w i) j)) (bookings w)
      ∙ add_comm (total (confidence_of w) (bookings w)) (count (is_member (ancestry w i)) (bookings w))
      ∙ ap₂ ◌+◌ (sym (size_grown w v right.ledger same i able.below)) (right.summed ∙ sym (sizes_grown w v right.ledger same right.below))
  polled_summed false e =
      ap (total (confidence_of v)) (bookings_polled w i votes right.ledger able)
      ∙ total_same (confidence_of v) (confidence_of w) (bookings w) (λ j l. confidence_failure w i votes right.ledger able e j l)
      ∙ right.summed ∙ sym (sizes_grown w v right.ledger same right.below)

  polled_below : (b : Bool) → Within (bookings v) (with_poll b i h).successes
  polled_below true = within {i = i} (omega (arith, able.below, same.more)) (within_more same.more right.below)
  polled_below false = within_more same.more right.below

  polled_right : Right v (with_poll (is_success w votes) i h)
  polled_right =
      record {
        ledger = polled_ledger w i votes right.ledger able;
        counted = polled_counted (is_success w votes) refl;
        summed = polled_summed (is_success w votes) refl;
        led = polled_led w i votes right.ledger able right.led;
        polled = polls_polled w i votes right.ledger able ∙ ap (λ p. p + 1) right.polled;
        below = polled_below (is_success w votes);
      }

-- ---- every call

-- by whether the call was taken: its words, and the history that it leaves
by_taken : (P : List ℕ → History → Type 0) (words : List ℕ) (later h : History) (taken : Bool)
    → (taken ≡ true → P words later) → (taken ≡ false → P words h) → P words (cond taken later h)
by_taken P words later h true t f = t refl
by_taken P words later h false t f = f refl

right_words : {w u : List ℕ} {h : History} → u ≡ w → Right w h → Right u h
right_words {h = h} e right = subst (λ x. Right x h) (sym e) right

pub opening_right : (w : List ℕ) (s : Setting) → is_taken (open_call w s).answer ≡ true → Right (open_call w s).words fresh
opening_right w s t = let o = open_taken w s t in right_words o.2 (opened_right s (opened_ledger s o.1))

book_right : (w : List ℕ) (h : History) (name slot : ℕ) (parents : List ℕ) (taken : Bool) → is_taken (book_call w name slot parents).answer ≡ taken
    → Right w h → Right (book_call w name slot parents).words h
book_right w h name slot parents true t right = let o = book_taken w name slot parents t in right_words o.2 (booked_right w h right name slot parents o.1)
book_right w h name slot parents false t right = right_words (book_kept w name slot parents t) right

poll_right : (w : List ℕ) (h : History) (name : ℕ) (votes : List ℕ) → is_taken (poll_call w name votes).answer ≡ true
    → Right w h → Right (poll_call w name votes).words (with_poll (is_success w votes) (number_of (look_up w name)) h)
poll_right w h name votes t right =
    let o = poll_taken w name votes t in right_words o.2 (polled_right w h right (number_of (look_up w name)) votes o.1)

-- ---- a taken reading: its opening, its bookings and its polls, one call after the other

-- calls in order keep what each of them keeps, as long as they are taken, where others are to come
in_order_kept : {A : Type 0} (call : A → List ℕ → Outcome) (Keeps : List A → List ℕ → Type 0)
    → ((x : A) (rest : List A) (w : List ℕ) → Keeps (x ∷ rest) w → is_taken (call x w).answer ≡ true → Keeps rest (call x w).words)
    → (xs : List A) (o : Outcome) → (is_taken o.answer ≡ true → Keeps xs o.words)
    → is_taken (in_order call xs o).answer ≡ true → Keeps [] (in_order call xs o).words
unfolding in_order
in_order_kept call Keeps each [] o kept taken = kept taken
in_order_kept call Keeps each (x ∷ xs) o kept taken =
    in_order_kept call Keeps each xs (following o.answer o.words (call x)) (go o.answer o.words kept) taken
  where
    go : (a : Answer) (w : List ℕ) → (is_taken a ≡ true → Keeps (x ∷ xs) w) → is_taken (following a w (call x)).answer ≡ true
        → Keeps xs (following a w (call x)).words
    go (Ok v) w k t = each x xs w (k refl) t
    go (Err r) w k t = absurd (true≢false (sym t))

-- a day's booking again
rebook_right : (h : History) (b : DayBooking) (w : List ℕ) → Right w h → is_taken (rebook_by test_of b w).answer ≡ true → Right (rebook_by test_of b w).words h
rebook_right h b w right taken =
    let r = rebook_taken b w taken in right_words r.words (booked_right w h right b.name b.slot (names_of w b.parents) r.able)

-- a day's poll again: its votes bring its outcome about
repoll_right : (h : History) (q : DayPoll) (w : List ℕ) → Right w h → is_taken (repoll_by test_of q w).answer ≡ true
    → Right (repoll_by test_of q w).words (with_poll q.success q.booking h)
repoll_right h q w right taken =
    let r = repoll_taken q w taken in
    let votes : List ℕ = votes_for w q.success in
    let good = right.ledger.sound.setting in
    right_words (r.words ∙ sym (polled_as w good q.booking q.success))
    (subst (λ s. Right (polled w q.booking votes) (with_poll s q.booking h)) (votes_decide w good q.success)
    (polled_right w h right q.booking votes r.able))

-- words that are right of some of a day's polls, where the others are to come
record Awaits (all : History) (rest : List DayPoll) (w : List ℕ) : Type 0 where
  history : History
  right : Right w history
  whole : with_polls rest history ≡ all

replay_right : (d : Day) → is_taken (replay d).answer ≡ true → Right (replay d).words (with_polls d.polls fresh)
unfolding replay with_polls
replay_right d taken =
    let open-words : List ℕ = replicate size 0 in
    let booked : Outcome = in_order (rebook_by test_of) d.bookings (open_call open-words d.setting) in
    let booked_right : is_taken booked.answer ≡ true → Right booked.words fresh =
    in_order_kept (rebook_by test_of) (λ rest w. Right w fresh) (λ b rest w right t. rebook_right fresh b w right t) d.bookings
    (open_call open-words d.setting) (opening_right open-words d.setting) in
    let ends : Awaits (with_polls d.polls fresh) [] (replay d).words =
    in_order_kept (repoll_by test_of) (Awaits (with_polls d.polls fresh))
    (λ q rest w awaits t. record {
      history = with_poll q.success q.booking awaits.history;
      right = repoll_right awaits.history q w awaits.right t;
      whole = awaits.whole;
    })
    d.polls booked (λ t. record { history = fresh; right = booked_right t; whole = refl }) taken in
    subst (Right (replay d).words) ends.whole ends.right

-- with other marks it is right still: nobody's confidence, ancestry, preference or poll is in them
but_right : (w v : List ℕ) (h : History) → ButMarks w v → Ledger v → Right w h → Right v h
but_right w v h but ledger right =
    let grown : Grown w v = but_grown w v but in
    let many : bookings v ≡ bookings w = many_same w v but in
    let confidence : (j : ℕ) → confidence_of v j ≡ confidence_of w j = λ j. but.same j confidence_field (omega arith) (omega arith) in
    record {
      ledger = ledger;
      counted = λ j l. rw (confidence j) (counted_grown w v right.ledger grown right.below (right.counted j (omega (arith, many))));
      summed =
          ap (total (confidence_of v)) many ∙ total_same (confidence_of v) (confidence_of w) (bookings w) (λ j l. confidence j)
          ∙ right.summed ∙ sym (sizes_grown w v right.ledger grown right.below);
      led = λ i l.
          let slot : preferred_in v (slot_of v i) ≡ preferred_in w (slot_of w i) =
          ap (preferred_in v) (slot_same w v but i) ∙ but.entries (slot_of w i) preferred_field in
          omega (arith, confidence i, right.led i (omega (arith, many)), ap (confidence_of v) slot, confidence (preferred_in w (slot_of w i)));
      polled = but.head polls_field (omega arith) ∙ right.polled;
      below = within_more grown.more right.below;
    }

made_words_right : (form : Form) (file : List ℕ) → good_in form file ≡ true → Right (words_in form file) (with_polls (decode file).polls fresh)
made_words_right First file good = replay_right (decode file) (good_taken First file good)
made_words_right Second file good =
    but_right (replay (decode file)).words (words_in Second file) (with_polls (decode file).polls fresh)
    (replayed_but (decode file) (good_taken Second file good) (decode_marked file).marks (second_right file good)) (made_ledger Second file good)
    (replay_right (decode file) (good_taken Second file good))

pub reading_right : (form : Form) (w file : List ℕ) → is_taken (read_file_call form w file).answer ≡ true
    → Right (read_file_call form w file).words (with_polls (decode file).polls fresh)
reading_right form w file t = let o = read_taken form w file t in right_words o.2 (made_words_right form file o.1)

-- ---- every call

pub step_right : (c : Call) (w : List ℕ) (h : History) → Right w h → Right (outcome_of c w).words (history_after c w h)
unfolding outcome_of history_after
step_right (Open s) w h right =
    by_taken Right (open_call w s).words fresh h (is_taken (open_call w s).answer) (opening_right w s) (λ f. right_words (open_kept w s f) right)
step_right (Book name slot parents) w h right = book_right w h name slot parents (is_taken (book_call w name slot parents).answer) refl right
step_right (Poll name votes) w h right =
    by_taken Right (poll_call w name votes).words (with_poll (is_success w votes) (number_of (look_up w name)) h) h (is_taken (poll_call w name votes).answer)
    (λ t. poll_right w h name votes t right)
    (λ f. right_words (poll_kept w name votes f) right)
step_right (Ask what name) w h right = right
step_right (WriteFile form buffer) w h right = right_words (write_words form w buffer) right
step_right (IndexBuild index) w h right = right_words (build_words w index) right
step_right (IndexEnter index) w h right = right_words (enter_words w index) right
step_right (IndexFind index name) w h right = right
step_right (ReadFile form file) w h right =
    by_taken Right (read_file_call form w file).words (with_polls (decode file).polls fresh) h (is_taken (read_file_call form w file).answer) (reading_right form w file)
    (λ f. right_words (read_kept form w file f) right)

-- a taken opening or reading makes it right, whatever the words and the history were
pub made_right : (c : Call) (w : List ℕ) (h : History) → opens c ≡ true → is_taken (outcome_of c w).answer ≡ true → Right (outcome_of c w).words (history_after c w h)
unfolding outcome_of history_after
made_right (Open s) w h m t = rw t (opening_right w s t)
made_right (Book name slot parents) w h m t = absurd (true≢false (sym m))
made_right (Poll name votes) w h m t = absurd (true≢false (sym m))
made_right (Ask what name) w h m t = absurd (true≢false (sym m))
made_right (WriteFile form buffer) w h m t = absurd (true≢false (sym m))
made_right (IndexBuild index) w h m t = absurd (true≢false (sym m))
made_right (IndexEnter index) w h m t = absurd (true≢false (sym m))
made_right (IndexFind index name) w h m t = absurd (true≢false (sym m))
made_right (ReadFile form file) w h m t = rw t (reading_right form w file t)

run_right : (calls : List Call) (t : Station) → Right t.words t.history → Right (run calls t).words (run calls t).history
unfolding run
run_right [] t right = right
run_right (c ∷ calls) t right = run_right calls (step c t) (step_right c t.words t.history right)

after_right : (o : Opening) (calls : List Call) → Right (after o calls).words (after o calls).history
after_right o calls = run_right calls (step o.call (record { words = o.words; history = fresh })) (made_right o.call o.words fresh o.makes o.taken)

-- ---- the promises of demand 3

pub confidence_is_counted : ConfidenceIsCounted
unfolding ConfidenceIsCounted
confidence_is_counted o calls = (after_right o calls).counted

pub total_is_summed : TotalIsSummed
unfolding TotalIsSummed
total_is_summed o calls = (after_right o calls).summed

pub preferred_is_most : PreferredIsMost
unfolding PreferredIsMost
preferred_is_most o calls = (after_right o calls).led

pub polls_are_counted : PollsAreCounted
unfolding PollsAreCounted
polls_are_counted o calls = (after_right o calls).polled

pub run_sound : RunSound
unfolding RunSound
run_sound o calls = (after_right o calls).ledger
