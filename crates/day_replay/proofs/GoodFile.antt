-- A good file is the file of the day that it is read as, and each of that day's calls is taken: what its numbers are, and each turn of its replay.
use mathlib.Core.Path.{◌≡◌, sym, ap, subst, ◌∙◌}
use mathlib.Core.Bool.{Bool, true, cond}
use mathlib.Core.List.{List, [], ◌∷◌, ◌++◌, append_assoc, append-nil}
use mathlib.Core.Logic.{◌≢◌}
use Prim.Native.Nat.{ℕ, ◌+◌, ◌*◌, ◌<◌, ◌≤◌}
use native.Mathlib.Decide.{ℕ_discrete}
use native.Mathlib.Omega.{arith}
use lib.Dec.{eqb}
use lib.ListN.{length, drop, length-append, length-drop}
use borrow.Author.Tests.{eq-eqb, ne_eqb}
use Rattle.loops.proofs.Bools.{and_left, and_right}
use Rattle.terms.specs.declared.setting.Setting.{Setting}
use Rattle.terms.specs.Setting.{setting_of, setting_numbers}
use Rattle.terms.specs.Answers.{is_taken}
use Rattle.rules.specs.Open.{opened}
use Rattle.day_file.specs.Day.{DayBooking, DayPoll, Day, booking_in, poll_in}
use Rattle.day_file.specs.Bytes.{high_first, number_bytes, joined, counted, setting_section, booking_bytes, bookings_section, poll_bytes, polls_section, encode}
use Rattle.day_file.specs.Decode.{Read, read_booking, read_poll, decode}
use Rattle.day_file.specs.Replay.{same_list, replay, good_file}
use Rattle.day_file.specs.InTurn.{rebooked, repolled}
use Rattle.day_file.proofs.Joined.{length_counted}
use Rattle.day_file.proofs.Codec.{DayFits, booking_undone, poll_undone}
use Rattle.day_file.proofs.FileBytes.{AreBytes, encode_bytes, decode_fits}
use Rattle.day_file.proofs.SameList.{same_list_lem}
use Rattle.day_file.proofs.Lengths.{length_setting_numbers, edition_length_most, length_encode, length_booking_bytes, length_poll_bytes}
use Rattle.day_replay.specs.Rows.{behind_setting, Rebookable, Repollable, rebooked_once, repolled_once, Replayed}
use Rattle.promises.proofs.Stages.{stage_opened, stage_ledger, stage_booked, stage_polls, stage_poll_ledger, stage_polled, stage_ends}
use Rattle.day_replay.proofs.Rows.{number_told}
use Rattle.day_replay.proofs.Turns.{Turn, turn_over, turn_within, turn_read, turn_more}

-- ---- the turns of the two loops

module _ (file : List ℕ) where
  abbrev pub Booking : List ℕ → ℕ → ℕ → Type 0
  Booking = let d = decode file in Turn booking_bytes (booking_in [] 0) d.bookings (polls_section d.polls) (λ j. (rebooked d j).words) file

  abbrev pub Polling : List ℕ → ℕ → ℕ → Type 0
  Polling = let d = decode file in Turn poll_bytes (poll_in [] 0) d.polls [] (λ q. (repolled d q).words) file

module _ (file : List ℕ) (good : good_file file ≡ true) where
  abbrev d : Day
  d = decode file

  same : encode d ≡ file
  unfolding good_file
  same = same_list_lem (encode d) file (and_left _ _ good)

  pub taken : is_taken (replay d).answer ≡ true
  unfolding good_file
  taken = and_right (same_list (encode d) file) _ good

  fits : DayFits d
  fits = decode_fits file (subst AreBytes same (encode_bytes d))

  pub file_least : 14 ≤ length file
  file_least = omega (arith, ap length same, length_encode d)

  whole : file ≡ setting_section d.setting ++ behind_setting d
  unfolding encode
  whole = sym same ∙ append_assoc (setting_section d.setting) (bookings_section d.bookings) (polls_section d.polls)

  -- ---- the setting

  abbrev s : Setting
  s = d.setting

  -- each of its numbers stands two bytes behind the one before it
  k_at : drop 2 file ≡ number_bytes s.k ++ drop 4 file
  unfolding high_first joined
  k_at = ap (drop 2) whole ∙ ap (λ l. number_bytes s.k ++ drop 4 l) (sym whole)

  a_at : drop 4 file ≡ number_bytes s.a ++ drop 6 file
  unfolding high_first joined
  a_at = ap (drop 4) whole ∙ ap (λ l. number_bytes s.a ++ drop 6 l) (sym whole)

  beta1_at : drop 6 file ≡ number_bytes s.beta1 ++ drop 8 file
  unfolding high_first joined
  beta1_at = ap (drop 6) whole ∙ ap (λ l. number_bytes s.beta1 ++ drop 8 l) (sym whole)

  beta2_at : drop 8 file ≡ number_bytes s.beta2 ++ drop 10 file
  unfolding high_first joined
  beta2_at = ap (drop 8) whole ∙ ap (λ l. number_bytes s.beta2 ++ drop 10 l) (sym whole)

  -- and how many there are in front of them
  count_at : file ≡ number_bytes (length (setting_numbers s)) ++ drop 2 file
  unfolding high_first joined
  count_at = whole ∙ ap (λ l. number_bytes (length (setting_numbers s)) ++ drop 2 l) (sym whole)

  -- with the edition, or without
  numbers_by : {b : Bool} → eqb s.edition 0 ≡ b → file ≡ counted number_bytes (s.k ∷ s.a ∷ s.beta1 ∷ s.beta2 ∷ cond b [] (s.edition ∷ [])) ++ behind_setting d
  numbers_by e = whole ∙ ap (λ b. counted number_bytes (s.k ∷ s.a ∷ s.beta1 ∷ s.beta2 ∷ cond b [] (s.edition ∷ [])) ++ behind_setting d) e

  first_behind : s.edition ≡ 0 → drop 10 file ≡ behind_setting d
  unfolding high_first joined
  first_behind z = ap (drop 10) (numbers_by (eq-eqb s.edition 0 z))

  edition_at : s.edition ≢ 0 → drop 10 file ≡ number_bytes s.edition ++ behind_setting d
  unfolding high_first joined
  edition_at n = ap (drop 10) (numbers_by (ne_eqb s.edition 0 n))

  later_count : s.edition ≢ 0 → length (setting_numbers s) ≡ 5
  later_count n = ap (λ b. length (s.k ∷ s.a ∷ s.beta1 ∷ s.beta2 ∷ cond b [] (s.edition ∷ []))) (ne_eqb s.edition 0 n)

  first_count : s.edition ≡ 0 → length (setting_numbers s) ≡ 4
  first_count z = ap (λ b. length (s.k ∷ s.a ∷ s.beta1 ∷ s.beta2 ∷ cond b [] (s.edition ∷ []))) (eq-eqb s.edition 0 z)

  module _ (n : ℕ) (small : n < 65536) (e : file ≡ number_bytes n ++ drop 2 file) where
    count_told : n ≡ length (setting_numbers s)
    count_told =
        (number_told n (length (setting_numbers s)) small (omega (arith, length_setting_numbers s, edition_length_most s.edition)) e count_at).0

    -- four numbers are of edition 0
    four_told : n ≡ 4 → s.edition ≡ 0
    four_told four = go (ℕ_discrete s.edition 0)
      where
        go : Dec (s.edition ≡ 0) → s.edition ≡ 0
        go (yes z) = z
        go (no d) = absurd (omega (arith, four, count_told, later_count d))

    -- and others are not
    others_told : n ≢ 4 → s.edition ≢ 0
    others_told other z = other (count_told ∙ first_count z)

    module _ (k a beta1 beta2 : ℕ) (p : k < 65536) (q : a < 65536) (r : beta1 < 65536) (t : beta2 < 65536)
        (ek : drop 2 file ≡ number_bytes k ++ drop 4 file) (ea : drop 4 file ≡ number_bytes a ++ drop 6 file)
        (e1 : drop 6 file ≡ number_bytes beta1 ++ drop 8 file) (e2 : drop 8 file ≡ number_bytes beta2 ++ drop 10 file) where
      setting_read : (edition : ℕ) → edition ≡ s.edition → setting_of k a beta1 beta2 edition ≡ s
      setting_read edition same-edition =
          let same-k = (number_told k s.k p fits.setting.k ek k_at).0 in
          let same-a = (number_told a s.a q fits.setting.a ea a_at).0 in
          let same-beta1 = (number_told beta1 s.beta1 r fits.setting.beta1 e1 beta1_at).0 in
          let same-beta2 = (number_told beta2 s.beta2 t fits.setting.beta2 e2 beta2_at).0 in
          λ i. setting_of (same-k i) (same-a i) (same-beta1 i) (same-beta2 i) (same-edition i)

      pub first_read : n ≡ 4 → (setting_of k a beta1 beta2 0 ≡ s) × (drop 10 file ≡ behind_setting d)
      first_read four = (setting_read 0 (sym (four_told four)), first_behind (four_told four))

      pub later_read : n ≢ 4 → (edition : ℕ) → edition < 65536 → drop 10 file ≡ number_bytes edition ++ drop 12 file
          → (setting_of k a beta1 beta2 edition ≡ s) × (drop 12 file ≡ behind_setting d)
      later_read other edition u e3 =
          let told = number_told edition s.edition u fits.setting.edition e3 (edition_at (others_told other)) in
          (setting_read edition told.0, told.1)

  pub opened_first : {w : List ℕ} {t : Setting} → w ≡ opened t → t ≡ s → w ≡ (rebooked d 0).words
  opened_first e same = e ∙ ap opened same ∙ sym (stage_opened d taken)

  -- ---- bookings

  module _ (at : ℕ) (section : drop at file ≡ behind_setting d) where
    pub booking_room : at + 2 ≤ length file
    booking_room =
        omega (
          arith,
          ap length section,
          length-drop at file,
          length-append (bookings_section d.bookings) (polls_section d.polls),
          length_counted booking_bytes d.bookings,
        )

    -- behind the count
    pub booking_first : (n : ℕ) {count : ℕ} {w : List ℕ} → n < 65536 → count ≡ n → drop at file ≡ number_bytes n ++ drop (at + 2) file → w ≡ (rebooked d 0).words
        → (count ≡ length d.bookings) × Booking file w (at + 2) 0
    booking_first n small told e opened =
        let listed = append_assoc (number_bytes (length d.bookings)) (joined booking_bytes d.bookings) (polls_section d.polls) in
        let known = number_told n (length d.bookings) small fits.bookings.few e (section ∙ listed) in
        (told ∙ known.0, record { most = omega arith; words = opened; rows = known.1 })

  module _ {w : List ℕ} {at j : ℕ} (turn : Booking file w at j) (h : j < length d.bookings) where
    booking_is : (read_booking (drop at file)).value ≡ booking_in d.bookings j
    booking_is = ap (λ (o : Read DayBooking). o.value) (turn_read _ _ _ _ _ _ turn h booking_undone fits.bookings.each)

    pub booking_able : Rebookable w (read_booking (drop at file)).value × (at + (12 + 2 * length (read_booking (drop at file)).value.parents) ≤ length file)
    booking_able =
        let stage = stage_booked d taken j h in
        let b = booking_in d.bookings j in
        let ledger = stage_ledger d taken j turn.most in (
          subst (λ v. Rebookable v (read_booking (drop at file)).value) (sym turn.words)
              (subst (Rebookable (rebooked d j).words) (sym booking_is)
              (record { ledger = ledger.0; room = stage.2; slot = stage.1; few = stage.3 })),
          omega (arith, ap (λ (x : DayBooking). length x.parents) booking_is, turn_within _ _ _ _ _ _ turn h, length_booking_bytes b),
        )

    pub booking_more : {r : ℕ} {w' : List ℕ} → Replayed rebooked_once (read_booking (drop at file)) w file r w' → Booking file w' r (j + 1)
    booking_more = turn_more _ _ _ _ _ _ turn h booking_undone fits.bookings.each {once = rebooked_once} (stage_booked d taken j h).4

  pub booking_over : {w : List ℕ} {at j : ℕ} → Booking file w at j → length d.bookings ≤ j → (w ≡ (repolled d 0).words) × (drop at file ≡ polls_section d.polls)
  booking_over turn h =
      let over = turn_over _ _ _ _ _ _ turn h in
      (over.0 ∙ sym (stage_polls d taken), over.1)

  -- ---- polls

  module _ (at : ℕ) (section : drop at file ≡ polls_section d.polls) where
    pub poll_room : at + 2 ≤ length file
    poll_room = omega (arith, ap length section, length-drop at file, length_counted poll_bytes d.polls)

    pub poll_first : (n : ℕ) {count : ℕ} {w : List ℕ} → n < 65536 → count ≡ n → drop at file ≡ number_bytes n ++ drop (at + 2) file → w ≡ (repolled d 0).words
        → (count ≡ length d.polls) × Polling file w (at + 2) 0
    poll_first n small told e booked =
        let known = number_told n (length d.polls) small fits.polls.few e section in
        (told ∙ known.0, record { most = omega arith; words = booked; rows = known.1 ∙ sym (append-nil (joined poll_bytes d.polls)) })

  module _ {w : List ℕ} {at q : ℕ} (turn : Polling file w at q) (h : q < length d.polls) where
    poll_is : (read_poll (drop at file)).value ≡ poll_in d.polls q
    poll_is = ap (λ (o : Read DayPoll). o.value) (turn_read _ _ _ _ _ _ turn h poll_undone fits.polls.each)

    pub poll_able : Repollable w (read_poll (drop at file)).value × (at + 4 ≤ length file)
    poll_able = (
      subst (λ v. Repollable v (read_poll (drop at file)).value) (sym turn.words)
          (subst (Repollable (repolled d q).words) (sym poll_is)
          (record { ledger = stage_poll_ledger d taken q turn.most; booked = (stage_polled d taken q h).0; waiting = (stage_polled d taken q h).1 })),
      omega (arith, turn_within _ _ _ _ _ _ turn h, length_poll_bytes (poll_in d.polls q)),
    )

    pub poll_more : {r : ℕ} {w' : List ℕ} → Replayed repolled_once (read_poll (drop at file)) w file r w' → Polling file w' r (q + 1)
    poll_more = turn_more _ _ _ _ _ _ turn h poll_undone fits.polls.each {once = repolled_once} (stage_polled d taken q h).2

  pub poll_over : {w : List ℕ} {at q : ℕ} → Polling file w at q → length d.polls ≤ q → w ≡ (replay d).words
  poll_over turn h = (turn_over _ _ _ _ _ _ turn h).0 ∙ stage_ends d taken
