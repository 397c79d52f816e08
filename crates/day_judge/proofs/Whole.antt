-- A file is good exactly if its parts are: the setting, the bookings behind their count, and the polls behind the bookings.
-- Rests on specs/Parts.antt. Assumes nothing.
use mathlib.Core.Path.{◌≡◌, sym, ap, ap₂, ◌∙◌}
use mathlib.Core.Bool.{Bool, true, ◌&&◌}
use mathlib.Core.List.{List, ◌++◌, append_assoc}
use Prim.Native.Nat.{ℕ, zero, suc, ◌<◌, ◌≤◌}
use native.Mathlib.Omega.{arith}
use lib.ListN.{length, drop}
use lib.Seq.{drop-append_seam}
use Rattle.loops.specs.Search.{all}
use Rattle.loops.proofs.Bools.{and_left, and_right, and_both}
use Rattle.loops.proofs.Search.{all→}
use Rattle.terms.specs.Setting.{is_good}
use Rattle.terms.specs.Answers.{is_taken}
use Rattle.rules.specs.Layout.{most_bookings}
use Rattle.day_file.specs.Day.{DayBooking, DayPoll, Day, booking_in}
use Rattle.day_file.specs.Bytes.{number_bytes, joined, setting_section, booking_bytes, bookings_section, polls_section, encode}
use Rattle.day_file.specs.Decode.{Read, read_many, read_counted, read_setting, read_booking, read_poll, decode}
use Rattle.day_file.specs.Replay.{same_list, replay, good_file}
use Rattle.day_file.specs.DayRules.{name_free, booking_passes, poll_passes, day_good}
use Rattle.day_file.proofs.Lengths.{length_encode}
use Rattle.day_file.proofs.ReadMany.{length_read_many}
use Rattle.day_file.proofs.SameList.{same_list_lem, list_same}
use Rattle.promises.proofs.Replayed.{replay_good}
use Rattle.day_judge.specs.Parts.{setting_end, SettingGood, behind, fields_good, parents_good, row_good, BookingsGood, PollsGood}
use Rattle.day_judge.proofs.Walk.{left_is, many_leave}
use Rattle.day_judge.proofs.Rules.{booking_rules, fields_number}
use Rattle.day_judge.proofs.Rows.{number_read_lem, booking_leaves}
use Rattle.day_judge.proofs.Settings.{setting_left}

-- ---- the bookings

-- they are few enough
pub bookings_few : (l : List ℕ) (n : ℕ) → BookingsGood l n → n < most_bookings
bookings_few l zero good = omega arith
bookings_few l (suc j) good =
    let bs = (read_many read_booking (suc j) l).value in
    let b = booking_in bs j in
    let own = and_right (name_free bs j) (row_good j b) (sym (booking_rules bs j) ∙ all→ (booking_passes bs) (suc j) good.rules j (omega arith)) in
    omega (arith, fields_number j b.slot (length b.parents) (and_left (fields_good j b.slot (length b.parents)) (parents_good j b.parents (length b.parents)) own))

-- ---- the rules of a day, one section after the other

module _ (d : Day) where
  abbrev setting_test : Bool
  setting_test = is_good d.setting

  abbrev bookings_test : Bool
  bookings_test = all (booking_passes d.bookings) (length d.bookings)

  abbrev polls_test : Bool
  polls_test = all (poll_passes (length d.bookings) d.polls) (length d.polls)

  module _ (good : day_good d ≡ true) where
    setting_ruled : setting_test ≡ true
    unfolding day_good
    setting_ruled = and_left setting_test bookings_test (and_left (setting_test && bookings_test) polls_test good)

    bookings_ruled : bookings_test ≡ true
    unfolding day_good
    bookings_ruled = and_right setting_test bookings_test (and_left (setting_test && bookings_test) polls_test good)

    polls_ruled : polls_test ≡ true
    unfolding day_good
    polls_ruled = and_right (setting_test && bookings_test) polls_test good

  all_ruled : setting_test ≡ true → bookings_test ≡ true → polls_test ≡ true → day_good d ≡ true
  unfolding day_good
  all_ruled s b p = and_both (setting_test && bookings_test) polls_test (and_both setting_test bookings_test s b) p

  -- ---- and its bytes

  abbrev behind_setting : List ℕ
  behind_setting = bookings_section d.bookings ++ polls_section d.polls

  encode_setting : encode d ≡ setting_section d.setting ++ behind_setting
  unfolding encode
  encode_setting = append_assoc (setting_section d.setting) (bookings_section d.bookings) (polls_section d.polls)

  encode_left : (file : List ℕ) → encode d ≡ file → drop (length (setting_section d.setting)) file ≡ behind_setting
  encode_left file e =
      ap (drop (length (setting_section d.setting))) (sym e ∙ encode_setting) ∙ drop-append_seam (setting_section d.setting) behind_setting

  bookings_counted : behind_setting ≡ number_bytes (length d.bookings) ++ (joined booking_bytes d.bookings ++ polls_section d.polls)
  bookings_counted = append_assoc (number_bytes (length d.bookings)) (joined booking_bytes d.bookings) (polls_section d.polls)

-- ---- the whole

-- a good file is that of the day that it is read as, and the day is by the rules
module _ (file : List ℕ) (good : good_file file ≡ true) where
  good_bytes : encode (decode file) ≡ file
  unfolding good_file
  good_bytes = same_list_lem (encode (decode file)) file (and_left (same_list (encode (decode file)) file) (is_taken (replay (decode file)).answer) good)

  good_rules : day_good (decode file) ≡ true
  unfolding good_file
  good_rules = sym (replay_good (decode file)) ∙ and_right (same_list (encode (decode file)) file) (is_taken (replay (decode file)).answer) good

  pub good_least : 14 ≤ length file
  good_least = omega (arith, length_encode (decode file), ap length good_bytes)

  pub good_setting : SettingGood file
  unfolding decode
  good_setting =
      let d = decode file in
      record {
        laid = sym good_bytes ∙ encode_setting d ∙ ap (λ t. setting_section d.setting ++ t) (sym (encode_left d file good_bytes));
        rules = setting_ruled d good_rules;
      }

-- the sections behind the setting, where the count of the bookings was read
module _ (file sections : List ℕ) (here : sections ≡ drop (setting_end file) file) (n : ℕ) (small : n < 65536) (e : sections ≡ number_bytes n ++ drop 2 sections) where
  abbrev bookings : List DayBooking
  bookings = (read_many read_booking n (drop 2 sections)).value

  abbrev polls : List DayPoll
  polls = (read_counted read_poll (behind (drop 2 sections) n)).value

  -- the day that it is read as
  abbrev day : Day
  day = record { setting = (read_setting file).value; bookings = bookings; polls = polls }

  abbrev day_by : Read (List DayBooking) → Day
  day_by b = record { setting = (read_setting file).value; bookings = b.value; polls = (read_counted read_poll b.rest).value }

  many : length bookings ≡ n
  many = length_read_many read_booking n (drop 2 sections)

  day_is : SettingGood file → decode file ≡ day
  unfolding decode
  day_is good =
      ap (λ t. day_by (read_counted read_booking t)) (setting_left file good ∙ sym here) ∙ ap (λ (c : Read ℕ). day_by (read_many read_booking c.value c.rest)) (number_read_lem n small e)

  module _ (good : good_file file ≡ true) where
    day_bytes_lem : encode day ≡ file
    day_bytes_lem = ap encode (sym (day_is (good_setting file good))) ∙ good_bytes file good

    day_rules : day_good day ≡ true
    day_rules = ap day_good (sym (day_is (good_setting file good))) ∙ good_rules file good

    bookings_laid : drop 2 sections ≡ joined booking_bytes bookings ++ polls_section polls
    bookings_laid =
        ap (λ (m : Read ℕ). m.rest)
        (sym (number_read_lem n small e) ∙ number_read_lem (length bookings) (omega (arith, many)) (here ∙ encode_left day file day_bytes_lem ∙ bookings_counted day))

    polls_left : behind (drop 2 sections) n ≡ polls_section polls
    polls_left = left_is (joined booking_bytes) (read_many read_booking n) (many_leave booking_bytes read_booking booking_leaves n) (drop 2 sections) (polls_section polls) bookings_laid

    pub good_bookings : BookingsGood (drop 2 sections) n
    good_bookings = record {
      laid = bookings_laid ∙ ap (λ t. joined booking_bytes bookings ++ t) (sym polls_left);
      rules = sym (ap (all (booking_passes bookings)) many) ∙ bookings_ruled day day_rules;
    }

    pub good_polls : PollsGood n (behind (drop 2 sections) n)
    good_polls = record {
      laid = polls_left;
      rules = sym (ap (λ m. all (poll_passes m polls) (length polls)) many) ∙ polls_ruled day day_rules;
    }

  pub file_good : SettingGood file → BookingsGood (drop 2 sections) n → PollsGood n (behind (drop 2 sections) n) → good_file file ≡ true
  unfolding good_file
  file_good setting booked polled =
      let counted-laid : behind_setting day ≡ sections =
      bookings_counted day
      ∙ ap₂ (λ m t. number_bytes m ++ t) many (ap (λ t. joined booking_bytes bookings ++ t) (sym polled.laid) ∙ sym booked.laid) ∙ sym e in
      let bytes : encode day ≡ file = encode_setting day ∙ ap (λ t. setting_section (read_setting file).value ++ t) (counted-laid ∙ here) ∙ sym setting.laid in
      let rules : day_good day ≡ true =
      all_ruled day setting.rules (ap (all (booking_passes bookings)) many ∙ booked.rules) (ap (λ m. all (poll_passes m polls) (length polls)) many ∙ polled.rules) in
      and_both (same_list (encode (decode file)) file) (is_taken (replay (decode file)).answer)
      (list_same (encode (decode file)) file (ap encode (day_is setting) ∙ bytes))
      (replay_good (decode file) ∙ ap day_good (day_is setting) ∙ rules)
