-- CR 9: a good second-form file is a good first-form file with its marks behind it, and whatever stands behind a good first-form file makes it a good second-form
-- file exactly if it is a section of good marks. Assumes nothing.
use mathlib.Core.Path.{◌≡◌, refl, sym, ap, ap₂, subst, ◌∙◌}
use mathlib.Core.Bool.{true, ◌&&◌}
use mathlib.Core.List.{List, [], ◌∷◌, ◌++◌, append-nil, append_cancel_left}
use Prim.Native.Nat.{ℕ, zero, suc, ◌+◌, ◌*◌, ◌<◌, ◌≤◌}
use native.Mathlib.Omega.{arith}
use lib.ListN.{length, get_or, take, drop, length-append, length-drop, take-append-drop}
use lib.Seq.{drop-drop, take-append_seam}
use Rattle.loops.proofs.Bools.{and_left, and_right, and_both}
use Rattle.terms.specs.Answers.{is_taken}
use Rattle.day_file.specs.Day.{DayBooking, Day}
use Rattle.day_file.specs.Bytes.{number_bytes, encode, marks_section, encode_marked}
use Rattle.day_file.specs.Decode.{value_of, read_number, read_counted, decode, behind_day, marks_in, decode_marked}
use Rattle.day_file.specs.Marks.{marks_good, MarksRight}
use Rattle.day_file.specs.Replay.{same_list, replay, good_file, good_second}
use Rattle.day_file.proofs.Codec.{Each, Few, Short, DayFits, decode_front, behind_front, decode_encode, number_undone, counted_undone}
use Rattle.day_file.proofs.ReadMany.{length_read_many, read_many_at, numbers_leave}
use Rattle.day_file.proofs.FileBytes.{AreBytes, bytes_append, numbers_bytes, encode_bytes, decode_fits}
use Rattle.day_file.proofs.SameList.{same_list_lem, list_same}

-- ---- marks as numbers of two bytes

each_short : (l : List ℕ) → ((a : ℕ) → a < length l → get_or l a 0 < 65536) → Each Short l
each_short [] h = tt
each_short (x ∷ l) h = (h 0 (omega arith), each_short l (λ a u. h (suc a) (omega arith)))

-- how many are read off a section, and where each of them stands
pub marks_many : (section : List ℕ) → length (marks_in section) ≡ (read_number section).value
marks_many section = length_read_many read_number (value_of 2 section) (drop 2 section)

pub mark_read : (section : List ℕ) (a : ℕ) → a < length (marks_in section) → get_or (marks_in section) a 0 ≡ (read_number (drop (2 + 2 * a) section)).value
mark_read section a u =
    read_many_at read_number 0 (value_of 2 section) a (drop 2 section) (omega (arith, marks_many section))
    ∙ ap (λ l. (read_number l).value) (numbers_leave a (drop 2 section) ∙ drop-drop (2 * a) 2 section)

-- a section of marks is read as them
pub marks_read : (marks : List ℕ) → Few Short marks → (read_counted read_number (marks_section marks)).value ≡ marks
marks_read marks few =
    ap (λ l. (read_counted read_number l).value) (sym (append-nil (marks_section marks))) ∙ ap (λ o. o.value) ((counted_undone number_undone).undoes marks few [])

pub marks_few : (marks : List ℕ) (n : ℕ) → n ≤ 65536 → length marks < 65536 → ((a : ℕ) → a < length marks → get_or marks a 0 < n) → Few Short marks
marks_few marks n small long below = record { few = long; each = each_short marks (λ a u. omega (arith, below a u)) }

-- ---- the parts of a good second-form file

module _ (file : List ℕ) (good : good_second file ≡ true) where
  abbrev marks : List ℕ
  marks = (decode_marked file).marks

  pub second_encoded : encode (decode file) ++ marks_section marks ≡ file
  unfolding good_second
  second_encoded =
      same_list_lem (encode_marked (decode_marked file)) file
      (and_left (same_list (encode_marked (decode_marked file)) file) (is_taken (replay (decode file)).answer)
      (and_left (same_list (encode_marked (decode_marked file)) file && is_taken (replay (decode file)).answer) (marks_good (decode file).bookings marks) good))

  pub second_taken : is_taken (replay (decode file)).answer ≡ true
  unfolding good_second
  second_taken =
      and_right (same_list (encode_marked (decode_marked file)) file) (is_taken (replay (decode file)).answer)
      (and_left (same_list (encode_marked (decode_marked file)) file && is_taken (replay (decode file)).answer) (marks_good (decode file).bookings marks) good)

  pub second_marks : marks_good (decode file).bookings marks ≡ true
  unfolding good_second
  second_marks =
      and_right (same_list (encode_marked (decode_marked file)) file && is_taken (replay (decode file)).answer) (marks_good (decode file).bookings marks) good

  second_bytes : AreBytes file
  second_bytes = subst AreBytes second_encoded (bytes_append (encode (decode file)) (marks_section marks) (encode_bytes (decode file)) (numbers_bytes marks))

  pub second_fits : DayFits (decode file)
  second_fits = decode_fits file second_bytes

  -- its first three sections are a good first-form file of the same day
  pub front_day : decode (encode (decode file)) ≡ decode file
  front_day = decode_encode (decode file) second_fits

  pub front_good : good_file (encode (decode file)) ≡ true
  unfolding good_file
  front_good =
      and_both _ _ (list_same (encode (decode (encode (decode file)))) (encode (decode file)) (ap encode front_day))
      (ap (λ d. is_taken (replay d).answer) front_day ∙ second_taken)

  -- and the marks stand behind them
  pub second_behind : behind_day file ≡ marks_section marks
  second_behind = ap behind_day (sym second_encoded) ∙ behind_front (decode file) second_fits (marks_section marks)

  module _ (end : ℕ) (within : end ≤ length file) (there : drop end file ≡ behind_day file) where
    ends : end ≡ length (encode (decode file))
    ends =
        omega (
          arith,
          ap length (there ∙ second_behind),
          length-drop end file,
          ap length second_encoded,
          length-append (encode (decode file)) (marks_section marks),
        )

    pub front_cut : take end file ≡ encode (decode file)
    front_cut = ap₂ take ends (sym second_encoded) ∙ take-append_seam (encode (decode file)) (marks_section marks)

-- ---- what stands behind a good first-form file

module _ (front rest : List ℕ) (good : good_file front ≡ true) where
  front_encoded : encode (decode front) ≡ front
  unfolding good_file
  front_encoded = same_list_lem (encode (decode front)) front (and_left _ _ good)

  front_fits : DayFits (decode front)
  front_fits = decode_fits front (subst AreBytes front_encoded (encode_bytes (decode front)))

  pub joined_day : decode (front ++ rest) ≡ decode front
  joined_day = ap (λ f. decode (f ++ rest)) (sym front_encoded) ∙ decode_front (decode front) front_fits rest

  pub joined_behind : behind_day (front ++ rest) ≡ rest
  joined_behind = ap (λ f. behind_day (f ++ rest)) (sym front_encoded) ∙ behind_front (decode front) front_fits rest

  abbrev read : List ℕ
  read = (read_counted read_number rest).value

  pub joined_marks : (decode_marked (front ++ rest)).marks ≡ read
  joined_marks = ap (λ l. (read_counted read_number l).value) joined_behind

  joined_encoded : encode_marked (decode_marked (front ++ rest)) ≡ front ++ marks_section read
  joined_encoded = ap₂ (λ f l. f ++ marks_section l) (ap encode joined_day ∙ front_encoded) joined_marks

  pub joined_good : rest ≡ marks_section read → marks_good (decode front).bookings read ≡ true → good_second (front ++ rest) ≡ true
  unfolding good_second good_file
  joined_good laid right =
      and_both _ _
      (and_both _ _
      (list_same (encode_marked (decode_marked (front ++ rest))) (front ++ rest) (joined_encoded ∙ ap (λ l. front ++ l) (sym laid)))
      (ap (λ d. is_taken (replay d).answer) joined_day ∙ and_right (same_list (encode (decode front)) front) _ good))
      (ap₂ marks_good (ap (λ d. d.bookings) joined_day) joined_marks ∙ right)

  pub good_joined : good_second (front ++ rest) ≡ true → (rest ≡ marks_section read) × (marks_good (decode front).bookings read ≡ true)
  good_joined whole = (
    append_cancel_left front rest (marks_section read) (sym (second_encoded (front ++ rest) whole) ∙ joined_encoded),
    ap₂ marks_good (ap (λ d. d.bookings) (sym joined_day)) (sym joined_marks) ∙ second_marks (front ++ rest) whole,
  )
