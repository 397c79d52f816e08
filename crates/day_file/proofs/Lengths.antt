-- CR 2 and CR 7: how long a day file is. Exactly, as a loop over the bookings counts it, for any words; and on a ledger from 14 to 12,266 bytes in edition 0, from
-- 16 to 12,268 in edition 1. Assumes nothing.
use mathlib.Core.Path.{◌≡◌, refl, ◌∙◌}
use mathlib.Core.Bool.{true, false, cond}
use mathlib.Core.List.{List, [], ◌∷◌, ◌++◌}
use Prim.Native.Nat.{ℕ, zero, suc, ◌+◌, ◌*◌, ◌-◌, ◌<◌, ◌≤◌}
use native.Mathlib.Decide.{dec_lt}
use native.Mathlib.Omega.{arith}
use lib.Dec.{eqb}
use lib.ListN.{length, length-append}
use Rattle.loops.specs.Fill.{from}
use Rattle.loops.specs.Total.{total}
use Rattle.loops.proofs.Fill.{length_from}
use Rattle.loops.proofs.Total.{total_same}
use Rattle.terms.specs.declared.setting.Setting.{Setting}
use Rattle.terms.specs.Setting.{setting_numbers}
use Rattle.rules.specs.Layout.{bookings, setting_in, polls, parent_of}
use Rattle.rules.specs.Sound.{Ledger}
use Rattle.day_file.specs.Day.{DayBooking, DayPoll, Day, parent_count, booking_at, holder, poll_of, day_of}
use Rattle.day_file.specs.Bytes.{
  high_first,
  number_bytes,
  name_bytes,
  joined,
  counted,
  setting_section,
  booking_bytes,
  bookings_section,
  poll_bytes,
  polls_section,
  encode,
  day_file,
}
use Rattle.day_file.specs.InTurn.{edition_length, booking_length}
use Rattle.day_file.proofs.Joined.{length_high_first, length_counted, length_joined, length_joined_even}
use Rattle.day_file.proofs.Parents.{parent_count_most, parent_count_lower}

-- ---- the parts

-- numbers after their count
length_numbers : (ns : List ℕ) → length (counted number_bytes ns) ≡ 2 + 2 * length ns
length_numbers ns = omega (arith, length_counted number_bytes ns, length_joined_even number_bytes 2 (length_high_first 2) ns)

-- four numbers, and the edition where it is written
pub length_setting_numbers : (s : Setting) → 2 * length (setting_numbers s) ≡ 8 + edition_length s.edition
unfolding edition_length
length_setting_numbers s =
    elim (eqb s.edition 0) as (λ b. 2 * length (s.k ∷ s.a ∷ s.beta1 ∷ s.beta2 ∷ cond b [] (s.edition ∷ [])) ≡ 8 + cond b 0 2) [ true ↦ refl | false ↦ refl ]

pub length_setting_section : (s : Setting) → length (setting_section s) ≡ 10 + edition_length s.edition
length_setting_section s = omega (arith, length_numbers (setting_numbers s), length_setting_numbers s)

pub edition_length_most : (edition : ℕ) → edition_length edition ≤ 2
unfolding edition_length
edition_length_most edition = elim (eqb edition 0) as (λ b. cond b 0 2 ≤ 2) [ true ↦ omega arith | false ↦ omega arith ]

pub length_booking_bytes : (b : DayBooking) → length (booking_bytes b) ≡ 12 + 2 * length b.parents
length_booking_bytes b =
    omega (
      arith,
      length-append (name_bytes b.name ++ number_bytes b.slot) (counted number_bytes b.parents),
      length-append (name_bytes b.name) (number_bytes b.slot),
      length_high_first 8 b.name,
      length_high_first 2 b.slot,
      length_numbers b.parents,
    )

pub length_poll_bytes : (q : DayPoll) → length (poll_bytes q) ≡ 4
unfolding high_first
length_poll_bytes q = refl

-- ---- the whole

pub length_encode : (d : Day)
    → length (encode d) ≡ 14 + edition_length d.setting.edition + length (joined booking_bytes d.bookings) + 4 * length d.polls
unfolding encode
length_encode d =
    omega (
      arith,
      length-append (setting_section d.setting ++ bookings_section d.bookings) (polls_section d.polls),
      length-append (setting_section d.setting) (bookings_section d.bookings),
      length_setting_section d.setting,
      length_counted booking_bytes d.bookings,
      length_counted poll_bytes d.polls,
      length_joined_even poll_bytes 4 length_poll_bytes d.polls,
    )

-- the first bookings, so many of them
pub length_bookings : (w : List ℕ) (n : ℕ) → length (joined booking_bytes (from (booking_at w) 1 n)) ≡ total (booking_length w) n
length_bookings w n =
    length_joined booking_bytes (booking_at w) 1 n
    ∙ total_same (λ j. length (booking_bytes (booking_at w (1 + j)))) (booking_length w) n (λ j u.
    let number : 1 + j ≡ j + 1 = omega arith in
    rw number (omega (arith, length_booking_bytes (booking_at w (j + 1)), length_from (parent_of w (j + 1)) 0 (parent_count w (j + 1)))))

pub length_day_file : (w : List ℕ)
    → length (day_file w) ≡ 14 + edition_length (setting_in w).edition + total (booking_length w) (bookings w - 1) + 4 * polls w
unfolding day_of
length_day_file w =
    omega (
      arith,
      length_encode (day_of w),
      length_bookings w (bookings w - 1),
      length_from (λ ordinal. poll_of w (holder w ordinal)) 1 (polls w),
    )

-- ---- bounds

-- the first bookings, so many of them, by four parents each
pub bookings_most_lem : (w : List ℕ) (n : ℕ) → total (booking_length w) n ≤ 20 * n
unfolding total
bookings_most_lem w zero = omega arith
bookings_most_lem w (suc n) = omega (arith, bookings_most_lem w n, parent_count_most w (n + 1))

-- bookings 1, 2 and 3 have no more than 1, 2 and 3 parents: 6, 4 and 2 bytes less
module _ (w : List ℕ) (ledger : Ledger w) where
  lower : (j : ℕ) → j + 1 < bookings w → parent_count w (j + 1) ≤ j + 1
  lower j u = parent_count_lower w (j + 1) (ledger.sound.booking (j + 1) (omega arith) u)

  bookings_less : (n : ℕ) → 3 + n < bookings w → total (booking_length w) (3 + n) + 12 ≤ 20 * (3 + n)
  unfolding total
  bookings_less zero u = omega (arith, lower 0 (omega arith), lower 1 (omega arith), lower 2 (omega arith))
  bookings_less (suc n) u =
      let more : 3 + suc n ≡ suc (3 + n) = omega arith in
      rw (more, total) (omega (arith, bookings_less n (omega arith), parent_count_most w (3 + n + 1)))

  -- the genesis alone
  pub day_file_least : 14 + edition_length (setting_in w).edition ≤ length (day_file w)
  day_file_least = omega (arith, length_day_file w)

  -- 512 bookings, 511 polls
  pub day_file_most : length (day_file w) ≤ 12266 + edition_length (setting_in w).edition
  day_file_most = go (dec_lt (bookings w) 4)
    where
      go : Dec (bookings w < 4) → length (day_file w) ≤ 12266 + edition_length (setting_in w).edition
      go (yes u) = omega (arith, length_day_file w, bookings_most_lem w (bookings w - 1), ledger.sound.polls_most)
      go (no u) =
          let rest : 3 + (bookings w - 4) ≡ bookings w - 1 = omega arith in
          omega (
            arith,
            length_day_file w,
            rw rest at (bookings_less (bookings w - 4) (omega arith)),
            ledger.sound.polls_most,
            ledger.sound.bookings_most,
          )
