-- CR 2, CR 4 and CR 7: a file is of bytes, and whatever bytes are read as fits them: a day that is read can be written. Assumes nothing.
use mathlib.Core.List.{List, [], ◌∷◌, ◌++◌}
use Prim.Native.Nat.{ℕ, zero, suc, ◌+◌, ◌*◌, ◌^◌, ◌<◌, ◌≤◌}
use native.Mathlib.Nat.{mul-le-mul_right, pow-suc}
use native.Mathlib.Omega.{arith}
use lib.ListN.{length, get_or, drop}
use lib.Seq.{get_or-drop}
use Rattle.loops.specs.Total.{bit}
use Rattle.terms.specs.Setting.{setting_numbers}
use Rattle.day_file.specs.Day.{DayBooking, DayPoll, Day}
use Rattle.day_file.specs.Bytes.{high_first, number_bytes, name_bytes, joined, counted, setting_section, booking_bytes, bookings_section, poll_bytes, polls_section, encode}
use Rattle.day_file.specs.Decode.{Read, value_of, read_bytes, read_number, read_many, read_counted, read_setting, read_booking, read_poll, decode}
use Rattle.day_file.proofs.Codec.{Short, Each, Few, SettingFits, BookingFits, PollFits, DayFits}
use Rattle.day_file.proofs.ReadMany.{length_read_many}

-- each is a byte
abbrev pub AreBytes : List ℕ → Type 0
AreBytes l = (k : ℕ) → get_or l k 0 < 256

-- ---- what is written

pub bytes_append : (a b : List ℕ) → AreBytes a → AreBytes b → AreBytes (a ++ b)
bytes_append [] b p q k = q k
bytes_append (x ∷ a) b p q zero = p 0
bytes_append (x ∷ a) b p q (suc k) = bytes_append a b (λ j. p (suc j)) q k

high_first_bytes : (b n : ℕ) → AreBytes (high_first b n)
unfolding high_first
high_first_bytes zero n k = omega arith
high_first_bytes (suc b) n zero = omega arith
high_first_bytes (suc b) n (suc k) = high_first_bytes b n k

module _ {A : Type 0} (bytes : A → List ℕ) (each : (x : A) → AreBytes (bytes x)) where
  joined_bytes : (xs : List A) → AreBytes (joined bytes xs)
  unfolding joined
  joined_bytes [] k = omega arith
  joined_bytes (x ∷ xs) k = bytes_append (bytes x) (joined bytes xs) (each x) (joined_bytes xs) k

  counted_bytes : (xs : List A) → AreBytes (counted bytes xs)
  counted_bytes xs = bytes_append (number_bytes (length xs)) (joined bytes xs) (high_first_bytes 2 (length xs)) (joined_bytes xs)

pub numbers_bytes : (ns : List ℕ) → AreBytes (counted number_bytes ns)
numbers_bytes = counted_bytes number_bytes (high_first_bytes 2)

booking_bytes_lem : (b : DayBooking) → AreBytes (booking_bytes b)
booking_bytes_lem b =
    bytes_append (name_bytes b.name ++ number_bytes b.slot) (counted number_bytes b.parents)
    (bytes_append (name_bytes b.name) (number_bytes b.slot) (high_first_bytes 8 b.name) (high_first_bytes 2 b.slot))
    (numbers_bytes b.parents)

poll_bytes_lem : (q : DayPoll) → AreBytes (poll_bytes q)
poll_bytes_lem q =
    bytes_append (number_bytes q.booking) (number_bytes (bit q.success)) (high_first_bytes 2 q.booking) (high_first_bytes 2 (bit q.success))

pub encode_bytes : (d : Day) → AreBytes (encode d)
unfolding encode
encode_bytes d =
    bytes_append (setting_section d.setting ++ bookings_section d.bookings) (polls_section d.polls)
    (bytes_append (setting_section d.setting) (bookings_section d.bookings) (numbers_bytes (setting_numbers d.setting)) (counted_bytes booking_bytes booking_bytes_lem d.bookings))
    (counted_bytes poll_bytes poll_bytes_lem d.polls)

-- ---- what is read

drop_bytes : (n : ℕ) (l : List ℕ) → AreBytes l → AreBytes (drop n l)
drop_bytes n l p k = omega (arith, get_or-drop n l k 0, p (n + k))

value_of_lt : (b : ℕ) (l : List ℕ) → AreBytes l → value_of b l < 256 ^ b
unfolding value_of
value_of_lt zero l p = omega arith
value_of_lt (suc b) l p =
    let top : get_or l 0 0 * 256 ^ b ≤ 255 * 256 ^ b = mul-le-mul_right (256 ^ b) (omega (arith, p 0)) in
    omega (arith, top, pow-suc 256 b, value_of_lt b (drop 1 l) (drop_bytes 1 l p))

-- a reader that reads off bytes what fits them, and leaves bytes
record Sure {A : Type 0} (read : List ℕ → Read A) (Fits : A → Type 0) : Type 0 where
  fits : (l : List ℕ) → AreBytes l → Fits (read l).value
  leaves : (l : List ℕ) → AreBytes l → AreBytes (read l).rest

bytes_sure : (b : ℕ) → Sure (read_bytes b) (λ n. n < 256 ^ b)
bytes_sure b = record { fits = value_of_lt b; leaves = drop_bytes b }

number_sure : Sure read_number Short
number_sure = bytes_sure 2

module _ {A : Type 0} {read : List ℕ → Read A} {Fits : A → Type 0} (sure : Sure read Fits) where
  many_fit : (n : ℕ) (l : List ℕ) → AreBytes l → Each Fits (read_many read n l).value
  unfolding read_many
  many_fit zero l p = tt
  many_fit (suc n) l p = (sure.fits l p, many_fit n (read l).rest (sure.leaves l p))

  many_leave : (n : ℕ) (l : List ℕ) → AreBytes l → AreBytes (read_many read n l).rest
  unfolding read_many
  many_leave zero l p = p
  many_leave (suc n) l p = many_leave n (read l).rest (sure.leaves l p)

  counted_sure : Sure (read_counted read) (Few Fits)
  counted_sure =
      record {
        fits = λ l p.
            record {
              few = omega (arith, length_read_many read (value_of 2 l) (drop 2 l), number_sure.fits l p);
              each = many_fit (value_of 2 l) (drop 2 l) (drop_bytes 2 l p);
            };
        leaves = λ l p. many_leave (value_of 2 l) (drop 2 l) (drop_bytes 2 l p);
      }

-- a number of a list of them, 0 past its end
get_d_short : (l : List ℕ) → Each Short l → (j : ℕ) → Short (get_or l j 0)
get_d_short [] p j = omega arith
get_d_short (x ∷ l) p zero = p.0
get_d_short (x ∷ l) p (suc j) = get_d_short l p.1 j

setting_sure : Sure read_setting SettingFits
setting_sure =
    record {
      fits = λ l p.
          let short = get_d_short (read_counted read_number l).value ((counted_sure number_sure).fits l p).each in
          record { k = short 0; a = short 1; beta1 = short 2; beta2 = short 3; edition = short 4 };
      leaves = (counted_sure number_sure).leaves;
    }

booking_sure : Sure read_booking BookingFits
booking_sure =
    record {
      fits = λ l p.
          let behind = drop_bytes 8 l p in
          record {
            name = (bytes_sure 8).fits l p;
            slot = number_sure.fits (drop 8 l) behind;
            parents = (counted_sure number_sure).fits (drop 2 (drop 8 l)) (drop_bytes 2 (drop 8 l) behind);
          };
      leaves = λ l p. (counted_sure number_sure).leaves (drop 2 (drop 8 l)) (drop_bytes 2 (drop 8 l) (drop_bytes 8 l p));
    }

poll_sure : Sure read_poll PollFits
poll_sure =
    record {
      fits = λ l p. record { booking = number_sure.fits l p };
      leaves = λ l p. drop_bytes 2 (drop 2 l) (drop_bytes 2 l p);
    }

pub decode_fits : (file : List ℕ) → AreBytes file → DayFits (decode file)
unfolding decode
decode_fits file p =
    let setting = read_setting file in
    let behind = setting_sure.leaves file p in
    let bookings = read_counted read_booking setting.rest in
    record {
      setting = setting_sure.fits file p;
      bookings = (counted_sure booking_sure).fits setting.rest behind;
      polls = (counted_sure poll_sure).fits bookings.rest ((counted_sure booking_sure).leaves setting.rest behind);
    }
