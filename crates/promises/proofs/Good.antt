-- A good file is the file of the day that it is read as, and that day's replay is a ledger that holds it. Rests on the laws of the codec and of the replay.
-- Assumes nothing.
use mathlib.Core.Path.{◌≡◌, refl, ap, subst, ◌∙◌}
use mathlib.Core.Bool.{true}
use mathlib.Core.List.{List}
use mathlib.Core.Logic.{⊎_elim}
use Prim.Native.Nat.{ℕ, zero, suc, ◌+◌, ◌-◌, ◌<◌, ◌≤◌}
use native.Mathlib.Nat.{eq-or-lt_of_le}
use native.Mathlib.Omega.{arith}
use lib.ListN.{get_or}
use Rattle.loops.proofs.Bools.{and_left, and_right}
use Rattle.terms.specs.Answers.{is_taken}
use Rattle.loops.specs.Fill.{from}
use Rattle.rules.specs.Layout.{bookings}
use Rattle.rules.specs.Sound.{Ledger}
use Rattle.day_file.specs.Day.{booking_at, day_of}
use Rattle.day_file.specs.Bytes.{encode, day_file}
use Rattle.day_file.specs.Decode.{decode}
use Rattle.day_file.specs.Replay.{same_list, replay, good_file}
use Rattle.day_file.proofs.Codec.{Each, BookingFits, DayFits, decode_encode}
use Rattle.promises.specs.DayFile.{Names64}
use Rattle.day_file.proofs.Fits.{day_of_fits}
use Rattle.day_file.proofs.SameList.{same_list_lem, list_same}
use Rattle.day_file.proofs.FileBytes.{encode_bytes, decode_fits}
use Rattle.promises.proofs.Stages.{replay_ledger, replayed_day}
use Rattle.promises.proofs.DayGood.{day_of_good}
use Rattle.promises.proofs.Replayed.{replay_good}

module _ (file : List ℕ) (good : good_file file ≡ true) where
  pub file_encoded : encode (decode file) ≡ file
  unfolding good_file
  file_encoded = same_list_lem (encode (decode file)) file (and_left _ _ good)

  pub replay_taken : is_taken (replay (decode file)).answer ≡ true
  unfolding good_file
  replay_taken = and_right (same_list (encode (decode file)) file) _ good

  -- bytes that a day was written with are below 256, so what is read from them fits
  pub file_fits : DayFits (decode file)
  file_fits = decode_fits file (λ k. subst (λ l. get_or l k 0 < 256) file_encoded (encode_bytes (decode file) k))

  pub file_ledger : Ledger (replay (decode file)).words
  file_ledger = replay_ledger (decode file) replay_taken

  pub file_day : day_of (replay (decode file)).words ≡ decode file
  file_day = replayed_day (decode file) replay_taken

  -- so it is the file of what it makes
  pub file_again : day_file (replay (decode file)).words ≡ file
  file_again = ap encode file_day ∙ file_encoded

-- the file of a ledger is read as the ledger's day
pub decode_day_file : (w : List ℕ) → Ledger w → Names64 w → decode (day_file w) ≡ day_of w
decode_day_file w ledger named = decode_encode (day_of w) (day_of_fits w ledger named)

-- and is good
pub day_file_good : (w : List ℕ) → Ledger w → Names64 w → good_file (day_file w) ≡ true
unfolding good_file
day_file_good w ledger named =
    rw (decode_day_file w ledger named, list_same (day_file w) (day_file w) refl, replay_good (day_of w), day_of_good w ledger)

-- what holds of each element holds of it at each number
each_number : {A : Type 0} (P : A → Type 0) (f : ℕ → A) (i n : ℕ) → Each P (from f i n) → (j : ℕ) → i ≤ j → j < i + n → P (f j)
unfolding from
each_number P f i zero each j l u = absurd (omega arith)
each_number P f i (suc n) each j l u =
    ⊎_elim (λ (e : i ≡ j). subst (λ k. P (f k)) e each.0) (λ (m : i < j). each_number P f (suc i) n each.1 j m (omega arith)) (eq-or-lt_of_le l)

-- a ledger whose day fits its bytes has names of 64 bits
pub names_fit : (w : List ℕ) → Ledger w → DayFits (day_of w) → Names64 w
unfolding day_of
names_fit w ledger fits zero u = omega (arith, ledger.sound.genesis_name)
names_fit w ledger fits (suc i) u =
    (each_number BookingFits (booking_at w) 1 (bookings w - 1) fits.bookings.each (suc i) (omega arith) (omega arith)).name
