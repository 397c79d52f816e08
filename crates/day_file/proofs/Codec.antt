-- CR 2, CR 4, CR 7 and CR 9: reading undoes writing. Each part is read off the front of its bytes, whatever follows them, so the parts can be read one after the other:
-- numbers, lists after their count, bookings, polls, the day. Two days with the same bytes are then the same day. Assumes nothing.
use mathlib.Core.Path.{◌≡◌, refl, sym, ap, ap₂, ◌∙◌}
use mathlib.Core.Bool.{Bool, true, false, cond}
use mathlib.Core.List.{List, [], ◌∷◌, ◌++◌, append_assoc, append-nil}
use Prim.Native.Nat.{ℕ, zero, suc, ◌+◌, ◌*◌, ◌/◌, ◌%◌, ◌^◌, ◌<◌}
use native.Mathlib.Nat.{pow-succ', one-le-pow, mod-eq_of_lt}
use native.Mathlib.Omega.{arith}
use lib.Arith.{mod-mul}
use lib.Dec.{eqb}
use lib.ListN.{length, get_or, drop}
use borrow.Author.Tests.{eqb-true}
use Rattle.loops.specs.Total.{bit}
use Rattle.loops.proofs.Total.{bit_le}
use Rattle.terms.specs.declared.setting.Setting.{Setting}
use Rattle.terms.specs.Setting.{setting_of, setting_numbers}
use Rattle.day_file.specs.Day.{DayBooking, DayPoll, Day}
use Rattle.day_file.specs.Bytes.{high_first, number_bytes, name_bytes, joined, counted, setting_section, booking_bytes, poll_bytes, encode}
use Rattle.day_file.specs.Decode.{
  Read,
  value_of,
  read_bytes,
  read_number,
  read_name,
  read_many,
  read_counted,
  read_setting,
  read_booking,
  read_poll,
  read_day,
  decode,
  behind_day,
}

-- a reader that undoes a writer, whatever follows: it reads what was written, and leaves what follows
pub record Undone {A : Type 0} (bytes : A → List ℕ) (read : List ℕ → Read A) (Fits : A → Type 0) : Type 0 where
  pub undoes : (x : A) → Fits x → (r : List ℕ) → read (bytes x ++ r) ≡ record { value = x; rest = r }

-- ---- numbers

-- one byte more says what stands above the others
digits : (b n : ℕ) → n % 256 ^ suc b ≡ (n / 256 ^ b % 256) * 256 ^ b + n % 256 ^ b
digits b n = ap (λ c. n % c) (pow-succ' 256 b) ∙ mod-mul n (omega arith) (one-le-pow b 256 (omega arith))

-- so many bytes of a number are read as what they can hold of it
value_of_high_first : (b n : ℕ) (r : List ℕ) → value_of b (high_first b n ++ r) ≡ n % 256 ^ b
unfolding high_first value_of
value_of_high_first zero n r = omega arith
value_of_high_first (suc b) n r = ap (λ v. (n / 256 ^ b % 256) * 256 ^ b + v) (value_of_high_first b n r) ∙ sym (digits b n)

drop_high_first : (b n : ℕ) (r : List ℕ) → drop b (high_first b n ++ r) ≡ r
unfolding high_first
drop_high_first zero n r = refl
drop_high_first (suc b) n r = drop_high_first b n r

-- and that is all of a number that needs no more
pub high_first_undone : (b : ℕ) → Undone (high_first b) (read_bytes b) (λ n. n < 256 ^ b)
high_first_undone b = record {
  undoes = λ n small r. ap₂ (λ v l. record { value = v; rest = l }) (value_of_high_first b n r ∙ mod-eq_of_lt small) (drop_high_first b n r);
}

-- what two bytes hold
abbrev pub Short : ℕ → Type 0
Short n = n < 65536

pub number_undone : Undone number_bytes read_number Short
number_undone = high_first_undone 2

pub name_undone : Undone name_bytes read_name (λ n. n < 2 ^ 64)
name_undone = high_first_undone 8

-- ---- one thing after another, and a thing by its parts

abbrev read_both : {A B : Type 0} → (List ℕ → Read A) → (List ℕ → Read B) → List ℕ → Read (A × B)
read_both front back bytes =
    let one = front bytes in
    let other = back one.rest in
    record { value = (one.value, other.value); rest = other.rest }

both_undone : {A B : Type 0} {f : A → List ℕ} {g : B → List ℕ} {p : List ℕ → Read A} {q : List ℕ → Read B} {F : A → Type 0} {G : B → Type 0}
    → Undone f p F → Undone g q G → Undone {A = A × B} (λ x. f x.0 ++ g x.1) (read_both p q) (λ x. F x.0 × G x.1)
both_undone {f = f} {g = g} {p = p} {q = q} front back = record {
  undoes = λ x fits r.
      ap (read_both p q) (append_assoc (f x.0) (g x.1) r)
      ∙ ap (λ one. let other = q one.rest in record { value = (one.value, other.value); rest = other.rest }) (front.undoes x.0 fits.0 (g x.1 ++ r))
      ∙ ap (λ other. record { value = (x.0, other.value); rest = other.rest }) (back.undoes x.1 fits.1 r);
}

abbrev read_whole : {A B : Type 0} → (B → A) → (List ℕ → Read B) → List ℕ → Read A
read_whole whole read bytes = let parts = read bytes in record { value = whole parts.value; rest = parts.rest }

parts_undone : {A B : Type 0} {f : B → List ℕ} {read : List ℕ → Read B} {F : B → Type 0} → Undone f read F
    → (parts : A → B) (whole : B → A) → ((x : A) → whole (parts x) ≡ x)
    → (Fits : A → Type 0) → ((x : A) → Fits x → F (parts x)) → Undone (λ x. f (parts x)) (read_whole whole read) Fits
parts_undone undone parts whole same Fits fits = record {
  undoes = λ x u r.
      ap (λ o. record { value = whole o.value; rest = o.rest }) (undone.undoes (parts x) (fits x u) r)
      ∙ ap (λ v. record { value = v; rest = r }) (same x);
}

-- ---- lists

-- what holds of each element
abbrev pub Each : {A : Type 0} → (A → Type 0) → List A → Type 0
Each P [] = Unit
Each P (x ∷ xs) = P x × Each P xs

-- and few enough to be counted in two bytes
pub record Few {A : Type 0} (P : A → Type 0) (xs : List A) : Type 0 where
  pub few : length xs < 65536
  pub each : Each P xs

module _ {A : Type 0} {bytes : A → List ℕ} {read : List ℕ → Read A} {Fits : A → Type 0} (undone : Undone bytes read Fits) where
  -- as many as there are
  pub joined_undone : (xs : List A) → Each Fits xs → (r : List ℕ) → read_many read (length xs) (joined bytes xs ++ r) ≡ record { value = xs; rest = r }
  unfolding joined read_many
  joined_undone [] fits r = refl
  joined_undone (x ∷ xs) fits r =
      ap (read_many read (suc (length xs))) (append_assoc (bytes x) (joined bytes xs) r)
      ∙ ap
      (λ one. let others = read_many read (length xs) one.rest in record { value = one.value ∷ others.value; rest = others.rest })
      (undone.undoes x fits.0 (joined bytes xs ++ r))
      ∙ ap (λ others. record { value = x ∷ others.value; rest = others.rest }) (joined_undone xs fits.1 r)

  -- after their count, if it fits two bytes
  pub counted_undone : Undone (counted bytes) (read_counted read) (Few Fits)
  counted_undone = record {
    undoes = λ xs fits r.
        ap (read_counted read) (append_assoc (number_bytes (length xs)) (joined bytes xs) r)
        ∙ ap (λ count. read_many read count.value count.rest) (number_undone.undoes (length xs) fits.few (joined bytes xs ++ r))
        ∙ joined_undone xs fits.each r;
  }

-- ---- the sections

pub record SettingFits (s : Setting) : Type 0 where
  pub k : Short s.k
  pub a : Short s.a
  pub beta1 : Short s.beta1
  pub beta2 : Short s.beta2
  pub edition : Short s.edition

pub record BookingFits (b : DayBooking) : Type 0 where
  pub name : b.name < 2 ^ 64
  pub slot : Short b.slot
  pub parents : Few Short b.parents

pub record PollFits (q : DayPoll) : Type 0 where
  pub booking : Short q.booking

pub record DayFits (d : Day) : Type 0 where
  pub setting : SettingFits d.setting
  pub bookings : Few BookingFits d.bookings
  pub polls : Few PollFits d.polls

-- the setting that a list of numbers is; an edition that isn't there is 0
abbrev numbers_setting : List ℕ → Setting
numbers_setting l = setting_of (get_or l 0 0) (get_or l 1 0) (get_or l 2 0) (get_or l 3 0) (get_or l 4 0)

-- an edition is told by its number, or by none if it is 0
edition_told : (s : Setting) (b : Bool) → eqb s.edition 0 ≡ b → get_or (cond b [] (s.edition ∷ [])) 0 0 ≡ s.edition
edition_told s true e = sym (eqb-true s.edition 0 e)
edition_told s false e = refl

numbers_setting_lem : (s : Setting) → numbers_setting (setting_numbers s) ≡ s
numbers_setting_lem s = ap (setting_of s.k s.a s.beta1 s.beta2) (edition_told s (eqb s.edition 0) refl)

numbers_fit : (s : Setting) → SettingFits s → Few Short (setting_numbers s)
numbers_fit s fits =
    elim (eqb s.edition 0) as (λ b. Few Short (s.k ∷ s.a ∷ s.beta1 ∷ s.beta2 ∷ cond b [] (s.edition ∷ []))) [
      | true ↦ record { few = omega arith; each = (fits.k, (fits.a, (fits.beta1, (fits.beta2, tt)))) }
      | false ↦ record { few = omega arith; each = (fits.k, (fits.a, (fits.beta1, (fits.beta2, (fits.edition, tt))))) }
    ]

pub setting_undone : Undone setting_section read_setting SettingFits
setting_undone = parts_undone (counted_undone number_undone) setting_numbers numbers_setting numbers_setting_lem SettingFits numbers_fit

pub booking_undone : Undone booking_bytes read_booking BookingFits
booking_undone =
    parts_undone (both_undone (both_undone name_undone number_undone) (counted_undone number_undone)) (λ b. ((b.name, b.slot), b.parents))
    (λ p. record { name = p.0.0; slot = p.0.1; parents = p.1 }) (λ b. refl)
    BookingFits (λ b fits. ((fits.name, fits.slot), fits.parents))

bit_undone : (b : Bool) → eqb (bit b) 1 ≡ b
bit_undone true = refl
bit_undone false = refl

pub poll_undone : Undone poll_bytes read_poll PollFits
poll_undone =
    parts_undone (both_undone number_undone number_undone) (λ q. (q.booking, bit q.success)) (λ p. record { booking = p.0; success = eqb p.1 1 })
    (λ q. ap (λ b. record { booking = q.booking; success = b }) (bit_undone q.success))
    PollFits (λ q fits. (fits.booking, omega (arith, bit_le q.success)))

-- ---- the day

day_undone : Undone encode read_day DayFits
unfolding encode
day_undone =
    parts_undone (both_undone (both_undone setting_undone (counted_undone booking_undone)) (counted_undone poll_undone))
    (λ d. ((d.setting, d.bookings), d.polls)) (λ p. record { setting = p.0.0; bookings = p.0.1; polls = p.1 }) (λ d. refl)
    DayFits (λ d fits. ((fits.setting, fits.bookings), fits.polls))

-- the day that stands at the front of some bytes is what they are read as
pub decode_front : (d : Day) → DayFits d → (r : List ℕ) → decode (encode d ++ r) ≡ d
unfolding decode
decode_front d fits r = ap (λ o. o.value) (day_undone.undoes d fits r)

-- and the others stand behind it
pub behind_front : (d : Day) → DayFits d → (r : List ℕ) → behind_day (encode d ++ r) ≡ r
unfolding behind_day
behind_front d fits r = ap (λ o. o.rest) (day_undone.undoes d fits r)

-- so a day's own file is read as that day
pub decode_encode : (d : Day) → DayFits d → decode (encode d) ≡ d
decode_encode d fits = ap decode (sym (append-nil (encode d))) ∙ decode_front d fits []

-- two days with the same bytes are the same day
pub encode_same : (d e : Day) → DayFits d → DayFits e → encode d ≡ encode e → d ≡ e
encode_same d e p q same = sym (decode_encode d p) ∙ ap decode same ∙ decode_encode e q
