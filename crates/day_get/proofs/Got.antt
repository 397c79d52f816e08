-- Bytes that were read are those of the number that they make: two of a number, eight of a name, and a row of numbers, one more at a time.
use mathlib.Core.Path.{◌≡◌, refl, sym, ap, ap₂, ◌∙◌}
use mathlib.Core.List.{List, [], ◌∷◌, ◌++◌, append_assoc, append-nil}
use Prim.Native.Nat.{ℕ, zero, suc, ◌+◌, ◌-◌, ◌*◌, ◌/◌, ◌%◌, ◌^◌, ◌<◌, ◌≤◌}
use native.Mathlib.Nat.{add-zero}
use native.Mathlib.Omega.{arith}
use lib.Seq.{drop-cons}
use lib.ListN.{length, get_or, set, take, drop, length-take, take-append-drop}
use native.Mathlib.Decide.{dec_lt}
use Rattle.std.proofs.lemmas.List.{drop-drop, take_rest, get_or-take, get_or-drop, get_or_past}
use Rattle.std.specs.Int.{bytes_high_first}
use Rattle.rules.specs.Layout.{most_parents, none}
use Rattle.day_file.specs.Bytes.{high_first, number_bytes, joined}
use Rattle.day_file.specs.Decode.{Read, read_number, read_many}
use Rattle.day_file.specs.InTurn.{places}
use Rattle.day_file.proofs.Joined.{joined_append}
use Rattle.day_file.proofs.Codec.{number_undone}
use Rattle.day_file.proofs.Numbers.{word_bytes, high_first_bytes}
use Rattle.day_file.proofs.ReadMany.{length_read_many, read_many_more}

-- ---- a number

-- the bytes at the front of what stands from an offset on
module _ (file : List ℕ) (at b : ℕ) {bytes : List ℕ} (room : at + b ≤ length file) (front : bytes ≡ take b (take (length file - at) (drop at file))) where
  here : bytes ≡ take b (drop at file)
  here = front ∙ ap (take b) (take_rest file at)

  -- each is a byte
  pub bytes_small : ((i : ℕ) → get_or file i 0 < 256) → (i : ℕ) → get_or bytes i 0 < 256
  bytes_small small i = go (dec_lt i b)
    where
      go : Dec (i < b) → get_or bytes i 0 < 256
      go (yes u) = omega (arith, small (at + i), ap (λ l. get_or l i 0) here, get_or-take b (drop at file) i 0 u, get_or-drop at file i 0)
      go (no u) = omega (arith, get_or_past bytes i 0 (omega (arith, ap length here, length-take b (drop at file))))

  -- together they are those of the number
  pub bytes_got : (n : ℕ) → bytes_high_first b n ≡ bytes → drop at file ≡ high_first b n ++ drop (at + b) file
  bytes_got n told =
      sym (take-append-drop b (drop at file)) ∙ ap₂ ◌++◌ (sym here ∙ sym told ∙ high_first_bytes b n) (drop-drop b at file)

-- the two of a number, one by one
pub number_got : (file : List ℕ) (at : ℕ) → at + 2 ≤ length file → get_or file at 0 < 256 → get_or file (at + 1) 0 < 256
    → drop at file ≡ number_bytes (get_or file at 0 * 256 + get_or file (at + 1) 0) ++ drop (at + 2) file
number_got file at room high low =
    let next : suc at ≡ at + 1 = omega arith in
    let past : suc (at + 1) ≡ at + 2 = omega arith in
    let h = get_or file at 0 in
    let l = get_or file (at + 1) 0 in
    let top : (h * 256 + l) / 256 ≡ h = omega arith in
    let rest : (h * 256 + l) % 256 ≡ l = omega arith in
    let pair : h ∷ l ∷ [] ≡ number_bytes (h * 256 + l) = rw (top, rest) at (word_bytes (h * 256 + l) (omega arith)) in
    let first : drop at file ≡ h ∷ drop (at + 1) file = rw next at (drop-cons file at 0 (omega arith)) in
    let second : drop (at + 1) file ≡ l ∷ drop (at + 2) file = rw past at (drop-cons file (at + 1) 0 (omega arith)) in
    first ∙ ap (λ t. h ∷ t) second ∙ ap (λ p. p ++ drop (at + 2) file) pair

-- ---- several numbers

-- the numbers read off bytes, so many of them
abbrev pub numbers_of : ℕ → List ℕ → List ℕ
numbers_of n bytes = (read_many read_number n bytes).value

-- bytes that start with the numbers read off them, and what is behind those
pub record Starts (bytes : List ℕ) (n : ℕ) (rest : List ℕ) : Type 0 where
  pub behind : (read_many read_number n bytes).rest ≡ rest
  pub starts : bytes ≡ joined number_bytes (numbers_of n bytes) ++ rest

pub starts_none : (file : List ℕ) (at : ℕ) → Starts (drop at file) 0 (drop (at + 2 * 0) file)
unfolding read_many joined
starts_none file at = rw (add-zero at) (record { behind = refl; starts = refl })

joined_one_more : (ns : List ℕ) (v : ℕ) → joined number_bytes (ns ++ (v ∷ [])) ≡ joined number_bytes ns ++ number_bytes v
unfolding joined
joined_one_more ns v = joined_append number_bytes ns (v ∷ []) ∙ ap (λ l. joined number_bytes ns ++ l) (append-nil (number_bytes v))

-- so one more starts the bytes, if what is behind the others starts with it
pub starts_more : {bytes rest rest₁ : List ℕ} (n v : ℕ) → v < 65536 → Starts bytes n rest → rest ≡ number_bytes v ++ rest₁
    → Starts bytes (n + 1) rest₁ × (numbers_of (n + 1) bytes ≡ numbers_of n bytes ++ (v ∷ []))
starts_more {bytes} {rest} {rest₁} n v fits so e =
    let read : read_number (read_many read_number n bytes).rest ≡ record { value = v; rest = rest₁ } =
    ap read_number (so.behind ∙ e) ∙ number_undone.undoes v fits rest₁ in
    let whole : read_many read_number (n + 1) bytes ≡ record { value = numbers_of n bytes ++ (v ∷ []); rest = rest₁ } =
    read_many_more read_number n bytes
    ∙ ap (λ (m : Read ℕ). record { value = numbers_of n bytes ++ (m.value ∷ []); rest = m.rest }) read in
    let values : numbers_of (n + 1) bytes ≡ numbers_of n bytes ++ (v ∷ []) = ap (λ (m : Read (List ℕ)). m.value) whole in (
      record {
        behind = ap (λ (m : Read (List ℕ)). m.rest) whole;
        starts = so.starts ∙ ap (λ l. joined number_bytes (numbers_of n bytes) ++ l) e
            ∙ sym (append_assoc (joined number_bytes (numbers_of n bytes)) (number_bytes v) rest₁)
            ∙ ap (λ l. l ++ rest₁) (sym (ap (joined number_bytes) values ∙ joined_one_more (numbers_of n bytes) v));
      },
      values,
    )

-- ---- the four parent places

pub places_none : (bytes : List ℕ) → none ∷ none ∷ none ∷ none ∷ [] ≡ places (numbers_of 0 bytes)
unfolding read_many
places_none bytes = refl

-- the next number takes the next place
places_more : (ns : List ℕ) (v : ℕ) → length ns < most_parents → places (ns ++ (v ∷ [])) ≡ set (places ns) (length ns) v
places_more [] v h = refl
places_more (a ∷ []) v h = refl
places_more (a ∷ b ∷ []) v h = refl
places_more (a ∷ b ∷ c ∷ []) v h = refl
places_more (a ∷ b ∷ c ∷ d ∷ ns) v h = absurd (omega arith)

pub places_next : (file : List ℕ) (at n v : ℕ) {held : List ℕ} → n < most_parents → v < 65536 → held ≡ places (numbers_of n (drop at file))
    → Starts (drop at file) n (drop (at + 2 * n) file) → drop (at + 2 * n) file ≡ number_bytes v ++ drop (at + 2 * n + 2) file
    → (set held n v ≡ places (numbers_of (n + 1) (drop at file))) × Starts (drop at file) (n + 1) (drop (at + 2 * (n + 1)) file)
places_next file at n v room fits filled so e =
    let bytes = drop at file in
    let past : at + 2 * n + 2 ≡ at + 2 * (n + 1) = omega arith in
    let long = length_read_many read_number n bytes in
    let more = starts_more n v fits so (rw past at e) in
    let next = places_more (numbers_of n bytes) v (omega (arith, long)) ∙ ap (λ k. set (places (numbers_of n bytes)) k v) long in
    (ap (λ l. set l n v) filled ∙ sym (ap places more.1 ∙ next), more.0)
