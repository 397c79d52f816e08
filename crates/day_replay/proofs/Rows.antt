-- A row of a file, read number by number, is what the law reads there; and of rows one after the other each is read behind those before it. Assumes nothing.
use mathlib.Core.Path.{◌≡◌, refl, sym, ap, ◌∙◌}
use mathlib.Core.List.{List, [], ◌∷◌, ◌++◌, append_assoc}
use Prim.Native.Nat.{ℕ, zero, suc, ◌+◌, ◌*◌, ◌^◌, ◌<◌}
use native.Mathlib.Numerals.{add-one}
use native.Mathlib.Omega.{arith}
use lib.ListN.{length, get_or, drop}
use lib.Dec.{eqb}
use lib.Seq.{drop-cons, drop-drop, drop-length}
use Rattle.day_file.specs.Bytes.{number_bytes, name_bytes, joined}
use Rattle.day_file.specs.Decode.{Read, read_number, read_name, read_many, read_booking, read_poll}
use Rattle.day_file.proofs.Codec.{Undone, Each, number_undone, name_undone}

-- what holds of each element holds of each place
each_at : {A : Type 0} (P : A → Type 0) (xs : List A) → Each P xs → (d : A) (j : ℕ) → j < length xs → P (get_or xs j d)
each_at P [] each d j h = absurd (omega arith)
each_at P (x ∷ xs) each d zero h = each.0
each_at P (x ∷ xs) each d (suc j) h = each_at P xs each.1 d j (omega arith)

-- a number that is read twice is one number, with the same bytes behind it
pub number_told : (n v : ℕ) {l x y : List ℕ} → n < 65536 → v < 65536 → l ≡ number_bytes n ++ x → l ≡ number_bytes v ++ y → (n ≡ v) × (x ≡ y)
number_told n v {l} {x} {y} p q e f =
    let both : ◌≡◌ {A = Read ℕ} (record { value = n; rest = x }) (record { value = v; rest = y }) =
    sym (number_undone.undoes n p x) ∙ ap read_number (sym e ∙ f) ∙ number_undone.undoes v q y in
    (ap (λ (o : Read ℕ). o.value) both, ap (λ (o : Read ℕ). o.rest) both)

-- ---- rows one after the other

module _ {A : Type 0} (bytes : A → List ℕ) (d : A) (xs : List A) (tail : List ℕ) where
  -- those from row j on, and what is behind them
  abbrev pub rows_from : ℕ → List ℕ
  rows_from j = joined bytes (drop j xs) ++ tail

  -- row j stands in front of the others
  pub row_front : (j : ℕ) → j < length xs → rows_from j ≡ bytes (get_or xs j d) ++ rows_from (j + 1)
  unfolding joined
  row_front j h =
      rw (drop-cons xs j d h, add-one j) (append_assoc (bytes (get_or xs j d)) (joined bytes (drop (suc j) xs)) tail)

  pub row_read : {read : List ℕ → Read A} {Fits : A → Type 0} → Undone bytes read Fits → Each Fits xs → (j : ℕ) → j < length xs
      → read (rows_from j) ≡ record { value = get_or xs j d; rest = rows_from (j + 1) }
  row_read {read} {Fits} undone each j h =
      ap read (row_front j h) ∙ undone.undoes (get_or xs j d) (each_at Fits xs each d j h) (rows_from (j + 1))

  -- behind the last nothing but the tail is left
  pub rows_over : rows_from (length xs) ≡ tail
  unfolding joined
  rows_over = rw (drop-length xs)

-- ---- a row by its numbers

module _ (file : List ℕ) (at : ℕ) where
  numbers_rest : (n : ℕ) (bytes : List ℕ) → (read_many read_number n bytes).rest ≡ drop (2 * n) bytes
  unfolding read_many
  numbers_rest zero bytes = refl
  numbers_rest (suc n) bytes =
      let more : 2 + 2 * n ≡ 2 * suc n = omega arith in
      numbers_rest n (drop 2 bytes) ∙ drop-drop (2 * n) 2 bytes ∙ ap (λ k. drop k bytes) more

  -- the booking at the offset, as its parts are read
  pub booking_read : (name slot : ℕ) {n count : ℕ} → name < 2 ^ 64 → slot < 65536 → n < 65536 → count ≡ n
      → drop at file ≡ name_bytes name ++ drop (at + 8) file
      → drop (at + 8) file ≡ number_bytes slot ++ drop (at + 8 + 2) file
      → drop (at + 10) file ≡ number_bytes n ++ drop (at + 10 + 2) file
      → read_booking (drop at file)
      ≡ record {
        value = record { name = name; slot = slot; parents = (read_many read_number count (drop (at + 12) file)).value };
        rest = drop (at + 12 + 2 * count) file;
      }
  booking_read name slot {n} {count} p q r told e f g =
      let ten : at + 8 + 2 ≡ at + 10 = omega arith in
      let twelve : at + 10 + 2 ≡ at + 12 = omega arith in
      let named : read_name (drop at file) ≡ record { value = name; rest = drop (at + 8) file } = ap read_name e ∙ name_undone.undoes name p (drop (at + 8) file) in
      let placed : read_number (drop (at + 8) file) ≡ record { value = slot; rest = drop (at + 10) file } =
      ap read_number (rw ten at f) ∙ number_undone.undoes slot q (drop (at + 10) file) in
      let counted : read_number (drop (at + 10) file) ≡ record { value = count; rest = drop (at + 12) file } =
      ap read_number (rw twelve at g) ∙ number_undone.undoes n r (drop (at + 12) file) ∙ ap (λ v. record { value = v; rest = drop (at + 12) file }) (sym told) in
      let parents : Read ℕ → Read (List ℕ) = λ c. read_many read_number c.value c.rest in
      ap (λ (n : Read ℕ). let s = read_number n.rest in let c = parents (read_number s.rest) in record { value = record { name = n.value; slot = s.value; parents = c.value }; rest = c.rest }) named
      ∙ ap (λ (s : Read ℕ). let c = parents (read_number s.rest) in record { value = record { name = name; slot = s.value; parents = c.value }; rest = c.rest }) placed
      ∙ ap (λ (c : Read ℕ). record { value = record { name = name; slot = slot; parents = (parents c).value }; rest = (parents c).rest }) counted
      ∙ ap (λ l. record { value = record { name = name; slot = slot; parents = (read_many read_number count (drop (at + 12) file)).value }; rest = l })
      (numbers_rest count (drop (at + 12) file) ∙ drop-drop (2 * count) (at + 12) file)

  -- and the poll
  pub poll_read : {n i : ℕ} (outcome : ℕ) → n < 65536 → outcome < 65536 → i ≡ n → drop at file ≡ number_bytes n ++ drop (at + 2) file
      → drop (at + 2) file ≡ number_bytes outcome ++ drop (at + 2 + 2) file
      → read_poll (drop at file) ≡ record { value = record { booking = i; success = eqb outcome 1 }; rest = drop (at + 4) file }
  poll_read {n} {i} outcome p q told e f =
      let four : at + 2 + 2 ≡ at + 4 = omega arith in
      let polled : read_number (drop at file) ≡ record { value = i; rest = drop (at + 2) file } =
      ap read_number e ∙ number_undone.undoes n p (drop (at + 2) file) ∙ ap (λ v. record { value = v; rest = drop (at + 2) file }) (sym told) in
      let ended : read_number (drop (at + 2) file) ≡ record { value = outcome; rest = drop (at + 4) file } =
      ap read_number (rw four at f) ∙ number_undone.undoes outcome q (drop (at + 4) file) in
      ap (λ (n : Read ℕ). let o = read_number n.rest in record { value = record { booking = n.value; success = eqb o.value 1 }; rest = o.rest }) polled
      ∙ ap (λ (o : Read ℕ). record { value = record { booking = i; success = eqb o.value 1 }; rest = o.rest }) ended
