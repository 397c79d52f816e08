-- What is written of a setting is a section, in both editions, and so is what the loops over bookings and records write: its count, and then each of its rows.
use mathlib.Core.Path.{◌≡◌, refl, sym, ap, ap₂, subst, ◌∙◌}
use mathlib.Core.Bool.{cond}
use mathlib.Core.List.{List, [], ◌∷◌, ◌++◌, append-nil}
use mathlib.Core.Logic.{◌≢◌}
use Prim.Native.Nat.{ℕ, ◌+◌, ◌*◌, ◌≤◌}
use native.Mathlib.Omega.{arith}
use lib.ListN.{length}
use lib.Seq.{sets}
use borrow.Author.Tests.{eq-eqb, ne_eqb}
use Rattle.loops.specs.Turns.{up_to}
use Rattle.loops.specs.Fill.{from}
use Rattle.loops.specs.Total.{total}
use Rattle.loops.proofs.Fill.{length_from}
use Rattle.terms.specs.declared.setting.Setting.{Setting}
use Rattle.terms.specs.Setting.{setting_numbers}
use Rattle.rules.specs.Layout.{k_field, header, bookings, setting_in, polls, mark_of}
use Rattle.rules.specs.Sound.{Ledger}
use Rattle.put.specs.Put.{Put}
use Rattle.put.proofs.Puts.{put_none, put_then, put_past, put_length, sets_append}
use Rattle.day_file.specs.Day.{booking_at, holder, poll_of, marks_of}
use Rattle.day_file.specs.Bytes.{high_first, number_bytes, joined, setting_section, booking_bytes, bookings_section, poll_bytes, polls_section, marks_section}
use Rattle.day_file.specs.InTurn.{edition_length, booking_length, pair_at}
use Rattle.day_file.proofs.Joined.{joined_append, joined_more, length_high_first, length_joined_even}
use Rattle.day_file.proofs.Lengths.{length_setting_numbers, length_bookings}
use Rattle.day_file.proofs.MarksSoFar.{marks_so_far, marks_none, marks_whole, marked_more, unmarked_more}
use Rattle.day_file.proofs.Polls.{polls_in_order}

-- ---- the setting

module _ (s : Setting) where
  -- without the edition
  abbrev pub four : List ℕ
  four = s.k ∷ s.a ∷ s.beta1 ∷ s.beta2 ∷ []

  first_told : s.edition ≡ 0 → setting_numbers s ≡ four
  first_told e = ap (λ b. s.k ∷ s.a ∷ s.beta1 ∷ s.beta2 ∷ cond b [] (s.edition ∷ [])) (eq-eqb s.edition 0 e)

  later_told : s.edition ≢ 0 → setting_numbers s ≡ four ++ (s.edition ∷ [])
  later_told d = ap (λ b. s.k ∷ s.a ∷ s.beta1 ∷ s.beta2 ∷ cond b [] (s.edition ∷ [])) (ne_eqb s.edition 0 d)

  -- how many numbers there are
  pub first_count : s.edition ≡ 0 → length (setting_numbers s) ≡ 4
  first_count e = ap length (first_told e)

  pub later_count : s.edition ≢ 0 → length (setting_numbers s) ≡ 5
  later_count d = ap length (later_told d)

  -- where the edition stands, and that it has room there
  pub four_past : {numbers out out' : List ℕ} {at r : ℕ} → numbers ≡ four → Put out at (joined number_bytes numbers) r out' → (r ≡ at + 8) × (length out' ≡ length out)
  four_past {numbers = numbers} e p =
      put_past 8 (length_joined_even number_bytes 2 (length_high_first 2) numbers ∙ ap (λ l. 2 * length l) e) p

  pub later_room : s.edition ≢ 0 → edition_length s.edition ≡ 2
  later_room d = omega (arith, later_count d, length_setting_numbers s)

  -- the count, and as many numbers behind it as it says
  numbers_put : {count : ℕ} {rest out out' : List ℕ} {n : ℕ} → count ≡ length (setting_numbers s) → rest ≡ joined number_bytes (setting_numbers s)
      → Put out 0 (number_bytes count ++ rest) n out' → Put out 0 (setting_section s) n out'
  numbers_put {out = out} {out' = out'} {n = n} e f p = subst (λ l. Put out 0 l n out') (ap₂ (λ c l. number_bytes c ++ l) e f) p

  pub first_put : s.edition ≡ 0 → {count : ℕ} {numbers out out₁ out₂ : List ℕ} {m n : ℕ} → count ≡ length (setting_numbers s) → numbers ≡ four
      → Put out 0 (number_bytes count) m out₁ → Put out₁ m (joined number_bytes numbers) n out₂ → Put out 0 (setting_section s) n out₂
  first_put first e f p q = numbers_put e (ap (joined number_bytes) (f ∙ sym (first_told first))) (put_then p q)

  pub later_put : s.edition ≢ 0 → {count edition : ℕ} {numbers out out₁ out₂ out₃ : List ℕ} {m n r : ℕ} → count ≡ length (setting_numbers s) → numbers ≡ four
      → edition ≡ s.edition → Put out 0 (number_bytes count) m out₁ → Put out₁ m (joined number_bytes numbers) n out₂ → Put out₂ n (number_bytes edition) r out₃
      → Put out 0 (setting_section s) r out₃
  unfolding joined
  later_put later {edition = edition} {numbers = numbers} e f g p q t =
      let told : numbers ++ (edition ∷ []) ≡ setting_numbers s = ap₂ (λ l v. l ++ (v ∷ [])) f g ∙ sym (later_told later) in
      let last : joined number_bytes numbers ++ number_bytes edition ≡ joined number_bytes (setting_numbers s) =
      ap (λ l. joined number_bytes numbers ++ l) (sym (append-nil (number_bytes edition)))
      ∙ sym (joined_append number_bytes numbers (edition ∷ []))
      ∙ ap (joined number_bytes) told in
      numbers_put e last (put_then p (put_then q t))

-- the words that stand beside each other
pub four_words : (w : List ℕ) → from (header w) k_field 4 ≡ four (setting_in w)
unfolding from
four_words w = refl

-- ---- bookings

module _ (w : List ℕ) where
  -- the first j bookings
  abbrev pub bookings_so_far : ℕ → List ℕ
  bookings_so_far j = joined booking_bytes (from (booking_at w) 1 j)

  pub bookings_none : (out : List ℕ) (at : ℕ) → Put out at (bookings_so_far 0) at out
  unfolding joined from
  bookings_none out at = put_none out at

  pub bookings_more : (j : ℕ) {out out₁ out₂ : List ℕ} {at m n : ℕ} → Put out at (bookings_so_far j) m out₁
      → Put out₁ m (booking_bytes (booking_at w (j + 1))) n out₂ → Put out at (bookings_so_far (j + 1)) n out₂
  bookings_more j p q =
      let number : 1 + j ≡ j + 1 = omega arith in
      rw (joined_more booking_bytes (booking_at w) 1 j, number) (put_then p q)

  -- where the next booking starts
  pub bookings_past : (j : ℕ) {out out' : List ℕ} {at r : ℕ} → Put out at (bookings_so_far j) r out'
      → (r ≡ at + total (booking_length w) j) × (length out' ≡ length out)
  bookings_past j p = put_past (total (booking_length w) j) (length_bookings w j) p

  -- behind their count
  pub bookings_all : (j : ℕ) {count : ℕ} {out out₁ out₂ : List ℕ} {m n : ℕ} → count ≡ j → Put out 0 (number_bytes count) m out₁
      → Put out₁ m (bookings_so_far j) n out₂ → Put out 0 (bookings_section (from (booking_at w) 1 j)) n out₂
  bookings_all j e p q = rw (length_from (booking_at w) 1 j, ← e) (put_then p (rw (← e) at q))

-- ---- polls

pub polls_all : (w : List ℕ) → Ledger w → (out : List ℕ) {counted : List ℕ} {count m : ℕ} → 2 + 4 * polls w ≤ length out → count ≡ polls w
    → Put out 0 (number_bytes count) m counted
    → up_to (pair_at w) (bookings w) counted ≡ sets out 0 (polls_section (from (λ ordinal. poll_of w (holder w ordinal)) 1 (polls w)))
unfolding high_first
polls_all w ledger out {counted} {count} room e p =
    let ordered = from (λ ordinal. poll_of w (holder w ordinal)) 1 (polls w) in
    polls_in_order w ledger counted (omega (arith, put_length p))
    ∙ ap (λ l. sets l 2 (joined poll_bytes ordered)) p.after
    ∙ sym (sets_append out 0 (number_bytes count) (joined poll_bytes ordered))
    ∙ ap (λ n. sets out 0 (number_bytes n ++ joined poll_bytes ordered)) (e ∙ sym (length_from (λ ordinal. poll_of w (holder w ordinal)) 1 (polls w)))

-- ---- marks

module _ (w : List ℕ) where
  -- those of the first i bookings are written
  abbrev pub marks_put : List ℕ → ℕ → ℕ → ℕ → List ℕ → Type 0
  marks_put out at i r out' = Put out at (joined number_bytes (marks_so_far w i)) r out'

  pub marks_past : (i : ℕ) {out out' : List ℕ} {at r : ℕ} → marks_put out at i r out' → (r ≡ at + 2 * length (marks_so_far w i)) × (length out' ≡ length out)
  marks_past i p = put_past (2 * length (marks_so_far w i)) (length_joined_even number_bytes 2 (length_high_first 2) (marks_so_far w i)) p

  pub no_mark_put : (out : List ℕ) (at : ℕ) → marks_put out at 0 at out
  unfolding joined
  no_mark_put out at = rw (marks_none w) (put_none out at)

  pub mark_put : (i : ℕ) {v m n at : ℕ} {out out₁ out₂ : List ℕ} → v ≡ mark_of w i → v ≡ 1 → marks_put out at i m out₁ → Put out₁ m (number_bytes i) n out₂
      → marks_put out at (i + 1) n out₂
  unfolding joined
  mark_put i {n = n} {at = at} {out = out} {out₂ = out₂} e one p q =
      let told : joined number_bytes (marks_so_far w i) ++ number_bytes i ≡ joined number_bytes (marks_so_far w (i + 1)) =
      ap (λ l. joined number_bytes (marks_so_far w i) ++ l) (sym (append-nil (number_bytes i)))
      ∙ sym (joined_append number_bytes (marks_so_far w i) (i ∷ []))
      ∙ ap (joined number_bytes) (sym (marked_more w i e one)) in
      subst (λ l. Put out at l n out₂) told (put_then p q)

  pub none_put : (i : ℕ) {v m at : ℕ} {out out₁ : List ℕ} → v ≡ mark_of w i → v ≢ 1 → marks_put out at i m out₁ → marks_put out at (i + 1) m out₁
  none_put i {m = m} {at = at} {out = out} {out₁ = out₁} e other p = subst (λ l. Put out at (joined number_bytes l) m out₁) (sym (unmarked_more w i e other)) p

  -- behind their count
  pub marks_all : {count : ℕ} {out out₁ out₂ : List ℕ} {m n : ℕ} → count ≡ length (marks_of w) → Put out 0 (number_bytes count) m out₁ → marks_put out₁ m (bookings w) n out₂
      → out₂ ≡ sets out 0 (marks_section (marks_of w))
  marks_all {out = out} e p q = (put_then p q).after ∙ ap₂ (λ c l. sets out 0 (number_bytes c ++ joined number_bytes l)) e (sym (marks_whole w))
