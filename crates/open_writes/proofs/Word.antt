-- Word j of a newly opened ledger: the first ones from a table, then zeros, then the entries.
use Prim.Native.Nat.{ℕ, zero, suc, ◌+◌, ◌-◌, ◌/◌, ◌%◌, ◌≤◌, ◌<◌}
use mathlib.Core.Path.{◌≡◌, refl, ap, ◌∙◌}
use mathlib.Core.List.{◌++◌}
use native.Mathlib.Nat.{zero-add}
use native.Mathlib.Omega.{arith}
use lib.ListN.{get_or, get_or-replicate}
use native.Mathlib.Decide.{dec_lt}
use borrow.Author.Tests.{lt-ltb, le-ltb, ne_eqb}
use Rattle.terms.specs.declared.setting.Setting.{Setting}
use Rattle.loops.specs.Fill.{from}
use Rattle.loops.proofs.Fill.{get_d_from}
use Rattle.rules.specs.Layout.{header_words, record_words, slot_words, slots_start, slot_at, held_field}
use Rattle.rules.specs.Open.{open_header, genesis_record, open_entry, open_word}

-- the header and the genesis
abbrev pub first_words : ℕ
first_words = header_words + record_words

-- how many bookings slot 0 holds
abbrev pub first_held : ℕ
first_held = slot_at 0 held_field

first_words_lem : (s : Setting) → open_header s ++ genesis_record ≡ from (open_word s) 0 first_words
unfolding open_word from
first_words_lem s = refl

pub open_word_first : (s : Setting) (j : ℕ) → j < first_words → get_or (open_header s ++ genesis_record) j 0 ≡ open_word s j
open_word_first s j h = ap (λ l. get_or l j 0) (first_words_lem s) ∙ get_d_from (open_word s) 0 first_words j h ∙ ap (open_word s) (zero-add j)

pub open_word_entry : (s : Setting) (t f : ℕ) → f < slot_words → open_word s (slot_at t f) ≡ get_or (open_entry t) f 0
unfolding open_word
open_word_entry s t f h =
    let q : (slot_at t f - slots_start) / slot_words ≡ t = omega arith in
    let r : (slot_at t f - slots_start) % slot_words ≡ f = omega arith in
    simp (le-ltb (slot_at t f) header_words (omega arith), le-ltb (slot_at t f) slots_start (omega arith), q, r)

-- records after the genesis are all zero
open_word_record : (s : Setting) (j : ℕ) → first_words ≤ j → j < slots_start → open_word s j ≡ 0
unfolding open_word
open_word_record s j h l =
    let q : 1 ≤ (j - header_words) / record_words = omega arith in
    simp (le-ltb j header_words (omega arith), lt-ltb j slots_start l, ne_eqb ((j - header_words) / record_words) 0 (omega arith))
    (get_or-replicate record_words ((j - header_words) % record_words) 0 0 (omega arith))

-- and so is slot 0, up to how many bookings it holds
entry_zero : (f : ℕ) → f < held_field → get_or (open_entry 0) f 0 ≡ 0
entry_zero zero h = refl
entry_zero (suc zero) h = refl
entry_zero (suc (suc zero)) h = refl
entry_zero (suc (suc (suc f))) h = absurd (omega arith)

pub open_word_zero : (s : Setting) (j : ℕ) → first_words ≤ j → j < first_held → open_word s j ≡ 0
open_word_zero s j h l =
    elim (dec_lt j slots_start) [
      | yes d ↦ open_word_record s j h d
      | no d ↦
          let q : j ≡ slot_at 0 (j - slots_start) = omega arith in
          ap (open_word s) q ∙ open_word_entry s 0 (j - slots_start) (omega arith) ∙ entry_zero (j - slots_start) (omega arith)
    ]
