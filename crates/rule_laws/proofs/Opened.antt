-- A newly opened ledger: its length, each of its words by where it stands, and that it is sound.
use mathlib.Core.Path.{◌≡◌, sym, ap, ◌∙◌}
use mathlib.Core.List.{[], ◌∷◌}
use mathlib.Core.Logic.{◌≢◌}
use Prim.Native.Nat.{ℕ, ◌-◌, ◌/◌, ◌%◌, ◌<◌}
use native.Mathlib.Nat.{zero-add}
use native.Mathlib.Omega.{arith}
use native.Mathlib.Decide.{ℕ_discrete}
use lib.ListN.{length, get_or, get_or-replicate}
use lib.Dec.{eqb}
use borrow.Author.Tests.{lt-ltb, le-ltb, ne_eqb}
use Rattle.loops.specs.Total.{bit, total}
use Rattle.loops.proofs.Fill.{length_from, get_d_from}
use Rattle.terms.specs.declared.setting.Setting.{Setting}
use Rattle.terms.specs.Setting.{Good}
use Rattle.rules.specs.Layout.{
  most_bookings,
  slots,
  most_parents,
  header_words,
  record_words,
  slot_words,
  slots_start,
  size,
  record_at,
  slot_at,
  none,
  header,
  field,
  entry,
  polls_field,
  spare_field,
  bookings,
  polls,
  slot_field,
  state_field,
  confidence_field,
  ordinal_field,
  mark_field,
  name_of,
  parent_of,
  confidence_of,
  ordinal_of,
  mark_of,
  preferred_field,
  last_field,
  counter_field,
  held_field,
  preferred_in,
  last_in,
  counter_in,
}
use Rattle.rules.specs.IsSound.{bookings_of}
use Rattle.rules.specs.Sound.{BookingOf, EmptyEntry, HeldEntry, Sound, Ledger}
use Rattle.rules.specs.Open.{open_header, genesis_record, open_record, open_entry, open_word, opened}
use Rattle.rule_laws.proofs.Bookings.{at_place}

pub length_opened : (s : Setting) → length (opened s) ≡ size
unfolding opened
length_opened s = length_from (open_word s) 0 size

-- each word is what the definition says of its place
pub word_opened : (s : Setting) (j : ℕ) → j < size → get_or (opened s) j 0 ≡ open_word s j
unfolding opened
word_opened s j u = rw zero-add at (get_d_from (open_word s) 0 size j u)

pub header_opened : (s : Setting) (f : ℕ) → f < header_words → header (opened s) f ≡ get_or (open_header s) f 0
unfolding open_word
header_opened s f u = word_opened s f (omega arith) ∙ rw (lt-ltb f header_words u)

pub field_opened : (s : Setting) (i f : ℕ) → i < most_bookings → f < record_words → field (opened s) i f ≡ get_or (open_record i) f 0
unfolding open_word
field_opened s i f u v =
    let quotient : (record_at i f - header_words) / record_words ≡ i = omega arith in
    let rest : (record_at i f - header_words) % record_words ≡ f = omega arith in
    word_opened s (record_at i f) (omega arith)
    ∙ rw (le-ltb (record_at i f) header_words (omega arith), lt-ltb (record_at i f) slots_start (omega arith), quotient, rest)

pub entry_opened : (s : Setting) (x f : ℕ) → x < slots → f < slot_words → entry (opened s) x f ≡ get_or (open_entry x) f 0
unfolding open_word
entry_opened s x f u v =
    let quotient : (slot_at x f - slots_start) / slot_words ≡ x = omega arith in
    let rest : (slot_at x f - slots_start) % slot_words ≡ f = omega arith in
    word_opened s (slot_at x f) (omega arith)
    ∙ rw (le-ltb (slot_at x f) header_words (omega arith), le-ltb (slot_at x f) slots_start (omega arith), quotient, rest)

-- ---- what is read of it

pub bookings_opened : (s : Setting) → bookings (opened s) ≡ 1
bookings_opened s = header_opened s 0 (omega arith)

pub genesis_opened : (s : Setting) (f : ℕ) → f < record_words → field (opened s) 0 f ≡ get_or genesis_record f 0
genesis_opened s f u = field_opened s 0 f (omega arith) u

-- every record after the genesis is zero
pub rest_opened : (s : Setting) (i f : ℕ) → 0 < i → i < most_bookings → f < record_words → field (opened s) i f ≡ 0
rest_opened s i f l u v = field_opened s i f u v ∙ rw (ne_eqb i 0 (omega arith)) (get_or-replicate record_words f 0 0 v)

-- the genesis is the one booking, and slot 0 its slot
pub bookings_of_opened : (s : Setting) (x : ℕ) → bookings_of (opened s) x ≡ bit (eqb 0 x)
unfolding bookings_of total
bookings_of_opened s x = rw (bookings_opened s, zero-add) (ap (λ y. bit (eqb y x)) (genesis_opened s slot_field (omega arith)))

-- ---- it is sound

module _ (s : Setting) where
  -- a number below n is the genesis's
  genesis_only : (i : ℕ) → i < bookings (opened s) → i ≡ 0
  genesis_only i u = omega (arith, bookings_opened s)

  genesis_name_lem : name_of (opened s) 0 ≡ 0
  genesis_name_lem =
      rw (genesis_opened s 0 (omega arith), genesis_opened s 1 (omega arith), genesis_opened s 2 (omega arith), genesis_opened s 3 (omega arith))

  genesis_parents_lem : (a : ℕ) → a < most_parents → parent_of (opened s) 0 a ≡ none
  genesis_parents_lem =
      at_place (λ a. parent_of (opened s) 0 a ≡ none) (genesis_opened s 5 (omega arith)) (genesis_opened s 6 (omega arith))
      (genesis_opened s 7 (omega arith)) (genesis_opened s 8 (omega arith))

  genesis_in : (i : ℕ) → i ≡ 0 → BookingOf (opened s) 0 i
  genesis_in i e = rw e (record { below = omega (arith, bookings_opened s); slot = genesis_opened s slot_field (omega arith) })

  held_first : HeldEntry (opened s) 0
  held_first = record {
    held = entry_opened s 0 held_field (omega arith) (omega arith) ∙ sym (bookings_of_opened s 0);
    preferred = genesis_in (preferred_in (opened s) 0) (entry_opened s 0 preferred_field (omega arith) (omega arith));
    last = genesis_in (last_in (opened s) 0) (entry_opened s 0 last_field (omega arith) (omega arith));
  }

  empty_other : (x : ℕ) → x < slots → x ≢ 0 → EmptyEntry (opened s) x
  empty_other x u q =
      let reads : (f : ℕ) → f < slot_words → entry (opened s) x f ≡ get_or (none ∷ none ∷ 0 ∷ 0 ∷ []) f 0
      = λ f v. entry_opened s x f u v ∙ rw (ne_eqb x 0 q) in
      record {
        no_preferred = reads preferred_field (omega arith);
        no_last = reads last_field (omega arith);
        no_counter = reads counter_field (omega arith);
        none_held = reads held_field (omega arith);
      }

  empty_entry_lem : (x : ℕ) → x < slots → bookings_of (opened s) x ≡ 0 → EmptyEntry (opened s) x
  empty_entry_lem x u e = empty_other x u (λ q. let z : bookings_of (opened s) 0 ≡ 0 = rw q at e in omega (arith, bookings_of_opened s 0))

  held_entry_lem : (x : ℕ) → x < slots → bookings_of (opened s) x ≢ 0 → HeldEntry (opened s) x
  held_entry_lem x u q = go (ℕ_discrete x 0)
    where
      go : Dec (x ≡ 0) → HeldEntry (opened s) x
      go (yes e) = rw e held_first
      go (no e) = absurd (q (bookings_of_opened s x ∙ ap bit (ne_eqb 0 x (λ z. e (sym z)))))

  counter_zero : (x : ℕ) → x < slots → counter_in (opened s) x ≡ 0
  counter_zero x u = go (ℕ_discrete x 0)
    where
      go : Dec (x ≡ 0) → counter_in (opened s) x ≡ 0
      go (yes e) = rw e (entry_opened s 0 counter_field (omega arith) (omega arith))
      go (no e) = (empty_other x u e).no_counter

  confidence_zero : (i : ℕ) → i < bookings (opened s) → confidence_of (opened s) i ≡ 0
  confidence_zero i u = rw (genesis_only i u) (genesis_opened s confidence_field (omega arith))

  ordinal_zero : (i : ℕ) → i < bookings (opened s) → ordinal_of (opened s) i ≡ 0
  ordinal_zero i u = rw (genesis_only i u) (genesis_opened s ordinal_field (omega arith))

  mark_one_lem : (i : ℕ) → i < bookings (opened s) → mark_of (opened s) i ≡ 1
  mark_one_lem i u = rw (genesis_only i u) (genesis_opened s mark_field (omega arith))

  pub Sound_opened : Good s → Sound (opened s)
  Sound_opened good =
      let one : bookings (opened s) ≡ 1 = bookings_opened s in
      let unpolled : polls (opened s) ≡ 0 = header_opened s polls_field (omega arith) in
      record {
        bookings_least = omega arith;
        bookings_most = omega arith;
        setting = omega (arith, header_opened s 1 (omega arith), header_opened s 2 (omega arith), header_opened s 3 (omega arith), header_opened s 4 (omega arith), header_opened s 6 (omega arith));
        polls_most = omega arith;
        spare_zero = header_opened s spare_field (omega arith);
        genesis_name = genesis_name_lem;
        genesis_slot = genesis_opened s slot_field (omega arith);
        genesis_parents = genesis_parents_lem;
        genesis_state = genesis_opened s state_field (omega arith);
        genesis_ordinal = genesis_opened s ordinal_field (omega arith);
        genesis_mark = genesis_opened s mark_field (omega arith);
        name_alone = λ i j u v q. absurd (omega arith);
        booking = λ i l u. absurd (omega arith);
        ordinal_most = λ i u. omega (arith, ordinal_zero i u);
        ordinal_held = λ o l u. absurd (omega arith);
        ordinal_alone = λ i j u v q. absurd (omega arith);
        mark_known = λ i u. omega (arith, mark_one_lem i u);
        mark_alone = λ i j u v q. absurd (omega arith);
        rest_zero = λ i f l u v. rest_opened s i f (omega arith) u v;
        empty_entry = empty_entry_lem;
        held_entry = held_entry_lem;
        confidence_most = λ i u. omega (arith, confidence_zero i u);
        counter_most = λ x u. omega (arith, counter_zero x u);
      }

  pub opened_ledger : Good s → Ledger (opened s)
  opened_ledger good = record { whole = length_opened s; sound = Sound_opened good }
