-- Laws of the layout: reading after writing, to the same word and to another; lengths after writes.
-- Two words that differ in kind, in row or in field stand at different offsets, which is arithmetic. Assumes nothing.
use mathlib.Core.Path.{◌≡◌, refl, ◌∙◌}
use mathlib.Core.List.{List, [], ◌∷◌}
use mathlib.Core.Logic.{◌≢◌, ◌⊎◌, inl, inr, ⊎_elim}
use Prim.Native.Nat.{ℕ, zero, suc, ◌+◌, ◌<◌, ◌≤◌}
use native.Mathlib.Nat.{add-zero}
use native.Mathlib.Decide.{dec_lt}
use native.Mathlib.Omega.{arith}
use lib.ListN.{length, get_or, set, length-set}
use lib.Seq.{sets, get_or-set_same, get_or-set_other, length-sets}
use Rattle.rules.specs.Layout.{
  header_words,
  record_words,
  slot_words,
  most_bookings,
  record_at,
  slot_at,
  header,
  field,
  entry,
  polls_field,
  spare_field,
  with_header,
  with_field,
  with_entry,
  setting_in,
  name_of,
}

-- ---- a word of the header written

module _ (w : List ℕ) (f v : ℕ) where
  pub length_with_header : length (with_header w f v) ≡ length w
  length_with_header = length-set w f v

  pub header_with_header_same : f < length w → header (with_header w f v) f ≡ v
  header_with_header_same h = get_or-set_same w f v 0 h

  pub header_with_header_other : (g : ℕ) → g ≢ f → header (with_header w f v) g ≡ header w g
  header_with_header_other g d = get_or-set_other w f g v 0 d

  pub field_with_header_kept : (i g : ℕ) → f < header_words → field (with_header w f v) i g ≡ field w i g
  field_with_header_kept i g h = get_or-set_other w f (record_at i g) v 0 (λ e. omega arith)

  pub entry_with_header_kept : (s g : ℕ) → f < header_words → entry (with_header w f v) s g ≡ entry w s g
  entry_with_header_kept s g h = get_or-set_other w f (slot_at s g) v 0 (λ e. omega arith)

-- ---- a word of a record written

module _ (w : List ℕ) (i f v : ℕ) where
  pub length_with_field : length (with_field w i f v) ≡ length w
  length_with_field = length-set w (record_at i f) v

  pub header_with_field_kept : (g : ℕ) → g < header_words → header (with_field w i f v) g ≡ header w g
  header_with_field_kept g h = get_or-set_other w (record_at i f) g v 0 (λ e. omega arith)

  pub field_with_field_same : record_at i f < length w → field (with_field w i f v) i f ≡ v
  field_with_field_same h = get_or-set_same w (record_at i f) v 0 h

  -- another record
  pub field_with_field_other : (j g : ℕ) → f < record_words → g < record_words → j ≢ i → field (with_field w i f v) j g ≡ field w j g
  field_with_field_other j g hf hg d = get_or-set_other w (record_at i f) (record_at j g) v 0 (λ e. d (omega arith))

  -- another field, of any record
  pub field_with_field_beside : (j g : ℕ) → f < record_words → g < record_words → g ≢ f → field (with_field w i f v) j g ≡ field w j g
  field_with_field_beside j g hf hg d = get_or-set_other w (record_at i f) (record_at j g) v 0 (λ e. d (omega arith))

  pub entry_with_field_kept : (s g : ℕ) → i < most_bookings → f < record_words → entry (with_field w i f v) s g ≡ entry w s g
  entry_with_field_kept s g hi hf = get_or-set_other w (record_at i f) (slot_at s g) v 0 (λ e. omega arith)

-- ---- a word of a slot entry written

module _ (w : List ℕ) (s f v : ℕ) where
  pub length_with_entry : length (with_entry w s f v) ≡ length w
  length_with_entry = length-set w (slot_at s f) v

  pub header_with_entry_kept : (g : ℕ) → g < header_words → header (with_entry w s f v) g ≡ header w g
  header_with_entry_kept g h = get_or-set_other w (slot_at s f) g v 0 (λ e. omega arith)

  pub field_with_entry_kept : (i g : ℕ) → i < most_bookings → g < record_words → field (with_entry w s f v) i g ≡ field w i g
  field_with_entry_kept i g hi hg = get_or-set_other w (slot_at s f) (record_at i g) v 0 (λ e. omega arith)

  pub entry_with_entry_same : slot_at s f < length w → entry (with_entry w s f v) s f ≡ v
  entry_with_entry_same h = get_or-set_same w (slot_at s f) v 0 h

  -- another slot
  pub entry_with_entry_other : (t g : ℕ) → f < slot_words → g < slot_words → t ≢ s → entry (with_entry w s f v) t g ≡ entry w t g
  entry_with_entry_other t g hf hg d = get_or-set_other w (slot_at s f) (slot_at t g) v 0 (λ e. d (omega arith))

  -- another word, of any slot
  pub entry_with_entry_beside : (t g : ℕ) → f < slot_words → g < slot_words → g ≢ f → entry (with_entry w s f v) t g ≡ entry w t g
  entry_with_entry_beside t g hf hg d = get_or-set_other w (slot_at s f) (slot_at t g) v 0 (λ e. d (omega arith))

-- ---- a run of stores

-- before the run and after it every word stays
pub get_d_sets_out : (vs l : List ℕ) (i k : ℕ) → (k < i) ⊎ (i + length vs ≤ k) → get_or (sets l i vs) k 0 ≡ get_or l k 0
get_d_sets_out [] l i k h = refl
get_d_sets_out (a ∷ vs) l i k (inl h) = get_d_sets_out vs (set l i a) (suc i) k (inl (omega arith)) ∙ get_or-set_other l i k a 0 (λ e. omega arith)
get_d_sets_out (a ∷ vs) l i k (inr h) = get_d_sets_out vs (set l i a) (suc i) k (inr (omega arith)) ∙ get_or-set_other l i k a 0 (λ e. omega arith)

-- in the run stands what was stored
pub get_d_sets_in : (vs l : List ℕ) (i j : ℕ) → j < length vs → i + j < length l → get_or (sets l i vs) (i + j) 0 ≡ get_or vs j 0
get_d_sets_in [] l i j h e = absurd (omega arith)
get_d_sets_in (a ∷ vs) l i zero h e = rw add-zero (get_d_sets_out vs (set l i a) (suc i) i (inl (omega arith)) ∙ get_or-set_same l i a 0 (omega arith))
get_d_sets_in (a ∷ vs) l i (suc j) h e =
    let q : i + suc j ≡ suc i + j = omega arith in
    rw q (get_d_sets_in vs (set l i a) (suc i) j (omega arith) (omega (arith, length-set l i a)))

apart : (i j : ℕ) → j ≢ i → (j < i) ⊎ (i < j)
apart i j d = elim (dec_lt j i) [ yes h ↦ inl h | no h ↦ inr (omega arith) ]

-- ---- a record written from its first word on

module _ (w : List ℕ) (i : ℕ) (r : List ℕ) where
  pub length_sets_record : length (sets w (record_at i 0) r) ≡ length w
  length_sets_record = length-sets w (record_at i 0) r

  pub header_sets_record_kept : (g : ℕ) → g < header_words → header (sets w (record_at i 0) r) g ≡ header w g
  header_sets_record_kept g h = get_d_sets_out r w (record_at i 0) g (inl (omega arith))

  pub field_sets_record_same : (g : ℕ) → g < length r → record_at i g < length w → field (sets w (record_at i 0) r) i g ≡ get_or r g 0
  field_sets_record_same g h e =
      let q : record_at i 0 + g ≡ record_at i g = omega arith in
      rw (← q) (get_d_sets_in r w (record_at i 0) g h (omega arith))

  pub field_sets_record_other : (j g : ℕ) → length r ≤ record_words → g < record_words → j ≢ i → field (sets w (record_at i 0) r) j g ≡ field w j g
  field_sets_record_other j g h hg d =
      get_d_sets_out r w (record_at i 0) (record_at j g) (⊎_elim (λ (l : j < i). inl (omega arith)) (λ (l : i < j). inr (omega arith)) (apart i j d))

  pub entry_sets_record_kept : (s g : ℕ) → i < most_bookings → length r ≤ record_words → entry (sets w (record_at i 0) r) s g ≡ entry w s g
  entry_sets_record_kept s g hi h = get_d_sets_out r w (record_at i 0) (slot_at s g) (inr (omega arith))

-- ---- a slot entry written from its first word on

module _ (w : List ℕ) (s : ℕ) (r : List ℕ) where
  pub length_sets_entry : length (sets w (slot_at s 0) r) ≡ length w
  length_sets_entry = length-sets w (slot_at s 0) r

  pub header_sets_entry_kept : (g : ℕ) → g < header_words → header (sets w (slot_at s 0) r) g ≡ header w g
  header_sets_entry_kept g h = get_d_sets_out r w (slot_at s 0) g (inl (omega arith))

  pub field_sets_entry_kept : (i g : ℕ) → i < most_bookings → g < record_words → field (sets w (slot_at s 0) r) i g ≡ field w i g
  field_sets_entry_kept i g hi hg = get_d_sets_out r w (slot_at s 0) (record_at i g) (inl (omega arith))

  pub entry_sets_entry_same : (g : ℕ) → g < length r → slot_at s g < length w → entry (sets w (slot_at s 0) r) s g ≡ get_or r g 0
  entry_sets_entry_same g h e =
      let q : slot_at s 0 + g ≡ slot_at s g = omega arith in
      rw (← q) (get_d_sets_in r w (slot_at s 0) g h (omega arith))

  pub entry_sets_entry_other : (t g : ℕ) → length r ≤ slot_words → g < slot_words → t ≢ s → entry (sets w (slot_at s 0) r) t g ≡ entry w t g
  entry_sets_entry_other t g h hg d =
      get_d_sets_out r w (slot_at s 0) (slot_at t g) (⊎_elim (λ (l : t < s). inl (omega arith)) (λ (l : s < t). inr (omega arith)) (apart s t d))

-- ---- what is read from several words stays where they do

pub setting_in_kept : (w u : List ℕ) → ((g : ℕ) → 1 ≤ g → g < spare_field → g ≢ polls_field → header u g ≡ header w g) → setting_in u ≡ setting_in w
setting_in_kept w u h =
    simp (
      h 1 (omega arith) (omega arith) (omega arith),
      h 2 (omega arith) (omega arith) (omega arith),
      h 3 (omega arith) (omega arith) (omega arith),
      h 4 (omega arith) (omega arith) (omega arith),
      h 6 (omega arith) (omega arith) (omega arith),
    )

pub name_of_kept : (w u : List ℕ) (i j : ℕ) → ((g : ℕ) → g < 4 → field u i g ≡ field w j g) → name_of u i ≡ name_of w j
name_of_kept w u i j h = simp (h 0 (omega arith), h 1 (omega arith), h 2 (omega arith), h 3 (omega arith))
