-- CR 2: the polls, written in one pass over the records. Each record that was polled writes its four bytes at the place of its ordinal, and in the end
-- the polls stand in the order of their ordinals. Assumes nothing.
use mathlib.Core.Path.{◌≡◌, refl, sym, ◌∙◌}
use mathlib.Core.Bool.{Bool, true, false, cond}
use mathlib.Core.List.{List}
use mathlib.Core.Logic.{◌≢◌, ◌⊎◌, inl, inr}
use Prim.Native.Nat.{ℕ, ◌+◌, ◌*◌, ◌-◌, ◌/◌, ◌%◌, ◌<◌, ◌≤◌}
use native.Mathlib.Decide.{dec_lt}
use native.Mathlib.Omega.{arith}
use lib.ListN.{length, get_or}
use lib.Seq.{sets, length-sets, ext_get_or}
use lib.Dec.{eqb}
use borrow.Author.Tests.{eqb-false, ne_eqb}
use Rattle.loops.specs.Turns.{up_to}
use Rattle.loops.specs.Fill.{from}
use Rattle.loops.proofs.Fill.{length_from}
use Rattle.loops.proofs.Turns.{up_to_kept, up_to_since}
use Rattle.rules.specs.Layout.{bookings, polls, ordinal_of}
use Rattle.rules.specs.Sound.{Ledger}
use Rattle.rule_laws.proofs.Words.{get_d_sets_in, get_d_sets_out}
use Rattle.day_file.specs.Day.{holder, poll_of}
use Rattle.day_file.specs.Bytes.{joined, poll_bytes}
use Rattle.day_file.specs.InTurn.{poll_at, pair_at}
use Rattle.day_file.proofs.Joined.{length_joined_even, get_d_joined_even}
use Rattle.day_file.proofs.Lengths.{length_poll_bytes}
use Rattle.day_file.proofs.Holders.{holder_below, holder_holds}

-- ---- one record

module _ (w : List ℕ) (i : ℕ) where
  pub length_pair_at : (out : List ℕ) → length (pair_at w i out) ≡ length out
  unfolding pair_at
  length_pair_at out = go (eqb (ordinal_of w i) 0)
    where
      go : (t : Bool) → length (cond t out (sets out (poll_at (ordinal_of w i)) (poll_bytes (poll_of w i)))) ≡ length out
      go true = refl
      go false = length-sets out (poll_at (ordinal_of w i)) (poll_bytes (poll_of w i))

  -- a byte outside the poll's four stays
  pair_at_out : (out : List ℕ) (k : ℕ) → (ordinal_of w i ≢ 0 → (k < poll_at (ordinal_of w i)) ⊎ (poll_at (ordinal_of w i) + 4 ≤ k))
      → get_or (pair_at w i out) k 0 ≡ get_or out k 0
  unfolding pair_at
  pair_at_out out k outside = go (eqb (ordinal_of w i) 0) refl
    where
      beside : (k < poll_at (ordinal_of w i)) ⊎ (poll_at (ordinal_of w i) + 4 ≤ k)
          → (k < poll_at (ordinal_of w i)) ⊎ (poll_at (ordinal_of w i) + length (poll_bytes (poll_of w i)) ≤ k)
      beside (inl l) = inl l
      beside (inr l) = inr (omega (arith, length_poll_bytes (poll_of w i)))

      go : (t : Bool) → eqb (ordinal_of w i) 0 ≡ t → get_or (cond t out (sets out (poll_at (ordinal_of w i)) (poll_bytes (poll_of w i)))) k 0 ≡ get_or out k 0
      go true e = refl
      go false e = get_d_sets_out (poll_bytes (poll_of w i)) out (poll_at (ordinal_of w i)) k (beside (outside (eqb-false _ _ e)))

  -- byte r of the four
  pair_at_in : (out : List ℕ) (r : ℕ) → ordinal_of w i ≢ 0 → r < 4 → poll_at (ordinal_of w i) + r < length out
      → get_or (pair_at w i out) (poll_at (ordinal_of w i) + r) 0 ≡ get_or (poll_bytes (poll_of w i)) r 0
  unfolding pair_at
  pair_at_in out r polled u fits =
      rw (ne_eqb (ordinal_of w i) 0 polled)
      (get_d_sets_in (poll_bytes (poll_of w i)) out (poll_at (ordinal_of w i)) r (omega (arith, length_poll_bytes (poll_of w i))) fits)

-- ---- all records

module _ (w : List ℕ) (ledger : Ledger w) (out : List ℕ) (room : 2 + 4 * polls w ≤ length out) where
  abbrev ordered : List ℕ
  ordered = joined poll_bytes (from (λ ordinal. poll_of w (holder w ordinal)) 1 (polls w))

  abbrev in_turn : ℕ → List ℕ
  in_turn n = up_to (pair_at w) n out

  length_in_turn : (n : ℕ) → length (in_turn n) ≡ length out
  length_in_turn n = up_to_kept (pair_at w) (λ l. length l ≡ length out) n (λ j u l e. length_pair_at w j l ∙ e) out refl

  length_ordered : length ordered ≡ 4 * polls w
  length_ordered =
      omega (
        arith,
        length_joined_even poll_bytes 4 length_poll_bytes (from (λ ordinal. poll_of w (holder w ordinal)) 1 (polls w)),
        length_from (λ ordinal. poll_of w (holder w ordinal)) 1 (polls w),
      )

  -- before the polls and after them
  beside : (k : ℕ) → (k < 2) ⊎ (2 + 4 * polls w ≤ k) → get_or (in_turn (bookings w)) k 0 ≡ get_or (sets out 2 ordered) k 0
  beside k h =
      up_to_kept (pair_at w) (λ l. get_or l k 0 ≡ get_or out k 0) (bookings w) (λ j u l e. pair_at_out w j l k (records j u h) ∙ e) out refl
      ∙ sym (get_d_sets_out ordered out 2 k (run h))
    where
      records : (j : ℕ) → j < bookings w → (k < 2) ⊎ (2 + 4 * polls w ≤ k) → ordinal_of w j ≢ 0
          → (k < poll_at (ordinal_of w j)) ⊎ (poll_at (ordinal_of w j) + 4 ≤ k)
      records j u (inl l) polled = inl (omega arith)
      records j u (inr l) polled = inr (omega (arith, ledger.sound.ordinal_most j u))

      run : (k < 2) ⊎ (2 + 4 * polls w ≤ k) → (k < 2) ⊎ (2 + length ordered ≤ k)
      run (inl l) = inl l
      run (inr l) = inr (omega (arith, length_ordered))

  -- byte r of the poll that came after q others
  within : (q r : ℕ) → q < polls w → r < 4 → get_or (in_turn (bookings w)) (2 + (4 * q + r)) 0 ≡ get_or (sets out 2 ordered) (2 + (4 * q + r)) 0
  within q r l u =
      up_to_since (pair_at w) (λ a. get_or a (2 + (4 * q + r)) 0 ≡ get_or (poll_bytes (poll_of w who)) r 0) (bookings w) who below out made kept
      ∙ sym (get_d_sets_in ordered out 2 (4 * q + r) (omega (arith, length_ordered)) (omega arith)
      ∙ get_d_joined_even poll_bytes 4 length_poll_bytes (λ ordinal. poll_of w (holder w ordinal)) 1 (polls w) q r l u)
    where
      who : ℕ
      who = holder w (1 + q)

      below : who < bookings w
      below = holder_below w ledger.sound (1 + q) (omega arith) (omega arith)

      held : ordinal_of w who ≡ 1 + q
      held = holder_holds w ledger.sound (1 + q) (omega arith) (omega arith)

      place : poll_at (ordinal_of w who) + r ≡ 2 + (4 * q + r)
      place = omega (arith, held)

      made : get_or (pair_at w who (in_turn who)) (2 + (4 * q + r)) 0 ≡ get_or (poll_bytes (poll_of w who)) r 0
      made = rw (← place) (pair_at_in w who (in_turn who) r (λ z. omega (arith, held)) u (omega (arith, held, length_in_turn who)))

      -- a record of another ordinal writes elsewhere
      other : (j : ℕ) → ordinal_of w j ≢ 1 + q → ordinal_of w j ≢ 0 → Dec (ordinal_of w j < 1 + q)
          → (2 + (4 * q + r) < poll_at (ordinal_of w j)) ⊎ (poll_at (ordinal_of w j) + 4 ≤ 2 + (4 * q + r))
      other j differs polled (yes h) = inr (omega arith)
      other j differs polled (no h) = inl (omega arith)

      kept : (j : ℕ) → who < j → j < bookings w → (a : List ℕ)
          → get_or a (2 + (4 * q + r)) 0 ≡ get_or (poll_bytes (poll_of w who)) r 0
          → get_or (pair_at w j a) (2 + (4 * q + r)) 0 ≡ get_or (poll_bytes (poll_of w who)) r 0
      kept j m v a e =
          let differs : ordinal_of w j ≢ 1 + q =
          λ same. ledger.sound.ordinal_alone who j below v (omega arith) (λ z. omega (arith, held)) (held ∙ sym same) in
          pair_at_out w j a (2 + (4 * q + r)) (λ polled. other j differs polled (dec_lt (ordinal_of w j) (1 + q))) ∙ e

  -- the third section's polls, in the order of their ordinals, whatever the order of the records
  pub polls_in_order : up_to (pair_at w) (bookings w) out ≡ sets out 2 (joined poll_bytes (from (λ ordinal. poll_of w (holder w ordinal)) 1 (polls w)))
  polls_in_order =
      ext_get_or 0 (in_turn (bookings w)) (sets out 2 ordered) (length_in_turn (bookings w) ∙ sym (length-sets out 2 ordered)) (λ k u. each k (dec_lt k 2))
    where
      each : (k : ℕ) → Dec (k < 2) → get_or (in_turn (bookings w)) k 0 ≡ get_or (sets out 2 ordered) k 0
      each k (yes l) = beside k (inl l)
      each k (no l) = later (dec_lt k (2 + 4 * polls w))
        where
          place : 2 + (4 * ((k - 2) / 4) + (k - 2) % 4) ≡ k
          place = omega arith

          later : Dec (k < 2 + 4 * polls w) → get_or (in_turn (bookings w)) k 0 ≡ get_or (sets out 2 ordered) k 0
          later (yes u) = rw place at (within ((k - 2) / 4) ((k - 2) % 4) (omega arith) (omega arith))
          later (no u) = beside k (inr (omega arith))
