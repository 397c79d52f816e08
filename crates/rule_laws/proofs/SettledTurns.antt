-- What settling does: a member's turn changes only its own slot's preferred, last and counter, and these as its two rules say.
-- An invariant of the settling is carried turn by turn, with the records as they were at the start. Assumes nothing.
use mathlib.Core.Path.{◌≡◌, refl, ◌∙◌}
use mathlib.Core.Bool.{Bool, true, false, cond}
use mathlib.Core.List.{List}
use mathlib.Core.Logic.{◌≢◌, ◌⊎◌, inl, inr}
use Prim.Native.Nat.{ℕ, zero, suc, ◌+◌, ◌<◌, ◌≤◌}
use native.Mathlib.Omega.{arith}
use lib.ListN.{length}
use lib.Dec.{eqb}
use borrow.Author.Tests.{ltb-true, ltb-false, eqb-true, eqb-false}
use Rattle.loops.specs.Turns.{up_to}
use Rattle.terms.specs.Editions.{restart}
use Rattle.rules.specs.Layout.{
  size,
  slots,
  most_bookings,
  record_words,
  slot_words,
  slot_at,
  header,
  edition_field,
  field,
  entry,
  preferred_field,
  last_field,
  counter_field,
  slot_field,
  confidence_field,
  slot_of,
  confidence_of,
  preferred_in,
  last_in,
  counter_in,
  setting_in,
}
use Rattle.rules.specs.Ancestry.{is_member}
use Rattle.rules.specs.Poll.{prefer, follow, settle_one, settled}
use Rattle.rule_laws.proofs.Settled.{
  is_above,
  length_prefer,
  word_prefer_other,
  preferred_prefer_same,
  word_follow_other,
  last_follow_same,
  counter_follow_same,
  settle_one_member,
  settle_one_passed,
  length_settled,
  header_settled_kept,
  field_settled_kept,
}

-- ---- the turn of a member

-- q has no less confidence than j, and no less than p
abbrev pub Leads : List ℕ → (q j p : ℕ) → Type 0
Leads u q j p = (confidence_of u j ≤ confidence_of u q) × (confidence_of u p ≤ confidence_of u q)

-- from v to v' by the turn of member j, with the records of u
pub record Settles (u v v' : List ℕ) (j : ℕ) : Type 0 where
  pub others : (t g : ℕ) → t ≢ slot_of u j → g < slot_words → entry v' t g ≡ entry v t g
  pub preferred : (preferred_in v' (slot_of u j) ≡ j) ⊎ (preferred_in v' (slot_of u j) ≡ preferred_in v (slot_of u j))
  -- who is preferred now leads j and who was preferred
  pub leads : preferred_in v (slot_of u j) < most_bookings → Leads u (preferred_in v' (slot_of u j)) j (preferred_in v (slot_of u j))
  pub last : last_in v' (slot_of u j) ≡ j
  -- only who was last counts on; for another one the counter restarts
  pub counter : ((last_in v (slot_of u j) ≡ j) × (counter_in v' (slot_of u j) ≡ counter_in v (slot_of u j) + 1)) ⊎ ((last_in v (slot_of u j) ≢ j) × (counter_in v' (slot_of u j) ≡ restart (setting_in u).edition))

module _ (u v : List ℕ) (j : ℕ)
    (records : (i g : ℕ) → i < most_bookings → g < record_words → field v i g ≡ field u i g)
    (edition : header v edition_field ≡ header u edition_field)
    (below : j < most_bookings)
    (fits : slot_at (slot_of u j) counter_field < length v) where
  abbrev place : ℕ
  place = slot_of u j

  abbrev middle : List ℕ
  middle = prefer place j v

  abbrev end : List ℕ
  end = follow place j middle

  end_others : (t g : ℕ) → t ≢ place → g < slot_words → entry end t g ≡ entry v t g
  end_others t g d h =
      word_follow_other place j middle (slot_at t g) (λ e. d (omega arith)) (λ e. d (omega arith))
      ∙ word_prefer_other place j v (slot_at t g) (λ e. d (omega arith))

  end_preferred : preferred_in end place ≡ cond (is_above place j v) j (preferred_in v place)
  end_preferred =
      word_follow_other place j middle (slot_at place preferred_field) (λ e. omega arith) (λ e. omega arith)
      ∙ preferred_prefer_same place j v (omega arith)

  end_counter : counter_in end place ≡ cond (eqb (last_in v place) j) (counter_in v place + 1) (restart (setting_in u).edition)
  end_counter =
      counter_follow_same place j middle (omega (arith, length_prefer place j v))
      ∙ simp (
        word_prefer_other place j v (slot_at place last_field) (λ e. omega arith),
        word_prefer_other place j v (slot_at place counter_field) (λ e. omega arith),
        word_prefer_other place j v edition_field (λ e. omega arith),
        edition,
      )

  end_leads : preferred_in v place < most_bookings → Leads u (preferred_in end place) j (preferred_in v place)
  end_leads h = rw end_preferred (go (is_above place j v) refl)
    where
      same : (i : ℕ) → i < most_bookings → confidence_of v i ≡ confidence_of u i
      same i l = records i confidence_field l (omega arith)

      go : (b : Bool) → is_above place j v ≡ b → Leads u (cond b j (preferred_in v place)) j (preferred_in v place)
      go true e = omega (arith, ltb-true (confidence_of v (preferred_in v place)) (confidence_of v j) e, same j below, same (preferred_in v place) h)
      go false e = omega (arith, ltb-false (confidence_of v (preferred_in v place)) (confidence_of v j) e, same j below, same (preferred_in v place) h)

  end_settles : Settles u v end j
  end_settles = record {
    others = end_others;
    preferred = either (is_above place j v) end_preferred;
    leads = end_leads;
    last = last_follow_same place j middle (omega (arith, length_prefer place j v));
    counter = counted (eqb (last_in v place) j) refl end_counter;
  }
    where
      either : (b : Bool) → preferred_in end place ≡ cond b j (preferred_in v place) → (preferred_in end place ≡ j) ⊎ (preferred_in end place ≡ preferred_in v place)
      either true e = inl e
      either false e = inr e

      counted : (b : Bool) → eqb (last_in v place) j ≡ b → counter_in end place ≡ cond b (counter_in v place + 1) (restart (setting_in u).edition)
          → ((last_in v place ≡ j) × (counter_in end place ≡ counter_in v place + 1)) ⊎ ((last_in v place ≢ j) × (counter_in end place ≡ restart (setting_in u).edition))
      counted true q e = inl (eqb-true (last_in v place) j q, e)
      counted false q e = inr (eqb-false (last_in v place) j q, e)

-- ---- an invariant is carried through the turns

-- words whose n first records have slots
pub record SlotsFit (u : List ℕ) (n : ℕ) : Type 0 where
  pub whole : length u ≡ size
  pub few : n ≤ most_bookings
  pub fits : (j : ℕ) → j < n → slot_of u j < slots

module _ (m u : List ℕ) (P : ℕ → List ℕ → Type 0) where
  pub settled_carried : (n : ℕ) → SlotsFit u n
      → ((j : ℕ) (v : List ℕ) → is_member m j ≡ false → P j v → P (suc j) v)
      → ((j : ℕ) (v v' : List ℕ) → j < n → Settles u v v' j → P j v → P (suc j) v')
      → P 0 u → P n (settled m n u)
  unfolding up_to
  settled_carried zero able pass turn start = start
  settled_carried (suc n) able pass turn start = go (is_member m n) refl (settled_carried n fewer pass (λ j v v' l. turn j v v' (omega arith)) start)
    where
      fewer : SlotsFit u n
      fewer = record { whole = able.whole; few = omega arith; fits = λ j l. able.fits j (omega arith) }

      before : List ℕ
      before = settled m n u

      same : slot_of before n ≡ slot_of u n
      same = field_settled_kept m n u n slot_field (omega arith) (omega arith)

      settles : is_member m n ≡ true → Settles u before (settle_one m n before) n
      settles e =
          rw (settle_one_member m n before e, same)
          (end_settles u before n (field_settled_kept m n u) (header_settled_kept m n u edition_field (omega arith)) (omega arith) (omega (arith, length_settled m n u, able.fits n (omega arith))))

      go : (b : Bool) → is_member m n ≡ b → P n before → P (suc n) (settle_one m n before)
      go true e h = turn n before (settle_one m n before) (omega arith) (settles e) h
      go false e h = rw (settle_one_passed m n before e) (pass n before e h)
