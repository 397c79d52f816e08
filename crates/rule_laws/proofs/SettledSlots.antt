-- What holds all through the settling of the members below n, each by an invariant of one slot or one booking.
-- A turn touches only the slot of its member: there it has the two rules, and elsewhere nothing. Assumes nothing.
use mathlib.Core.Path.{◌≡◌, refl, sym, ap, ◌∙◌}
use mathlib.Core.Bool.{false}
use mathlib.Core.List.{List}
use mathlib.Core.Logic.{◌≢◌, ◌⊎◌, inl, inr, ⊎_elim}
use Prim.Native.Nat.{ℕ, suc, ◌+◌, ◌<◌, ◌≤◌}
use native.Mathlib.Nat.{eq-or-lt_of_le, le_of_suc-le-suc}
use native.Mathlib.Decide.{ℕ_discrete}
use native.Mathlib.Omega.{arith}
use Rattle.terms.specs.Editions.{restart}
use Rattle.terms.proofs.Editions.{restart_most}
use Rattle.rules.specs.Layout.{
  record_words,
  slot_words,
  field,
  entry,
  preferred_field,
  last_field,
  counter_field,
  slot_field,
  confidence_field,
  slot_of,
  confidence_of,
  preferred_in,
  last_in,
  counter_in,
  setting_in,
}
use Rattle.rules.specs.Ancestry.{is_member}
use Rattle.rules.specs.Poll.{settled}
use Rattle.rule_laws.proofs.Settled.{field_settled_kept}
use Rattle.rule_laws.proofs.SettledTurns.{Settles, SlotsFit, settled_carried}

-- one of the n first records, with slot s
abbrev pub Among : List ℕ → (n s i : ℕ) → Type 0
Among u n s i = (i < n) × (slot_of u i ≡ s)

module _ (m u : List ℕ) (n : ℕ) (able : SlotsFit u n) where
  -- ---- a slot without bookings is never touched

  pub entry_settled_empty : (s g : ℕ) → g < slot_words → ((k : ℕ) → k < n → slot_of u k ≢ s) → entry (settled m n u) s g ≡ entry u s g
  entry_settled_empty s g h absent =
      settled_carried m u (λ t v. entry v s g ≡ entry u s g) n able
      (λ j v e same. same)
      (λ j v v' l turn same. turn.others s g (λ q. absent j l (sym q)) h ∙ same)
      refl

  -- ---- preferred and last stay bookings of their slot

  among_settled : (f s : ℕ) → f < slot_words
      → ((v v' : List ℕ) (j : ℕ) → Settles u v v' j → (entry v' (slot_of u j) f ≡ j) ⊎ (entry v' (slot_of u j) f ≡ entry v (slot_of u j) f))
      → Among u n s (entry u s f) → Among u n s (entry (settled m n u) s f)
  among_settled f s h rule start =
      settled_carried m u (λ t v. Among u n s (entry v s f)) n able
      (λ j v e a. a)
      (λ j v v' l turn a. go j v v' l turn a (ℕ_discrete s (slot_of u j)))
      start
    where
      go : (j : ℕ) (v v' : List ℕ) → j < n → Settles u v v' j → Among u n s (entry v s f) → Dec (s ≡ slot_of u j) → Among u n s (entry v' s f)
      go j v v' l turn a (yes q) =
          ⊎_elim
          (λ (e : entry v' (slot_of u j) f ≡ j). rw (q, e) (l, refl))
          (λ (e : entry v' (slot_of u j) f ≡ entry v (slot_of u j) f). rw (q, e) (rw q at a))
          (rule v v' j turn)
      go j v v' l turn a (no d) = rw (turn.others s f d h) a

  pub preferred_settled_among : (s : ℕ) → Among u n s (preferred_in u s) → Among u n s (preferred_in (settled m n u) s)
  preferred_settled_among s = among_settled preferred_field s (omega arith) (λ v v' j turn. turn.preferred)

  pub last_settled_among : (s : ℕ) → Among u n s (last_in u s) → Among u n s (last_in (settled m n u) s)
  last_settled_among s = among_settled last_field s (omega arith) (λ v v' j turn. inl turn.last)

  -- ---- a counter rises by one at most: once it has risen a lower member is last, so that the next one starts it anew

  module _ (s : ℕ) where
    -- as before, or risen or started anew by a member below t
    abbrev Risen : ℕ → List ℕ → Type 0
    Risen t v = (counter_in v s ≡ counter_in u s) ⊎ ((last_in v s < t) × (counter_in v s ≤ counter_in u s + 1))

    risen_turn : (j : ℕ) (v v' : List ℕ) → Settles u v v' j → Risen j v → Risen (suc j) v'
    risen_turn j v v' turn c = go (ℕ_discrete s (slot_of u j)) c
      where
        here : last_in v' s ≡ j → ((last_in v s ≡ j) × (counter_in v' s ≡ counter_in v s + 1)) ⊎ ((last_in v s ≢ j) × (counter_in v' s ≡ restart (setting_in u).edition)) → Risen j v → Risen (suc j) v'
        here last (inl up) (inl e) = inr (omega arith)
        here last (inl up) (inr e) = absurd (omega arith)
        here last (inr started) e = inr (omega (arith, started.1, restart_most (setting_in u).edition))

        go : Dec (s ≡ slot_of u j) → Risen j v → Risen (suc j) v'
        go (yes q) e = here (rw q turn.last) (rw q turn.counter) e
        go (no d) (inl e) = inl (turn.others s counter_field d (omega arith) ∙ e)
        go (no d) (inr e) = inr (omega (arith, turn.others s last_field d (omega arith), turn.others s counter_field d (omega arith)))

    pub counter_settled_le : counter_in (settled m n u) s ≤ counter_in u s + 1
    counter_settled_le =
        ⊎_elim (λ (e : counter_in (settled m n u) s ≡ counter_in u s). omega arith) (λ e. e.1)
        (settled_carried m u Risen n able
        (λ j v e c. ⊎_elim inl (λ (r : (last_in v s < j) × (counter_in v s ≤ counter_in u s + 1)). inr (omega arith)) c)
        (λ j v v' l. risen_turn j v v')
        (inl refl))

    -- ---- and where the last changes it restarts

    -- the last is as before, or a member below t took its place
    abbrev Replaced : ℕ → List ℕ → Type 0
    Replaced t v = (last_in v s ≡ last_in u s) ⊎ ((last_in v s < t) × (counter_in v s ≡ restart (setting_in u).edition))

    replaced_turn : (j : ℕ) (v v' : List ℕ) → Settles u v v' j → Replaced j v → Replaced (suc j) v'
    replaced_turn j v v' turn c = go (ℕ_discrete s (slot_of u j)) c
      where
        here : last_in v' s ≡ j → ((last_in v s ≡ j) × (counter_in v' s ≡ counter_in v s + 1)) ⊎ ((last_in v s ≢ j) × (counter_in v' s ≡ restart (setting_in u).edition))
            → Replaced j v → Replaced (suc j) v'
        here last (inl up) (inl e) = inl (omega arith)
        here last (inl up) (inr e) = absurd (omega arith)
        here last (inr started) e = inr (omega arith, started.1)

        go : Dec (s ≡ slot_of u j) → Replaced j v → Replaced (suc j) v'
        go (yes q) e = here (rw q turn.last) (rw q turn.counter) e
        go (no d) (inl e) = inl (turn.others s last_field d (omega arith) ∙ e)
        go (no d) (inr e) = inr (omega (arith, turn.others s last_field d (omega arith)), turn.others s counter_field d (omega arith) ∙ e.1)

    pub last_settled_changed : last_in (settled m n u) s ≢ last_in u s → counter_in (settled m n u) s ≡ restart (setting_in u).edition
    last_settled_changed changed =
        ⊎_elim (λ (e : last_in (settled m n u) s ≡ last_in u s). absurd (changed e)) (λ e. e.1)
        (settled_carried m u Replaced n able
        (λ j v e c. ⊎_elim inl (λ (r : (last_in v s < j) × (counter_in v s ≡ restart (setting_in u).edition)). inr (omega arith, r.1)) c)
        (λ j v v' l. replaced_turn j v v')
        (inl refl))

  -- ---- the preferred one leads: a turn puts it at least level with its member, and never lower

  module _ (k : ℕ) where
    -- k is no member, or its turn is past
    abbrev Passed : ℕ → Type 0
    Passed t = (is_member m k ≡ false) ⊎ (k < t)

    abbrev LedAt : ℕ → List ℕ → Type 0
    LedAt t v = (preferred_in v (slot_of u k) < n) × (Passed t → confidence_of u k ≤ confidence_of u (preferred_in v (slot_of u k)))

    -- a booking that has passed by the end of turn j had passed at its start, or it is its turn
    passed_before : (j : ℕ) → Passed (suc j) → (k ≡ j) ⊎ Passed j
    passed_before j (inl e) = inr (inl e)
    passed_before j (inr l) = ⊎_elim inl (λ r. inr (inr r)) (eq-or-lt_of_le (le_of_suc-le-suc l))

    led_pass : (j : ℕ) (v : List ℕ) → is_member m j ≡ false → LedAt j v → LedAt (suc j) v
    led_pass j v e h = (h.0, λ c. h.1 (⊎_elim (λ (q : k ≡ j). inl (ap (is_member m) q ∙ e)) (λ b. b) (passed_before j c)))

    led_turn : (j : ℕ) (v v' : List ℕ) → j < n → Settles u v v' j → LedAt j v → LedAt (suc j) v'
    led_turn j v v' l turn h = go (ℕ_discrete (slot_of u k) (slot_of u j))
      where
        go : Dec (slot_of u k ≡ slot_of u j) → LedAt (suc j) v'
        go (yes q) =
            let before : preferred_in v (slot_of u j) < n = rw (← q) h.0 in
            let leads = turn.leads (omega arith) in
            rw q (
              ⊎_elim (λ (e : preferred_in v' (slot_of u j) ≡ j). omega arith) (λ (e : preferred_in v' (slot_of u j) ≡ preferred_in v (slot_of u j)). omega arith) turn.preferred,
              λ c. ⊎_elim (λ (e : k ≡ j). rw e leads.0) (λ b. let r = rw q at (h.1 b) in omega arith) (passed_before j c),
            )
        go (no d) =
            rw (turn.others (slot_of u k) preferred_field d (omega arith))
            (h.0, λ c. h.1 (⊎_elim (λ (q : k ≡ j). absurd (d (ap (slot_of u) q))) (λ b. b) (passed_before j c)))

    settled_led : preferred_in u (slot_of u k) < n
        → (is_member m k ≡ false → confidence_of u k ≤ confidence_of u (preferred_in u (slot_of u k)))
        → LedAt n (settled m n u)
    settled_led held start = settled_carried m u LedAt n able led_pass led_turn (held, ⊎_elim start (λ (l : k < 0). absurd (omega arith)))

    pub led_settled : k < n → preferred_in u (slot_of u k) < n
        → (is_member m k ≡ false → confidence_of u k ≤ confidence_of u (preferred_in u (slot_of u k)))
        → confidence_of (settled m n u) k ≤ confidence_of (settled m n u) (preferred_in (settled m n u) (slot_of (settled m n u) k))
    led_settled below held start =
        let end = settled_led held start in
        let same : (x g : ℕ) → x < n → g < record_words → field (settled m n u) x g ≡ field u x g
        = λ x g l h. field_settled_kept m n u x g (omega arith) h in
        rw (
          same k slot_field below (omega arith),
          same k confidence_field below (omega arith),
          same (preferred_in (settled m n u) (slot_of u k)) confidence_field end.0 (omega arith),
        ) (end.1 (inr below))
