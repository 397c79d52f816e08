-- What a failed poll of booking i leaves of a ledger: the poll is noted, and every confidence, preferred and last stays. Counters stay or, where the edition
-- clears them, fall.
use mathlib.Core.Path.{◌≡◌, sym, ap, ◌∙◌}
use mathlib.Core.Bool.{true, false, cond}
use mathlib.Core.List.{List}
use mathlib.Core.Logic.{◌≢◌}
use Prim.Native.Nat.{ℕ, ◌<◌, ◌≤◌}
use native.Mathlib.Decide.{ℕ_discrete}
use native.Mathlib.Omega.{arith}
use Rattle.terms.specs.Editions.{failure_clears}
use Rattle.terms.proofs.Editions.{clears, clears_not}
use Rattle.rules.specs.Layout.{most_bookings, slots, slot_words, entry, bookings, setting_in, slot_field, confidence_field, preferred_field, last_field, counter_field, held_field, slot_of, confidence_of, preferred_in, counter_in, mark_field, mark_of}
use Rattle.rules.specs.Ancestry.{Reaches, ancestry}
use Rattle.rules.specs.IsSound.{bookings_of}
use Rattle.rules.specs.Sound.{Ledger}
use Rattle.rules.specs.Poll.{noted, cleared, failed}
use Rattle.rule_laws.proofs.Slots.{slot_of_absent, booking_lt, slot_of_lt, preferred_in_lt}
use Rattle.rule_laws.proofs.Ancestry.{members→Reaches, Reaches_le, Reaches→members}
use Rattle.rule_laws.proofs.Noted.{length_noted, field_noted_beside, confidence_noted, entry_noted_kept}
use Rattle.rule_laws.proofs.Cleared.{length_cleared, header_cleared_kept, field_cleared_kept, entry_cleared_beside, counter_cleared_le, counter_cleared_other, counter_cleared_member}
use Rattle.promises.proofs.Taken.{Led}
use Rattle.promises.proofs.Noted.{Noted, noted_Noted, Noted_kept, Noted_bookings}
use Rattle.promises.proofs.PolledSound.{Gained}

module _ (w : List ℕ) (i : ℕ) where
  -- the poll is noted, and then counters are cleared
  abbrev pub noted_words : List ℕ
  noted_words = noted w i 1

  abbrev pub cleared_words : List ℕ
  cleared_words = cleared (ancestry w i) (bookings w) noted_words

  -- what holds of both holds by any edition
  by_edition : (P : List ℕ → Type 0) → P cleared_words → P noted_words → P (failed w i)
  by_edition P later first =
      elim (failure_clears (setting_in w).edition) as (λ b. P (cond b cleared_words noted_words)) [ true ↦ later | false ↦ first ]

  pub confidence_failed : (j : ℕ) → j < most_bookings → confidence_of (failed w i) j ≡ confidence_of w j
  confidence_failed j h =
      by_edition (λ v. confidence_of v j ≡ confidence_of w j)
      (field_cleared_kept (ancestry w i) (bookings w) noted_words j confidence_field h (omega arith) ∙ confidence_noted w i 1 j)
      (confidence_noted w i 1 j)

  mark_failed : (j : ℕ) → j < most_bookings → mark_of (failed w i) j ≡ mark_of w j
  mark_failed j h =
      let same = field_noted_beside w i 1 j mark_field (omega arith) (omega arith) (omega arith) in
      by_edition (λ v. mark_of v j ≡ mark_of w j)
      (field_cleared_kept (ancestry w i) (bookings w) noted_words j mark_field h (omega arith) ∙ same)
      same

module _ (w : List ℕ) (i : ℕ) (ledger : Ledger w) (below : i < bookings w) where
  few : i < most_bookings
  few = booking_lt w ledger.sound i below

  slot_noted : (j : ℕ) → slot_of (noted_words w i) j ≡ slot_of w j
  slot_noted j = field_noted_beside w i 1 j slot_field (omega arith) (omega arith) (omega arith)

  -- the preferred, the last, and how many bookings there are
  pub entry_failed : (s g : ℕ) → g < slot_words → g ≢ counter_field → entry (failed w i) s g ≡ entry w s g
  entry_failed s g h d =
      by_edition w i (λ v. entry v s g ≡ entry w s g)
      (entry_cleared_beside (ancestry w i) (bookings w) (noted_words w i) s g h d ∙ entry_noted_kept w i 1 s g few)
      (entry_noted_kept w i 1 s g few)

  counter_failed : (s : ℕ) → s < slots → counter_in (failed w i) s ≤ counter_in w s
  counter_failed s h =
      let same = entry_noted_kept w i 1 s counter_field few in
      by_edition w i (λ v. counter_in v s ≤ counter_in w s)
      (omega (arith, same, counter_cleared_le (ancestry w i) (bookings w) (noted_words w i) s (omega (arith, length_noted w i 1, ledger.whole))))
      (omega (arith, same))

  -- by the first edition they stay
  pub counter_first : (setting_in w).edition ≡ 0 → (s : ℕ) → counter_in (failed w i) s ≡ counter_in w s
  counter_first q s =
      ap (λ b. counter_in (cond b (cleared_words w i) (noted_words w i)) s) (ap failure_clears q ∙ clears_not) ∙ entry_noted_kept w i 1 s counter_field few

  -- by the later one those of the members' slots become 0, and the others stay
  failed_later : (setting_in w).edition ≡ 1 → (s : ℕ) → counter_in (failed w i) s ≡ counter_in (cleared_words w i) s
  failed_later q s = ap (λ b. counter_in (cond b (cleared_words w i) (noted_words w i)) s) (ap failure_clears q ∙ clears)

  pub counter_member : (setting_in w).edition ≡ 1 → (j : ℕ) → Reaches w i j → counter_in (failed w i) (slot_of w j) ≡ 0
  counter_member q j r =
      let here : j < bookings w = omega (arith, below, Reaches_le w ledger.sound below r) in
      failed_later q (slot_of w j)
      ∙ ap (counter_in (cleared_words w i)) (sym (slot_noted j))
      ∙ counter_cleared_member (ancestry w i) (bookings w) (noted_words w i) ledger.sound.bookings_most j here
      (Reaches→members w ledger.sound i below j r)
      (omega (arith, slot_noted j, slot_of_lt w ledger.sound j here, length_noted w i 1, ledger.whole))

  pub counter_beside : (setting_in w).edition ≡ 1 → (s : ℕ) → ((j : ℕ) → Reaches w i j → slot_of w j ≢ s) → counter_in (failed w i) s ≡ counter_in w s
  counter_beside q s d =
      failed_later q s
      ∙ counter_cleared_other (ancestry w i) (bookings w) (noted_words w i) ledger.sound.bookings_most s
      (λ j u m t. d j (members→Reaches w i j m) (sym (slot_noted j) ∙ t))
      ∙ entry_noted_kept w i 1 s counter_field few

  -- a slot without bookings has no members
  empty_failed : (s g : ℕ) → bookings_of w s ≡ 0 → g < slot_words → entry (failed w i) s g ≡ entry w s g
  empty_failed s g e h = go (ℕ_discrete g counter_field)
    where
      go : Dec (g ≡ counter_field) → entry (failed w i) s g ≡ entry w s g
      go (yes q) =
          rw q
          (by_edition w i (λ v. counter_in v s ≡ counter_in w s)
          (counter_cleared_other (ancestry w i) (bookings w) (noted_words w i) ledger.sound.bookings_most s
          (λ j u m t. slot_of_absent w s j e u (sym (slot_noted j) ∙ t))
          ∙ entry_noted_kept w i 1 s counter_field few)
          (entry_noted_kept w i 1 s counter_field few))
      go (no d) = entry_failed s g h d

  pub failed_Noted : Noted w (failed w i) i 1
  failed_Noted =
      let told = noted_Noted w i 1 ledger.whole few in
      by_edition w i (λ v. Noted w v i 1)
      (Noted_kept (cleared_words w i) few told
      (length_cleared (ancestry w i) (bookings w) (noted_words w i))
      (header_cleared_kept (ancestry w i) (bookings w) (noted_words w i))
      (λ j g u k c m. field_cleared_kept (ancestry w i) (bookings w) (noted_words w i) j g u k))
      told

  pub failed_Gained : Gained w (failed w i) 0
  failed_Gained = record {
    confidence = λ j u. omega (arith, confidence_failed w i j (booking_lt w ledger.sound j u));
    confidence_rest = λ j l u. confidence_failed w i j u;
    empty = empty_failed;
    held = λ s. entry_failed s held_field (omega arith) (omega arith);
    preferred = λ s b. rw (entry_failed s preferred_field (omega arith) (omega arith)) b;
    last = λ s b. rw (entry_failed s last_field (omega arith) (omega arith)) b;
    mark = mark_failed w i;
    counter = λ s u. omega (arith, counter_failed s u);
  }

  pub failed_led : Led w → Led (failed w i)
  failed_led led k h =
      let here : k < bookings w = omega (arith, Noted_bookings failed_Noted) in
      rw (
        failed_Noted.told k slot_field (booking_lt w ledger.sound k here) (omega arith),
        entry_failed (slot_of w k) preferred_field (omega arith) (omega arith),
        confidence_failed w i k (booking_lt w ledger.sound k here),
        confidence_failed w i (preferred_in w (slot_of w k)) (omega (arith, preferred_in_lt w ledger.sound k here, ledger.sound.bookings_most)),
      ) (led k here)
