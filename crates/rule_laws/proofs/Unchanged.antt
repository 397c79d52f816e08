-- What soundness asks of a record or of a slot's entry holds still where the words that it speaks of stay. Assumes nothing.
use mathlib.Core.Path.{◌≡◌, sym, ◌∙◌}
use mathlib.Core.List.{List}
use mathlib.Core.Logic.{◌≢◌, ◌↔◌}
use Prim.Native.Nat.{ℕ, ◌+◌, ◌<◌, ◌≤◌}
use native.Mathlib.Omega.{arith}
use Rattle.rules.specs.Layout.{
  most_parents,
  record_words,
  slot_words,
  slot_field,
  parents_field,
  state_field,
  confidence_field,
  ordinal_field,
  mark_field,
  preferred_field,
  last_field,
  counter_field,
  held_field,
  field,
  entry,
  parent_of,
  state_of,
  ordinal_of,
}
use Rattle.rules.specs.Sound.{Booking, EmptyEntry}

-- ---- a record

module _ (w v : List ℕ) (i : ℕ) where
  -- a booking whose name, slot and parents stay, with a good state and ordinal
  pub Booking_told : ((g : ℕ) → g < state_field → field v i g ≡ field w i g) → Booking w i
      → state_of v i ≤ 2 → (ordinal_of v i ≡ 0) ↔ (state_of v i ≡ 0) → Booking v i
  Booking_told told b known waiting = record {
    slot_least = omega (arith, told slot_field (omega arith));
    slot_most = omega (arith, told slot_field (omega arith));
    parent_some = (b.parent_some.0, b.parent_some.1, λ e. b.parent_some.2 (sym (parent b.parent_some.0 b.parent_some.1) ∙ e));
    unused_after = λ x y l u e. parent y u ∙ b.unused_after x y l u (sym (parent x (omega arith)) ∙ e);
    parents_distinct = λ x y l u q e. b.parents_distinct x y l u (λ z. q (parent y u ∙ z)) (sym (parent x (omega arith)) ∙ e ∙ parent y u);
    parents_lower = λ x u q. omega (arith, parent x u, b.parents_lower x u (λ z. q (parent x u ∙ z)));
    state_known = known;
    ordinal_waiting = waiting;
  }
    where
      parent : (a : ℕ) → a < most_parents → parent_of v i a ≡ parent_of w i a
      parent a l = told (parents_field + a) (omega arith)

  -- whatever its confidence and its mark
  pub Booking_kept : ((g : ℕ) → g < record_words → g ≢ confidence_field → g ≢ mark_field → field v i g ≡ field w i g) → Booking w i → Booking v i
  Booking_kept same b =
      let state : state_of v i ≡ state_of w i = same state_field (omega arith) (omega arith) (omega arith) in
      let ordinal : ordinal_of v i ≡ ordinal_of w i = same ordinal_field (omega arith) (omega arith) (omega arith) in
      Booking_told (λ g h. same g (omega arith) (omega arith) (omega arith)) b (omega (arith, b.state_known))
      (λ e. state ∙ b.ordinal_waiting.0 (sym ordinal ∙ e), λ e. ordinal ∙ b.ordinal_waiting.1 (sym state ∙ e))

-- ---- an entry

pub EmptyEntry_kept : (w v : List ℕ) (s : ℕ) → ((g : ℕ) → g < slot_words → entry v s g ≡ entry w s g) → EmptyEntry w s → EmptyEntry v s
EmptyEntry_kept w v s same h = record {
  no_preferred = same preferred_field (omega arith) ∙ h.no_preferred;
  no_last = same last_field (omega arith) ∙ h.no_last;
  no_counter = same counter_field (omega arith) ∙ h.no_counter;
  none_held = same held_field (omega arith) ∙ h.none_held;
}
