-- What the code of the rule goes by on a ledger: a used parent place holds a booking's number, and a counter that is too low is too low for both arms.
use mathlib.Core.Path.{◌≡◌, refl, sym, ◌∙◌}
use mathlib.Core.Bool.{false, true≢false, and-false, or-false}
use mathlib.Core.List.{List}
use mathlib.Core.Logic.{◌≢◌}
use Prim.Native.Nat.{ℕ, ◌<◌}
use native.Mathlib.Omega.{arith}
use lib.Dec.{eqb}
use Rattle.loops.proofs.Bools.{refuted}
use Rattle.terms.proofs.Editions.{enough_lower}
use Rattle.rules.specs.Layout.{most_bookings, most_parents, none, bookings, setting_in, slot_of, parent_of, counter_in}
use Rattle.rules.specs.Sound.{Ledger}
use Rattle.rules.specs.Marks.{counter_enough, meets_rule}
use Rattle.rule_laws.proofs.Ancestry.{Parent_lt}

-- ---- on a ledger

module _ (w : List ℕ) (ledger : Ledger w) (j : ℕ) (below : j < bookings w) where
  pub parent_few : (a : ℕ) → a < most_parents → parent_of w j a ≢ none → parent_of w j a < most_bookings
  parent_few a h used =
      omega (
        arith,
        Parent_lt w ledger.sound j (parent_of w j a) below (record { place = a; within = h; stands = refl; used = used }),
        ledger.sound.bookings_most,
      )

  -- β1 is not above β2
  pub meets_rule_low : counter_enough w j (setting_in w).beta1 ≡ false → meets_rule w j ≡ eqb j 0
  meets_rule_low low =
      let lower = enough_lower (setting_in w).edition (setting_in w).beta2 (setting_in w).beta1 (counter_in w (slot_of w j)) ledger.sound.setting.betas_rise in
      simp (low, refuted (counter_enough w j (setting_in w).beta2) (λ e. true≢false (sym (lower e) ∙ low)), and-false, or-false)
