-- What the test of the words and of the index beside them tells: nothing stops a call exactly on a ledger with an index of the right length, and there
-- each call is what follows the test.
use Rattle.std.specs.Prelude.{Err, None, Ok, Some}
use mathlib.Core.Path.{◌≡◌, sym, ap, ◌∙◌}
use mathlib.Core.Bool.{true, false, not}
use mathlib.Core.List.{List}
use Prim.Native.Nat.{ℕ}
use lib.IntN.{pos}
use lib.ListN.{length}
use borrow.Author.Tests.{eqb-true, eq-eqb, not-false}
use Rattle.terms.specs.declared.answer.Refusal.{Refusal}
use Rattle.terms.specs.declared.answer.Refusal.TheVariants.{UnknownName, WrongIndex, IndexFull}
use Rattle.terms.specs.Answers.{handover, hands_over, done, Answer, Tested}
use Rattle.rules.specs.Sound.{Ledger}
use Rattle.rules.specs.Calls.{damage_of, test_of, beside_of, unless_stopped}
use Rattle.rule_laws.proofs.Tested.{ledger_fine, beside_right, beside_fine}
use Rattle.name_index.specs.Index.{cells, look_up_in, is_full, with_number, newest, built}
use Rattle.name_index.specs.Calls.{is_wrong_index, index_tested, index_build_call, index_enter_call, index_find_call}

module _ (w index : List ℕ) where
  -- what is tested
  abbrev pub beside_index : Tested
  beside_index = beside_of (is_wrong_index index) WrongIndex w

  pub fine_index : beside_index ≡ Ok tt → Ledger w × (length index ≡ cells)
  fine_index e =
      let fits = beside_fine (is_wrong_index index) WrongIndex w e in
      (fits.1, eqb-true (length index) cells (not-false _ fits.0))

  module _ (rest : Answer) where
    -- beside an index of the right length the words' own test is left
    pub index_tested_lem : length index ≡ cells → index_tested damage_of w index rest ≡ unless_stopped (test_of w) rest
    unfolding beside_of
    index_tested_lem whole =
        ap (λ b. unless_stopped (beside_of (not b) WrongIndex w) rest) (eq-eqb (length index) cells whole)
        ∙ ap (λ t. unless_stopped t rest) (beside_right WrongIndex w)

    pub stop_index : (r : Refusal) → beside_index ≡ Err r → index_tested damage_of w index rest ≡ Err r
    unfolding beside_of
    stop_index r e = ap (λ t. unless_stopped t rest) e

    -- a call that is stopped leaves every cell
    pub stop_cells : (after : List ℕ) (r : Refusal) → beside_index ≡ Err r → hands_over (index_tested damage_of w index rest) w index after ≡ handover (Err r) w index
    stop_cells after r e = ap (λ a. hands_over a w index after) (stop_index r e)

  -- ---- beside a ledger, with an index of the right length

  module _ (ledger : Ledger w) (whole : length index ≡ cells) where
    index_known : (rest : Answer) → index_tested damage_of w index rest ≡ rest
    index_known rest = index_tested_lem rest whole ∙ ap (λ t. unless_stopped t rest) (ledger_fine w ledger)

    pub build_known : handover done w (built w) ≡ index_build_call w index
    unfolding index_build_call
    build_known = ap (λ a. hands_over a w index (built w)) (sym (index_known done))

    pub enter_room : is_full index ≡ false → handover done w (with_number w (newest w) index) ≡ index_enter_call w index
    unfolding index_enter_call
    enter_room e = rw (index_known _, e)

    pub enter_full : is_full index ≡ true → handover (Err IndexFull) w index ≡ index_enter_call w index
    unfolding index_enter_call
    enter_full e = rw (index_known _, e)

    module _ (name : ℕ) where
      pub find_known : {i : ℕ} → look_up_in w index name ≡ Some i → Ok (pos i) ≡ index_find_call w index name
      unfolding index_find_call
      find_known e = rw (index_known _, e)

      pub find_absent : look_up_in w index name ≡ None → Err UnknownName ≡ index_find_call w index name
      unfolding index_find_call
      find_absent e = rw (index_known _, e)
