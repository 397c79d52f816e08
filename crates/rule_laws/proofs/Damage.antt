-- CR 1, a case as a law: a missing ordinal is charged to number n, which is 512 in a full ledger. A full ledger is too large for the table of cases.
use Rattle.std.specs.Prelude.{Err}
use mathlib.Core.Path.{◌≡◌, refl, sym, ap, ◌∙◌}
use mathlib.Core.Bool.{Bool, true, false, not}
use mathlib.Core.List.{List}
use mathlib.Core.Logic.{◌≢◌}
use Prim.Native.Nat.{ℕ, ◌≤◌, ◌<◌}
use native.Mathlib.Omega.{arith}
use lib.ListN.{length}
use Rattle.loops.proofs.Search.{first_unique}
use Rattle.terms.specs.declared.answer.Refusal.TheVariants.{DamagedRecord}
use Rattle.rules.specs.Layout.{size, most_bookings, bookings, polls, ordinal_of}
use Rattle.rules.specs.IsSound.{record_row, record_rows, bad_record}
use Rattle.rules.specs.RowRules.{HeaderRules, RulesBelow}
use Rattle.rules.specs.Calls.{test_of}
use Rattle.rule_laws.proofs.RowRules.{Rules→headerGood, record_row→Rules, Rules→recordRow}
use Rattle.rule_laws.proofs.Tested.{damage_record, test_long}

-- the header and every record below n keep their rules, and none of these records holds the ordinal
pub record Missing (w : List ℕ) (ordinal : ℕ) : Type 0 where
  pub whole : length w ≡ size
  pub header : HeaderRules w
  pub below : (i : ℕ) → i < bookings w → RulesBelow w i
  pub least : 1 ≤ ordinal
  pub most : ordinal ≤ polls w
  pub unheld : (i : ℕ) → i < bookings w → ordinal_of w i ≢ ordinal

module _ (w : List ℕ) (ordinal : ℕ) (missing : Missing w ordinal) where
  row_n : record_row w (bookings w) ≡ false
  row_n = go (record_row w (bookings w)) refl
    where
      go : (kept : Bool) → record_row w (bookings w) ≡ kept → kept ≡ false
      go false e = refl
      go true e =
          let held = ((record_row→Rules w (bookings w) e).from (omega arith)).ordinal_held refl ordinal missing.least missing.most in
          absurd (missing.unheld held.0 held.1 held.2)

  row_below : (i : ℕ) → i < bookings w → record_row w i ≡ true
  row_below i u = Rules→recordRow w i (record { below = λ v. missing.below i u; from = λ l. absurd (omega arith) })

  row_is : bookings w ≡ bad_record w
  unfolding bad_record
  row_is =
      sym (first_unique (λ i. not (record_row w i)) record_rows (bookings w) (omega (arith, missing.header.bookings_most)) (ap not row_n) (λ i u. ap not (row_below i u)))

  pub missing_charged : test_of w ≡ Err (DamagedRecord (bookings w))
  missing_charged =
      test_long w missing.whole
      ∙ sym (damage_record w (Rules→headerGood w missing.header) (bookings w) row_is (λ e. omega (arith, missing.header.bookings_most)))

  pub full_missing_charged : bookings w ≡ most_bookings → test_of w ≡ Err (DamagedRecord 512)
  full_missing_charged full = missing_charged ∙ ap (λ n. Err (DamagedRecord n)) full
