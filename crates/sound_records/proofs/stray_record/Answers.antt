-- From n on a row that has a record is judged by its words; the rows before have none that is stray, and row 512 has no record.
use Rattle.std.proofs.Common.{◌≡◌, ℕ, ◌∙◌, ◌≤◌, ◌<◌, true, not, List, refl, arith, rules, tests}
use borrow.Author.Tests.{lt-ltb, le-ltb, lt-leb, le-leb}
use Rattle.loops.proofs.Chains.{find_over}
use Rattle.loops.proofs.Search.{found_between}
use Rattle.rules.specs.Layout.{most_bookings, bookings}
use Rattle.rules.specs.IsSound.{record_zero, record_rows}
use Rattle.sound_records.specs.Rest.{is_clear}
use Rattle.sound_records.proofs.stray_record.Goals as goal

module _ (w : List ℕ) (j : ℕ) where
  -- a row below n
  before : j < bookings w → not (is_clear w j) ≡ not true
  before l = rw (lt-ltb j (bookings w) l)

  within : bookings w ≤ j → j < most_bookings → not (record_zero w j) ≡ not (is_clear w j)
  within l u = rw (le-ltb j (bookings w) l, lt-leb most_bookings j u)

  after : bookings w ≤ j → most_bookings ≤ j → not (is_clear w j) ≡ not true
  after l u = rw (le-ltb j (bookings w) l, le-leb most_bookings j u)

pub returns : goal.returns
returns c =
    let w = c.args.w.now in
    let n = c.args.n in
    find_over _ _ (λ i. not (record_zero w i)) n most_bookings _ c.find.ensures.ran refl (omega arith) (λ x b q k. search (rules, tests))
    ∙ found_between (λ i. not (is_clear w i)) (λ i. not (record_zero w i)) n most_bookings record_rows (omega arith) (omega arith)
    (λ j l. before w j (omega arith)) (λ j l u. within w j (omega arith) u) (λ j l u. after w j (omega arith) l)
