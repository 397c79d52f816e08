-- The sum over the numbers from 1 on is that of the bookings; twenty bytes each are the most.
use mathlib.Core.Path.{◌∙◌}
use Prim.Native.Nat.{ℕ, ◌+◌, ◌*◌, ◌-◌}
use native.Mathlib.Omega.{arith}
use borrow.Author.Rules.{rules}
use Rattle.std.specs.List.{range_with_len}
use Rattle.std.proofs.lemmas.Iterator.{YieldsList-from_range, YieldsList-from_map}
use Rattle.std.proofs.lemmas.Iterator.Consumers.{sum_by_from_yields_List, fits_by_from_yields_list}
use Rattle.rules.specs.Layout.{bookings}
use Rattle.day_file.specs.Day.{parent_count}
use Rattle.day_file.proofs.Lengths.{bookings_most_lem}
use Rattle.day_sections.proofs.Ranges.{range_summed}
use Rattle.day_sections.proofs.rows_length.Goals as goal

pub sum-requires-clause-fits : goal.sum-requires-clause-fits
sum-requires-clause-fits c =
    let w = c.args.w.now in
    let row = λ (i : ℕ). 12 + 2 * parent_count w i in
    let n = bookings w - 1 in
    fits_by_from_yields_list row (range_with_len 1 n) c.map.result _
    (YieldsList-from_map _ row (YieldsList-from_range 1 (bookings w) n (cc) (search rules)) c.map.ensures.closure (λ x r q k. search rules))
    (omega (arith, range_summed row n, bookings_most_lem w n, c.requires.sound.bookings_most))

pub returns : goal.returns
returns c =
    let w = c.args.w.now in
    let row = λ (i : ℕ). 12 + 2 * parent_count w i in
    let n = bookings w - 1 in
    sum_by_from_yields_List row (range_with_len 1 n) c.map.result _ c.sum.ensures.ran
    (YieldsList-from_map _ row (YieldsList-from_range 1 (bookings w) n (cc) (search rules)) c.map.ensures.closure (λ x r q k. search rules))
    ∙ range_summed row n
