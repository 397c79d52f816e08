-- The numbers that pass the test are those of the marked bookings.
use mathlib.Core.Path.{sym, ap, ◌∙◌}
use lib.ListN.{length}
use borrow.Author.Rules.{rules}
use Rattle.std.proofs.Common.{tests}
use Rattle.std.proofs.lemmas.Iterator.{YieldsList-from_range}
use Rattle.std.proofs.lemmas.Iterator.Consumers.{count_from_yields_List, YieldsList-from_filter}
use Rattle.rules.specs.Layout.{bookings, is_marked}
use Rattle.day_file.proofs.MarksSoFar.{marks_whole}
use Rattle.day_sections.proofs.Ranges.{range_filtered}
use Rattle.day_sections.proofs.mark_count.Goals as goal

pub returns : goal.returns
returns c =
    let w = c.args.w.now in
    count_from_yields_List c.filter.result _ c.count.ensures.ran
    (YieldsList-from_filter _ (is_marked w) (YieldsList-from_range 0 (bookings w) (bookings w) (cc) (search rules)) c.filter.ensures.closure (λ x b q k. search (rules, tests)))
    ∙ ap length (range_filtered (is_marked w) (bookings w) ∙ sym (marks_whole w))
