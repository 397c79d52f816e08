-- The places in use stand before the first unused one.
use mathlib.Core.Path.{◌∙◌}
use mathlib.Core.Bool.{not}
use Prim.Native.Nat.{ℕ}
use lib.Dec.{eqb}
use borrow.Author.Rules.{rules}
use Rattle.std.proofs.Common.{tests}
use Rattle.std.proofs.lemmas.Iterator.{YieldsList-from_slice}
use Rattle.std.proofs.lemmas.Iterator.Consumers.{count_from_yields_List}
use Rattle.std.proofs.lemmas.Iterator.Search.{YieldsList-from_take_while}
use Rattle.std.proofs.lemmas.List.Folds.{length-prefix_len}
use Rattle.rules.specs.Layout.{none}
use Rattle.day_rows.proofs.Rows.{parents_counted}
use Rattle.day_rows.proofs.parent_count.Goals as goal

pub returns : goal.returns
returns c =
    let used = λ (p : ℕ). not (eqb p none) in
    let places = c.fields-places.result.now in
    count_from_yields_List c.take_while.result _ c.count.ensures.ran
    (YieldsList-from_take_while _ used (YieldsList-from_slice places (cc)) c.take_while.ensures.closure c.take_while.ensures.done (λ x b q k. search (rules, tests)))
    ∙ length-prefix_len used places
    ∙ parents_counted c.args.w.now c.args.i c.fields-places.ensures
