-- Some byte passes the test exactly if some vote is refused.
use mathlib.Core.Path.{◌∙◌}
use borrow.Author.Rules.{rules}
use Rattle.std.proofs.lemmas.Iterator.{YieldsList-from_slice}
use Rattle.std.proofs.lemmas.Iterator.Search.{any_from_yields_List}
use Rattle.loops.proofs.Elements.{any_elements}
use Rattle.terms.specs.Votes.{vote_of, is_refused}
use Rattle.votes.proofs.has_refused.Goals as goal

pub returns : goal.returns
returns c =
    let votes = c.args.votes.now in
    any_from_yields_List (λ byte. is_refused (vote_of byte)) _ _ _ c.any.ensures.ran (YieldsList-from_slice votes c.iter.ensures.rest) (λ x b q k. search rules)
    ∙ any_elements _ votes
