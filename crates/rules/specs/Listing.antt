-- Document 01, "The text program": when the listing is refused. What it prints stands in crates/text_listing/specs.
use Rattle.std.specs.Prelude.{ℕ, List}
use Rattle.terms.specs.Answers.{done, Answer}
use Rattle.rules.specs.Calls.{test_of, tested}

-- it may be refused with 1, 2, 14 or 15 only
unfoldable pub list_call : List ℕ → Answer
list_call w = tested test_of w done
