-- A copy of a number is the number.
use Rattle.std.proofs.Common.{ℕ, ◌∙◌, ap}
use Rattle.std.specs.Prelude.{replicate}
use Rattle.name_index.specs.Index.{empty}
use Rattle.known_index.proofs.clear.Goals as goal

pub returns : goal.returns
returns c = c.fill.ensures.after (λ y e. e) ∙ ap (λ (n : ℕ). replicate n empty) c.requires
