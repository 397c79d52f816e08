-- What a walk over members does at a number: what is done at a member, if it is one.
use Rattle.std.specs.Prelude.{ℕ, List, cond}
use Rattle.rules.specs.Ancestry.{is_member}

abbrev pub at_member : (ℕ → List ℕ → List ℕ) → List ℕ → ℕ → List ℕ → List ℕ
at_member done m j w = cond (is_member m j) (done j w) w
