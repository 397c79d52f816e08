-- CR 7: where the later edition of the rules, edition 1, differs from the first, edition 0. Each difference stands here alone, as a function of the
-- edition, and the rules of a poll and of acceptance cite it. In everything else the editions are one.
use Rattle.std.specs.Prelude.{ℕ, Bool, cond, eqb, ltb, leb}

abbrev pub is_later : ℕ → Bool
is_later edition = eqb edition 1

-- what the counter of a slot becomes when its last changes: 0, in edition 1 1
unfoldable pub restart : (edition : ℕ) → ℕ
restart edition = cond (is_later edition) 1 0

-- whether a counter is enough for β, in both arms of acceptance: above it, in edition 1 at least
unfoldable pub enough : (edition beta counter : ℕ) → Bool
enough edition beta counter = cond (is_later edition) (leb beta counter) (ltb beta counter)

-- whether a failed poll sets the counter of every slot in the ancestry to 0: in edition 1
unfoldable pub failure_clears : (edition : ℕ) → Bool
failure_clears = is_later
