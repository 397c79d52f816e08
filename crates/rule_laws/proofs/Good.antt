-- The test of a setting and the statement that it is good agree: the test is a row of eight, one for each field.
use mathlib.Core.Path.{◌≡◌}
use mathlib.Core.Bool.{Bool, true}
use mathlib.Core.List.{List, [], ◌∷◌}
use Prim.Native.Nat.{ℕ, ◌*◌}
use lib.ListN.{get_or}
use lib.Dec.{ltb, leb}
use borrow.Author.Tests.{leb-true, ltb-true, le-leb, lt-ltb}
use Rattle.terms.specs.declared.setting.Setting.{Setting}
use Rattle.terms.specs.Setting.{Good, is_good}
use Rattle.loops.proofs.Bools.{row_at, row_by}

abbrev tests : Setting → List Bool
tests s =
    leb 1 s.k ∷ leb s.k 64 ∷ leb s.a s.k ∷ ltb s.k (2 * s.a)
    ∷ leb 1 s.beta1 ∷ leb s.beta1 s.beta2 ∷ leb s.beta2 510 ∷ leb s.edition 1
    ∷ []

pub is_good→Good : (s : Setting) → is_good s ≡ true → Good s
is_good→Good s e =
    let passes : (i : ℕ) → get_or (tests s) i true ≡ true = row_at (tests s) e in
    record {
      votes_least = leb-true 1 s.k (passes 0);
      votes_most = leb-true s.k 64 (passes 1);
      needed_most = leb-true s.a s.k (passes 2);
      majority = ltb-true s.k (2 * s.a) (passes 3);
      beta_least = leb-true 1 s.beta1 (passes 4);
      betas_rise = leb-true s.beta1 s.beta2 (passes 5);
      beta_most = leb-true s.beta2 510 (passes 6);
      edition_most = leb-true s.edition 1 (passes 7);
    }

pub Good→isGood : (s : Setting) → Good s → is_good s ≡ true
Good→isGood s g =
    row_by (tests s) (le-leb _ _ g.votes_least) (le-leb _ _ g.votes_most) (le-leb _ _ g.needed_most) (lt-ltb _ _ g.majority)
    (le-leb _ _ g.beta_least) (le-leb _ _ g.betas_rise) (le-leb _ _ g.beta_most) (le-leb _ _ g.edition_most)
