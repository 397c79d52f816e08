-- Document 01, "Numbers that bound it", and CR 7: when a setting is good, and the paper's own.
use Rattle.std.specs.Prelude.{ℕ, ◌*◌, ◌≤◌, ◌<◌, Bool, ◌&&◌, cond, List, [], ◌∷◌, ltb, leb, eqb}
use Rattle.terms.specs.declared.setting.Setting.{Setting}

-- the setting that five numbers are
abbrev pub setting_of : (k a beta1 beta2 edition : ℕ) → Setting
setting_of k a beta1 beta2 edition = record { k = k; a = a; beta1 = beta1; beta2 = beta2; edition = edition }

-- the numbers that tell a setting, in their order: four, and the edition behind them where it isn't 0
abbrev pub setting_numbers : Setting → List ℕ
setting_numbers s = s.k ∷ s.a ∷ s.beta1 ∷ s.beta2 ∷ cond (eqb s.edition 0) [] (s.edition ∷ [])

-- 1 ≤ k ≤ 64, a ≤ k, 2 × a > k, 1 ≤ β1 ≤ β2 ≤ 510, edition 0 or 1
pub record Good (s : Setting) : Type 0 where
  pub votes_least : 1 ≤ s.k
  pub votes_most : s.k ≤ 64
  pub needed_most : s.a ≤ s.k
  pub majority : s.k < 2 * s.a
  pub beta_least : 1 ≤ s.beta1
  pub betas_rise : s.beta1 ≤ s.beta2
  pub beta_most : s.beta2 ≤ 510
  pub edition_most : s.edition ≤ 1

-- the same as a test
abbrev pub is_good : Setting → Bool
is_good s =
    leb 1 s.k && leb s.k 64 && leb s.a s.k && ltb s.k (2 * s.a) && leb 1 s.beta1 && leb s.beta1 s.beta2 && leb s.beta2 510
    && leb s.edition 1

-- k = 10, a = 8, β1 = 11, β2 = 150, by the first edition
abbrev pub paper_setting : Setting
paper_setting = setting_of 10 8 11 150 0
