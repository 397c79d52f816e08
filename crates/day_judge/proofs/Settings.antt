-- The setting of a file, as it is judged: four numbers of edition 0, or five whose last is another edition; and what isn't one of these.
-- Rests on specs/Judged.antt. Assumes nothing.
use mathlib.Core.Path.{◌≡◌, refl, sym, ap, ap₂, ◌∙◌}
use mathlib.Core.Bool.{Bool, true, false, cond, true≢false}
use mathlib.Core.List.{List, [], ◌∷◌, ◌++◌, append_assoc}
use mathlib.Core.Logic.{◌≢◌}
use Prim.Native.Nat.{ℕ, ◌<◌}
use native.Mathlib.Omega.{arith}
use lib.ListN.{length, get_or, drop}
use lib.Dec.{eqb}
use borrow.Author.Tests.{eq-eqb, ne_eqb}
use Rattle.std.specs.Bool.{then_some}
use Rattle.terms.specs.declared.setting.Setting.{Setting}
use Rattle.terms.specs.Setting.{setting_of, setting_numbers, is_good}
use Rattle.rule_laws.proofs.Good.{is_good→Good}
use Rattle.day_file.specs.Bytes.{high_first, number_bytes, joined, counted, setting_section}
use Rattle.day_file.specs.Decode.{Read, read_number, read_counted, read_setting}
use Rattle.day_file.proofs.Lengths.{length_setting_section, length_setting_numbers, edition_length_most}
use Rattle.day_file.proofs.Codec.{SettingFits, number_undone, counted_undone, setting_undone}
use Rattle.day_judge.specs.Parts.{setting_end, SettingGood}
use Rattle.day_judge.specs.Judged.{SettingEnds, SettingJudged}
use Rattle.day_judge.proofs.Rows.{number_read_lem}

-- ---- of a good one

-- its numbers are small
good_fits : (s : Setting) → is_good s ≡ true → SettingFits s
good_fits s good =
    let rules = is_good→Good s good in
    record { k = omega (arith, rules); a = omega (arith, rules); beta1 = omega (arith, rules); beta2 = omega (arith, rules); edition = omega (arith, rules) }

-- what is left behind it stands where its section ends
pub setting_left : (file : List ℕ) → SettingGood file → (read_setting file).rest ≡ drop (setting_end file) file
setting_left file good =
    let s = (read_setting file).value in
    ap (λ l. (read_setting l).rest) good.laid
    ∙ ap (λ (m : Read Setting). m.rest) (setting_undone.undoes s (good_fits s good.rules) (drop (setting_end file) file))

-- how many numbers there are: four, or five
edition_zero : (s : Setting) → s.edition ≡ 0 → length (setting_numbers s) ≡ 4
edition_zero s e = ap (λ b. length (s.k ∷ s.a ∷ s.beta1 ∷ s.beta2 ∷ cond b [] (s.edition ∷ []))) (eq-eqb s.edition 0 e)

four_or_five : (s : Setting) → length (setting_numbers s) ≢ 4 → length (setting_numbers s) ≢ 5 → ⊥
four_or_five s =
    let many : Bool → ℕ = λ b. length (s.k ∷ s.a ∷ s.beta1 ∷ s.beta2 ∷ cond b [] (s.edition ∷ [])) in
    elim (eqb s.edition 0) as (λ b. many b ≢ 4 → many b ≢ 5 → ⊥) [ true ↦ λ p q. p refl | false ↦ λ p q. q refl ]

-- the count in front of it says so
setting_count : (file : List ℕ) → SettingGood file → (read_number file).value ≡ length (setting_numbers (read_setting file).value)
setting_count file good =
    let s = (read_setting file).value in
    let numbers = setting_numbers s in
    ap (λ (m : Read ℕ). m.value)
    (number_read_lem (length numbers) (omega (arith, length_setting_numbers s, edition_length_most s.edition))
    (good.laid ∙ append_assoc (number_bytes (length numbers)) (joined number_bytes numbers) (drop (setting_end file) file)))

-- ---- as it is judged

-- where the count was read
module _ (file : List ℕ) (n : ℕ) (small : n < 65536) (e : file ≡ number_bytes n ++ drop 2 file) where
  counted_so : SettingGood file → n ≡ length (setting_numbers (read_setting file).value)
  counted_so good = sym (ap (λ (m : Read ℕ). m.value) (number_read_lem n small e)) ∙ setting_count file good

  -- neither four nor five
  pub other_count : n ≢ 4 → n ≢ 5 → SettingGood file → ⊥
  other_count p q good =
      let told = counted_so good in
      four_or_five (read_setting file).value (λ e. p (told ∙ e)) (λ e. q (told ∙ e))

-- bytes that start with those of a setting, whose section ends at the offset
pub record Laid (file : List ℕ) (s : Setting) (next : ℕ) : Type 0 where
  pub laid : file ≡ setting_section s ++ drop next file
  pub fits : SettingFits s
  pub long : length (setting_section s) ≡ next

module _ (file : List ℕ) (s : Setting) (next : ℕ) (of : Laid file s next) where
  setting_is : (read_setting file).value ≡ s
  setting_is = ap (λ l. (read_setting l).value) of.laid ∙ ap (λ (m : Read Setting). m.value) (setting_undone.undoes s of.fits (drop next file))

  rules_broken : is_good s ≡ false → SettingGood file → ⊥
  rules_broken n good = true≢false (sym good.rules ∙ ap is_good setting_is ∙ n)

  rules_kept : is_good s ≡ true → SettingEnds file next
  rules_kept y =
      let end : next ≡ setting_end file = sym of.long ∙ ap (λ t. length (setting_section t)) (sym setting_is) in
      record {
        good = record { laid = of.laid ∙ ap₂ (λ t m. setting_section t ++ drop m file) (sym setting_is) end; rules = ap is_good setting_is ∙ y };
        end = end;
        most = omega (arith, of.long, length_setting_section s, edition_length_most s.edition);
      }

  -- as its rules are asked
  pub rules_asked : (t : Bool) → t ≡ is_good s → SettingJudged file (then_some t next)
  rules_asked true e = rules_kept (sym e)
  rules_asked false e = rules_broken (sym e)

-- ---- as it was read

-- the count, and the four numbers behind it
pub record FourRead (file : List ℕ) (n k a beta1 beta2 : ℕ) : Type 0 where
  pub small : n < 65536
  pub small_k : k < 65536
  pub small_a : a < 65536
  pub small_beta1 : beta1 < 65536
  pub small_beta2 : beta2 < 65536
  pub at_start : file ≡ number_bytes n ++ drop 2 file
  pub at_k : drop 2 file ≡ number_bytes k ++ drop 4 file
  pub at_a : drop 4 file ≡ number_bytes a ++ drop 6 file
  pub at_beta1 : drop 6 file ≡ number_bytes beta1 ++ drop 8 file
  pub at_beta2 : drop 8 file ≡ number_bytes beta2 ++ drop 10 file

module _ (file : List ℕ) {n k a beta1 beta2 : ℕ} (four : FourRead file n k a beta1 beta2) where
  four_laid : drop 2 file ≡ number_bytes k ++ (number_bytes a ++ (number_bytes beta1 ++ (number_bytes beta2 ++ drop 10 file)))
  four_laid =
      four.at_k ∙ ap (λ l. number_bytes k ++ l) (four.at_a ∙ ap (λ l. number_bytes a ++ l) (four.at_beta1 ∙ ap (λ l. number_bytes beta1 ++ l) four.at_beta2))

  -- a count of four: edition 0
  module _ (counted-four : n ≡ 4) where
    abbrev first : Setting
    first = setting_of k a beta1 beta2 0

    pub first_laid : Laid file first 10
    unfolding joined high_first
    first_laid =
        record {
          laid = four.at_start ∙ ap₂ (λ m l. number_bytes m ++ l) counted-four four_laid;
          fits = record { k = four.small_k; a = four.small_a; beta1 = four.small_beta1; beta2 = four.small_beta2; edition = omega arith };
          long = refl;
        }

  -- a count of five, and the edition behind the four
  module _ (counted-five : n ≡ 5) (edition : ℕ) (fe : edition < 65536) (e3 : drop 10 file ≡ number_bytes edition ++ drop 12 file) where
    abbrev numbers : List ℕ
    numbers = k ∷ a ∷ beta1 ∷ beta2 ∷ edition ∷ []

    five_laid : file ≡ counted number_bytes numbers ++ drop 12 file
    unfolding joined high_first
    five_laid =
        four.at_start ∙ ap₂ (λ m l. number_bytes m ++ l) counted-five
        (four_laid ∙ ap (λ l. number_bytes k ++ (number_bytes a ++ (number_bytes beta1 ++ (number_bytes beta2 ++ l)))) e3)

    edition_is : (read_setting file).value.edition ≡ edition
    edition_is =
        ap (λ l. get_or (read_counted read_number l).value 4 0) five_laid
        ∙ ap (λ (m : Read (List ℕ)). get_or m.value 4 0)
        ((counted_undone number_undone).undoes numbers
        (record { few = omega arith; each = (four.small_k, (four.small_a, (four.small_beta1, (four.small_beta2, (fe, tt))))) }) (drop 12 file))

    -- an edition of 0 is told by four
    pub edition_zero_told : edition ≡ 0 → SettingGood file → ⊥
    edition_zero_told z good =
        omega (arith, counted-five, counted_so file n four.small four.at_start good, edition_zero (read_setting file).value (edition_is ∙ z))

    module _ (d : edition ≢ 0) where
      abbrev later : Setting
      later = setting_of k a beta1 beta2 edition

      pub later_laid : Laid file later 12
      later_laid =
          let told = ne_eqb edition 0 d in
          record {
            laid = five_laid ∙ ap (λ b. counted number_bytes (k ∷ a ∷ beta1 ∷ beta2 ∷ cond b [] (edition ∷ [])) ++ drop 12 file) (sym told);
            fits = record { k = four.small_k; a = four.small_a; beta1 = four.small_beta1; beta2 = four.small_beta2; edition = fe };
            long = omega (arith, length_setting_section later, length_setting_numbers later, ap (λ b. length (k ∷ a ∷ beta1 ∷ beta2 ∷ cond b [] (edition ∷ []))) told);
          }
