-- The marks of a section: where each is read, when the section's bytes are theirs, and their rules but that of the slots, mark by mark. Assumes nothing.
use mathlib.Core.Path.{◌≡◌, sym, ap, ap₂, ◌∙◌}
use mathlib.Core.Bool.{Bool, true, ◌&&◌, true≢false}
use mathlib.Core.List.{List, [], ◌∷◌, ◌++◌, append_assoc, append-nil}
use mathlib.Core.Logic.{⊎_elim}
use Prim.Native.Nat.{ℕ, zero, suc, ◌+◌, ◌*◌, ◌-◌, ◌<◌, ◌≤◌}
use native.Mathlib.Nat.{eq-or-lt_of_le}
use native.Mathlib.Omega.{arith}
use lib.ListN.{length, get_or, drop, length-drop, drop_of_length-le}
use lib.Seq.{get_or-drop, drop-drop}
use lib.Dec.{ltb}
use borrow.Author.Tests.{eqb-true, eq-eqb, ltb-true, lt-ltb}
use Rattle.loops.proofs.Bools.{and_left, and_right, and_both}
use Rattle.loops.proofs.Search.{all→, →all}
use Rattle.day_file.specs.Bytes.{number_bytes, joined, marks_section}
use Rattle.day_file.specs.Decode.{value_of, read_number, read_many, marks_in}
use Rattle.day_file.specs.Marks.{is_rising, starts_with_genesis, are_below}
use Rattle.day_file.proofs.Joined.{length_high_first, length_counted, length_joined_even}
use Rattle.day_file.proofs.FileBytes.{AreBytes}
use Rattle.day_file.proofs.SecondFile.{marks_many}
use Rattle.day_get.proofs.Got.{number_got}
use Rattle.day_marks.specs.Judged.{NumbersGood}
use Rattle.day_marks.proofs.Readers.{number_is}

-- ---- when the bytes are those of the marks

-- bytes are those of the number that is read off them
number_laid : (l : List ℕ) → AreBytes l → 2 ≤ length l → l ≡ number_bytes (value_of 2 l) ++ drop 2 l
number_laid l p u = number_got l 0 u (p 0) (p 1) ∙ ap (λ n. number_bytes n ++ drop 2 l) (sym (number_is l 0))

numbers_laid : (n : ℕ) (l : List ℕ) → AreBytes l → 2 * n ≤ length l → l ≡ joined number_bytes (read_many read_number n l).value ++ drop (2 * n) l
unfolding read_many joined
numbers_laid zero l p u =
    let none : 2 * zero ≡ 0 = omega arith in
    ap (λ k. drop k l) (sym none)
numbers_laid (suc n) l p u =
    let more : 2 + 2 * n ≡ 2 * suc n = omega arith in
    let others = joined number_bytes (read_many read_number n (drop 2 l)).value in
    number_laid l p (omega arith)
    ∙ ap (λ t. number_bytes (value_of 2 l) ++ t) (numbers_laid n (drop 2 l) (λ k. omega (arith, get_or-drop 2 l k 0, p (2 + k))) (omega (arith, length-drop 2 l))
    ∙ ap (λ t. others ++ t) (drop-drop (2 * n) 2 l ∙ ap (λ k. drop k l) more))
    ∙ sym (append_assoc (number_bytes (value_of 2 l)) others (drop (2 * suc n) l))

module _ (section : List ℕ) where
  -- a section of bytes that has as many as its count says
  pub marks_laid : AreBytes section → length section ≡ 2 + 2 * (read_number section).value → section ≡ marks_section (marks_in section)
  marks_laid p long =
      let v = (read_number section).value in
      let rest = drop 2 section in
      number_laid section p (omega arith)
      ∙ ap₂ (λ n t. number_bytes n ++ t) (sym (marks_many section))
      (numbers_laid v rest (λ k. omega (arith, get_or-drop 2 section k 0, p (2 + k))) (omega (arith, length-drop 2 section))
      ∙ ap (λ t. joined number_bytes (marks_in section) ++ t) (drop_of_length-le rest {i = 2 * v} (omega (arith, length-drop 2 section)))
      ∙ append-nil (joined number_bytes (marks_in section)))

  -- and it has no others
  pub laid_long : section ≡ marks_section (marks_in section) → length section ≡ 2 + 2 * length (marks_in section)
  laid_long laid =
      omega (arith, ap length laid, length_counted number_bytes (marks_in section), length_joined_even number_bytes 2 (length_high_first 2) (marks_in section))

-- ---- their rules

-- the first so many rise, and are below n
pub record RisenTo (n : ℕ) (marks : List ℕ) (a : ℕ) : Type 0 where
  pub rising : (b : ℕ) → b + 1 < a → get_or marks b 0 < get_or marks (b + 1) 0
  pub below : (b : ℕ) → b < a → get_or marks b 0 < n

-- all of them do, and the first is the genesis
pub record Risen (n : ℕ) (marks : List ℕ) : Type 0 where
  pub some : 0 < length marks
  pub genesis : get_or marks 0 0 ≡ 0
  pub all : RisenTo n marks (length marks)

module _ (n : ℕ) (marks : List ℕ) where
  pub risen_one : get_or marks 0 0 ≡ 0 → 0 < n → RisenTo n marks 1
  risen_one first u = record {
    rising = λ b l. absurd (omega arith);
    below = λ b l.
        let zero-th : b ≡ 0 = omega arith in
        rw zero-th (omega arith);
  }

  pub risen_more : (a : ℕ) → 1 ≤ a → RisenTo n marks a → get_or marks (a - 1) 0 < get_or marks a 0 → get_or marks a 0 < n → RisenTo n marks (a + 1)
  risen_more a some so up under = record {
    rising = λ b l. ⊎_elim
        (λ (q : b + 1 ≡ a). let last : b ≡ a - 1 = omega arith in rw (q, last) up)
        (λ (q : b + 1 < a). so.rising b q)
        (eq-or-lt_of_le (omega arith));
    below = λ b l. ⊎_elim (λ (q : b ≡ a). rw q under) (λ (q : b < a). so.below b q) (eq-or-lt_of_le (omega arith));
  }

  -- as the law tests them
  started : (l : List ℕ) → starts_with_genesis l ≡ true → (0 < length l) × (get_or l 0 0 ≡ 0)
  started [] e = absurd (true≢false (sym e))
  started (m ∷ ms) e = (omega arith, eqb-true m 0 e)

  starts : (l : List ℕ) → 0 < length l → get_or l 0 0 ≡ 0 → starts_with_genesis l ≡ true
  starts [] u e = absurd (omega arith)
  starts (m ∷ ms) u e = eq-eqb m 0 e

  abbrev rises : ℕ → Bool
  rises a = ltb (get_or marks a 0) (get_or marks (a + 1) 0)

  abbrev is_under : ℕ → Bool
  is_under a = ltb (get_or marks a 0) n

  pub rules_risen : (is_rising marks && starts_with_genesis marks && are_below n marks) ≡ true → Risen n marks
  rules_risen e =
      let two = and_left (is_rising marks && starts_with_genesis marks) (are_below n marks) e in
      let start = started marks (and_right (is_rising marks) (starts_with_genesis marks) two) in
      record {
        some = start.0;
        genesis = start.1;
        all = record {
          rising = λ b l. ltb-true _ _ (all→ rises (length marks - 1) (and_left (is_rising marks) (starts_with_genesis marks) two) b (omega arith));
          below = λ b l. ltb-true _ _ (all→ is_under (length marks) (and_right (is_rising marks && starts_with_genesis marks) (are_below n marks) e) b l);
        };
      }

  pub risen_rules : Risen n marks → (is_rising marks && starts_with_genesis marks && are_below n marks) ≡ true
  risen_rules r =
      and_both _ _
      (and_both _ _ (→all rises (length marks - 1) (λ a u. lt-ltb _ _ (r.all.rising a (omega arith)))) (starts marks r.some r.genesis))
      (→all is_under (length marks) (λ a u. lt-ltb _ _ (r.all.below a u)))

-- ---- a good section

pub good_long : (n : ℕ) (section : List ℕ) → NumbersGood n section → length section ≡ 2 + 2 * length (marks_in section)
good_long n section good = laid_long section good.laid

pub good_risen : (n : ℕ) (section : List ℕ) → NumbersGood n section → Risen n (marks_in section)
good_risen n section good = rules_risen n (marks_in section) good.rules
