-- Laws of the numbers of `open`: read into a buffer that holds the edition meant where none is told, they are the setting of the line; and what four of them mean.
use mathlib.Core.Path.{◌≡◌, sym, ap, ◌∙◌}
use mathlib.Core.List.{List, [], ◌∷◌}
use Prim.Native.Nat.{ℕ, zero, suc, ◌<◌, ◌≤◌}
use native.Mathlib.Omega.{arith}
use lib.ListN.{get_or}
use borrow.Author.Tests.{lt-ltb, le-ltb}
use Rattle.std.proofs.Common.{Option, Some, None}
use Rattle.line_number.specs.Numbers.{short_most, short_read}
use Rattle.line_scan.specs.Lists.{leading, many_of, Listed}
use Rattle.line_scan.proofs.Leading.{leading_le, listed_at}
use Rattle.terms.specs.Setting.{setting_of}
use Rattle.line_parse.specs.declared.command.Command.TheVariants.{Open}
use Rattle.line_parse.specs.Line.{open_least, open_most, edition_untold, setting_or, setting_typed, AllShort, open_with, open_says}

-- the buffer before a number is read
abbrev pub untold : List ℕ
untold = 0 ∷ 0 ∷ 0 ∷ 0 ∷ edition_untold ∷ []

untold_short : AllShort untold
untold_short zero = omega arith
untold_short (suc zero) = omega arith
untold_short (suc (suc zero)) = omega arith
untold_short (suc (suc (suc zero))) = omega arith
untold_short (suc (suc (suc (suc zero)))) = omega arith
untold_short (suc (suc (suc (suc (suc i))))) = omega arith

module _ {ws : List (List ℕ)} {five : List ℕ} {many : Option ℕ} (l : Listed short_read open_most ws untold many five) where
  pub open_short : AllShort five
  open_short i = rw (listed_at l (omega arith) i) (leading_le short_most open_most ws i (get_or untold i 0) (untold_short i))

  pub open_refused : many ≡ None → None ≡ open_says ws
  unfolding open_says
  open_refused e = ap (λ m. open_with m (leading short_read open_most ws)) (sym e ∙ l.many)

  pub open_few : (n : ℕ) → many ≡ Some n → n < open_least → None ≡ open_says ws
  unfolding open_says
  open_few n e h = rw (sym l.many ∙ e, lt-ltb n open_least h)

  setting_typed_lem : setting_or 0 five ≡ setting_typed (leading short_read open_most ws)
  setting_typed_lem =
      let at = listed_at l (omega arith) in
      λ k. setting_of (at 0 k) (at 1 k) (at 2 k) (at 3 k) (at 4 k)

  pub open_told : (n : ℕ) → many ≡ Some n → open_least ≤ n → Some (Open (setting_or 0 five)) ≡ open_says ws
  unfolding open_says
  open_told n e h = rw (sym l.many ∙ e, le-ltb n open_least h) (ap (λ s. Some (Open s)) setting_typed_lem)

-- ---- CR 7 and CR 8 in words, whatever the numbers are and however they are spelled

module _ {k a beta1 beta2 : ℕ} (w1 w2 w3 w4 : List ℕ) (e1 : short_read w1 ≡ Some k) (e2 : short_read w2 ≡ Some a) (e3 : short_read w3 ≡ Some beta1) (e4 : short_read w4 ≡ Some beta2) where
  -- four numbers mean edition 1
  pub four_numbers : open_says (w1 ∷ w2 ∷ w3 ∷ w4 ∷ []) ≡ Some (Open (setting_of k a beta1 beta2 1))
  unfolding open_says leading many_of
  four_numbers = rw (e1, e2, e3, e4)

  -- a fifth names the edition
  pub five_numbers : {edition : ℕ} (w5 : List ℕ) → short_read w5 ≡ Some edition → open_says (w1 ∷ w2 ∷ w3 ∷ w4 ∷ w5 ∷ []) ≡ Some (Open (setting_of k a beta1 beta2 edition))
  unfolding open_says leading many_of
  five_numbers w5 e5 = rw (e1, e2, e3, e4, e5)
