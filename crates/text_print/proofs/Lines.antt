-- What is printed for some rows, computed from the definitions.
use mathlib.Core.Path.{◌≡◌, refl}
use mathlib.Core.List.{[], ◌∷◌}
use Rattle.text_bytes.specs.Bytes.{bytes}
use Rattle.text_put.specs.Decimal.{digits_of, decimal}
use Rattle.text_print.specs.Columns.{row_prints}

rows :
    (row_prints (0 ∷ 0 ∷ 1 ∷ 3 ∷ 1 ∷ 1 ∷ []) ≡ bytes "0 0 1 3 1 1\n")
    × (row_prints (4 ∷ 10 ∷ 2 ∷ 1 ∷ 1 ∷ 0 ∷ []) ≡ bytes "4 10 2 1 1 0\n")
unfolding decimal digits_of row_prints
rows = (refl, refl)
