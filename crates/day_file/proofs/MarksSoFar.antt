-- CR 9: the marks of the first bookings, so many of them, as a loop over the bookings meets them. Assumes nothing.
use mathlib.Core.Path.{◌≡◌, refl, sym, ap, ◌∙◌}
use mathlib.Core.List.{List, [], ◌∷◌, ◌++◌}
use mathlib.Core.Logic.{◌≢◌}
use Prim.Native.Nat.{ℕ, ◌+◌, ◌<◌, ◌≤◌}
use native.Mathlib.Omega.{arith}
use lib.ListN.{length, get_or, length-append}
use borrow.Author.Tests.{eq-eqb, ne_eqb}
use Rattle.loops.specs.Fill.{chosen}
use Rattle.loops.specs.Total.{bit}
use Rattle.loops.proofs.Fill.{chosen_taken, chosen_left, length_chosen, chosen_at}
use Rattle.loops.proofs.Total.{total_within, count_le}
use Rattle.rules.specs.Layout.{bookings, mark_of, is_marked}
use Rattle.day_file.specs.Day.{marks_of}

module _ (w : List ℕ) where
  abbrev pub marks_so_far : ℕ → List ℕ
  marks_so_far i = chosen (is_marked w) i

  pub marks_none : marks_so_far 0 ≡ []
  unfolding chosen
  marks_none = refl

  pub marks_whole : marks_of w ≡ marks_so_far (bookings w)
  unfolding marks_of
  marks_whole = refl

  pub marks_few : (i : ℕ) → length (marks_so_far i) ≤ i
  marks_few i = omega (arith, length_chosen (is_marked w) i, count_le (is_marked w) i)

  -- ---- one booking more, by the word that its mark was read as

  module _ (i : ℕ) {v : ℕ} (read : v ≡ mark_of w i) where
    pub unmarked_more : v ≢ 1 → marks_so_far (i + 1) ≡ marks_so_far i
    unmarked_more other = chosen_left (is_marked w) i (ne_eqb (mark_of w i) 1 (λ one. other (read ∙ one)))

    module _ (one : v ≡ 1) where
      pub marked_more : marks_so_far (i + 1) ≡ marks_so_far i ++ (i ∷ [])
      marked_more = chosen_taken (is_marked w) i (eq-eqb (mark_of w i) 1 (sym read ∙ one))

      -- it is one of all, and stands behind those before it
      pub mark_within : (n : ℕ) → i < n → length (marks_so_far i) + 1 ≤ length (marks_so_far n)
      mark_within n u =
          omega (
            arith,
            length_chosen (is_marked w) i,
            length_chosen (is_marked w) n,
            total_within (λ j. bit (is_marked w j)) n i u,
            ap bit (eq-eqb (mark_of w i) 1 (sym read ∙ one)),
          )

      pub mark_stands : (n : ℕ) → i < n → get_or (marks_so_far n) (length (marks_so_far i)) 0 ≡ i
      mark_stands n u =
          ap (λ a. get_or (marks_so_far n) a 0) (length_chosen (is_marked w) i) ∙ chosen_at (is_marked w) n i u (eq-eqb (mark_of w i) 1 (sym read ∙ one))
