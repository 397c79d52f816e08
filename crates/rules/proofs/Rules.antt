-- Three rules and a case, each of one definition alone. The table of cases shows them on whole ledgers.
use mathlib.Core.Path.{◌≡◌, refl, ap}
use mathlib.Core.Bool.{cond}
use mathlib.Core.List.{List, [], ◌∷◌}
use Prim.Native.Nat.{ℕ}
use native.Mathlib.Omega.{arith}
use lib.Seq.{set-set}
use borrow.Author.Tests.{le-ltb, eq-eqb}
use Rattle.loops.specs.Total.{total}
use Rattle.terms.specs.Votes.{vote_of}
use Rattle.rules.specs.IsSound.{record_row, ordinals_held}
use Rattle.rules.specs.Layout.{most_bookings, bookings, preferred_field, confidence_of, preferred_in, with_entry}
use Rattle.rules.specs.Ancestry.{with_member}
use Rattle.rules.specs.Poll.{yes_votes, prefer}

-- of two yes and a no, two are yes
pub yes_counts_alone : yes_votes (1 ∷ 1 ∷ 255 ∷ []) ≡ 2
unfolding vote_of total
yes_counts_alone = refl

-- a booking that two paths reach is gathered once
pub gathered_once : (p : ℕ) (m : List ℕ) → with_member p (with_member p m) ≡ with_member p m
gathered_once p m = set-set m p 1 1

-- a rival that draws level moves no word
pub draw_moves_nothing : (s j : ℕ) (w : List ℕ) → confidence_of w j ≡ confidence_of w (preferred_in w s) → prefer s j w ≡ w
unfolding prefer
draw_moves_nothing s j w level =
    ap (λ above. cond above (with_entry w s preferred_field j) w) (le-ltb (confidence_of w (preferred_in w s)) (confidence_of w j) (omega arith))

-- in a full ledger number 512 has no record: it answers for a missing ordinal, and for nothing else
pub full_charges_512 : (w : List ℕ) → bookings w ≡ most_bookings → record_row w most_bookings ≡ ordinals_held w
full_charges_512 w full = rw (le-ltb most_bookings (bookings w) (omega arith), eq-eqb most_bookings (bookings w) (omega arith))
