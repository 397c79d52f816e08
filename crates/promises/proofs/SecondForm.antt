-- The promises of the day file in either form: the second's length, and that a file tells the day, in the second form the marks too, and nothing else.
-- Rests on specs/DayFile.antt. Assumes nothing.
use mathlib.Core.Path.{◌≡◌, refl, sym, ap, ap₂, subst, ◌∙◌}
use mathlib.Core.Bool.{Bool, true, false, true≢false}
use mathlib.Core.List.{List, ◌++◌}
use Prim.Native.Nat.{ℕ, ◌+◌, ◌*◌, ◌<◌}
use native.Mathlib.Omega.{arith}
use lib.ListN.{length, get_or}
use Rattle.loops.specs.Fill.{chosen}
use Rattle.loops.specs.Total.{bit, count}
use Rattle.loops.proofs.Total.{total_within}
use Rattle.loops.proofs.Fill.{length_chosen, chosen_same, chosen_is, chosen_at}
use Rattle.terms.specs.declared.form.Form.{Form}
use Rattle.terms.specs.declared.form.Form.TheVariants.{First, Second}
use Rattle.rules.specs.Layout.{bookings, is_marked}
use Rattle.rules.specs.Sound.{Ledger}
use Rattle.day_file.specs.Day.{day_of, marks_of}
use Rattle.day_file.specs.Bytes.{encode, marks_section, day_file, file_of}
use Rattle.day_file.specs.Decode.{decode, decode_marked}
use Rattle.day_file.proofs.Codec.{encode_same}
use Rattle.day_file.proofs.Fits.{day_of_fits}
use Rattle.day_file.proofs.SecondFile.{joined_day, joined_marks, marks_read}
use Rattle.promises.specs.DayFile.{Names64, SecondCounted, SecondLength, SameDay, SameMarks, SameFile, SameDayFile}
use Rattle.promises.proofs.DayFile.{same_day, day_same}
use Rattle.promises.proofs.Good.{decode_day_file, day_file_good}
use Rattle.promises.proofs.Forms.{marks_some, marks_most, marks_fit, length_second}

marks_counted : (w : List ℕ) → length (marks_of w) ≡ count (is_marked w) (bookings w)
unfolding marks_of
marks_counted w = length_chosen (is_marked w) (bookings w)

pub second_counted : SecondCounted
unfolding SecondCounted
second_counted w = omega (arith, length_second w, marks_counted w)

pub second_length : SecondLength
unfolding SecondLength
second_length w ledger = (omega (arith, length_second w, marks_some w ledger), omega (arith, length_second w, marks_most w ledger))

-- ---- the file tells the day and the marks

-- a number is listed exactly if it is marked
pub marks_told : (w u : List ℕ) → bookings w ≡ bookings u → marks_of w ≡ marks_of u → SameMarks w u
unfolding marks_of SameMarks
marks_told w u many e i h = by (is_marked w i) (is_marked u i) (λ m. marked w u many e i h m) (λ m. marked u w (sym many) (sym e) i (omega (arith, many)) m)
  where
    marked : (w u : List ℕ) → bookings w ≡ bookings u → chosen (is_marked w) (bookings w) ≡ chosen (is_marked u) (bookings u) → (i : ℕ) → i < bookings w
        → is_marked w i ≡ true → is_marked u i ≡ true
    marked w u many e i h m =
        let place : ℕ = count (is_marked w) i in
        let here : get_or (chosen (is_marked u) (bookings u)) place 0 ≡ i = ap (λ l. get_or l place 0) (sym e) ∙ chosen_at (is_marked w) (bookings w) i h m in
        let inside : place < length (chosen (is_marked u) (bookings u)) =
        subst (λ l. place < length l) e (omega (arith, length_chosen (is_marked w) (bookings w), total_within (λ j. bit (is_marked w j)) (bookings w) i h, ap bit m)) in
        subst (λ j. is_marked u j ≡ true) here (chosen_is (is_marked u) (bookings u) place inside).passes

    by : (a b : Bool) → (a ≡ true → b ≡ true) → (b ≡ true → a ≡ true) → a ≡ b
    by true b f g = sym (f refl)
    by false true f g = absurd (true≢false (sym (g refl)))
    by false false f g = refl

pub same_file : SameFile
unfolding SameFile
same_file First w u lw lu nw nu e = same_day w u (encode_same (day_of w) (day_of u) (day_of_fits w lw nw) (day_of_fits u lu nu) e) lw lu
same_file Second w u lw lu nw nu e =
    let day : day_of w ≡ day_of u = sym (read_day_lem w lw nw) ∙ ap decode e ∙ read_day_lem u lu nu in
    let marks : marks_of w ≡ marks_of u = sym (read_marks w lw nw) ∙ ap (λ f. (decode_marked f).marks) e ∙ read_marks u lu nu in
    let same = same_day w u day lw lu in
    (same, marks_told w u same.bookings_same marks)
  where
    read_day_lem : (w : List ℕ) → Ledger w → Names64 w → decode (file_of Second w) ≡ day_of w
    read_day_lem w l n = joined_day (day_file w) (marks_section (marks_of w)) (day_file_good w l n) ∙ decode_day_file w l n

    read_marks : (w : List ℕ) → Ledger w → Names64 w → (decode_marked (file_of Second w)).marks ≡ marks_of w
    read_marks w l n = joined_marks (day_file w) (marks_section (marks_of w)) (day_file_good w l n) ∙ marks_read (marks_of w) (marks_fit w l)

pub same_day_file : SameDayFile
unfolding SameDayFile marks_of SameMarks
same_day_file First w u ledger same = ap encode (day_same w u ledger same)
same_day_file Second w u ledger same =
    ap₂ (λ d marks. encode d ++ marks_section marks) (day_same w u ledger same.0)
    (chosen_same (is_marked w) (is_marked u) (bookings w) same.1 ∙ ap (chosen (is_marked u)) same.0.bookings_same)
