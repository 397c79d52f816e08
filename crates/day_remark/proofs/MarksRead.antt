-- A section of marks is as long as they are many, and what is read at the place of each is that mark. A pass over the bookings that meets each mark of the section
-- in its turn, and none besides, tells whether they are the words' own.
use mathlib.Core.Path.{◌≡◌, sym, ap, ap₂, ◌∙◌}
use mathlib.Core.Bool.{false}
use mathlib.Core.List.{List, [], ◌∷◌, ◌++◌}
use mathlib.Core.Logic.{◌≢◌}
use Prim.Native.Nat.{ℕ, ◌+◌, ◌*◌, ◌<◌, ◌≤◌}
use native.Mathlib.Decide.{ℕ_discrete}
use native.Mathlib.Numerals.{add-one}
use native.Mathlib.Omega.{arith}
use lib.Dec.{eqb}
use lib.ListN.{length, get_or, take, drop}
use lib.Seq.{take-suc, take-length, length-take-le}
use borrow.Author.Tests.{eq-eqb, ne_eqb}
use Rattle.rules.specs.Layout.{bookings, mark_of}
use Rattle.day_file.specs.Day.{marks_of}
use Rattle.day_file.specs.Bytes.{number_bytes}
use Rattle.day_file.specs.Decode.{Read, read_number, marks_in}
use Rattle.day_file.specs.Replay.{same_list}
use Rattle.day_file.proofs.Joined.{length_high_first, length_counted, length_joined_even}
use Rattle.day_file.proofs.Codec.{number_undone}
use Rattle.day_file.proofs.SecondFile.{marks_many, mark_read}
use Rattle.day_file.proofs.SameList.{list_same, list_differs}
use Rattle.day_file.proofs.MarksSoFar.{marks_so_far, marks_none, marks_whole, unmarked_more, marked_more, mark_within, mark_stands}
use Rattle.day_remark.specs.Section.{MarksLaid}

-- ---- what is read

module _ (section : List ℕ) where
  -- a number read at an offset
  number_is : (at r : ℕ) → r < 65536 → drop at section ≡ number_bytes r ++ drop (at + 2) section → (read_number (drop at section)).value ≡ r
  number_is at r small e = ap (λ (o : Read ℕ). o.value) (ap read_number e ∙ number_undone.undoes r small (drop (at + 2) section))

  pub count_is : (r : ℕ) → r < 65536 → drop 0 section ≡ number_bytes r ++ drop (0 + 2) section → r ≡ length (marks_in section)
  count_is r small e = sym (marks_many section ∙ number_is 0 r small e)

  pub mark_is : (a r : ℕ) → a < length (marks_in section) → r < 65536 → drop (2 + 2 * a) section ≡ number_bytes r ++ drop (2 + 2 * a + 2) section
      → r ≡ get_or (marks_in section) a 0
  mark_is a r u small e = sym (mark_read section a u ∙ number_is (2 + 2 * a) r small e)

  pub length_section : MarksLaid section → length section ≡ 2 + 2 * length (marks_in section)
  length_section good =
      omega (
        arith,
        ap length good.laid,
        length_counted number_bytes (marks_in section),
        length_joined_even number_bytes 2 (length_high_first 2) (marks_in section),
      )

-- ---- the words' marks against others

module _ (w marks : List ℕ) where
  -- the words' marks below i are the first of the others, so many
  pub record Met (next i : ℕ) : Type 0 where
    pub few : next ≤ length marks
    pub same : marks_so_far w i ≡ take next marks

  pub met_none : Met 0 0
  met_none = record { few = omega arith; same = marks_none w }

  module _ {next i : ℕ} (met : Met next i) where
    pub met_long : length (marks_so_far w i) ≡ next
    met_long = ap length met.same ∙ length-take-le next marks met.few

    -- all were met exactly if none is left
    pub met_all : i ≡ bookings w → {count : ℕ} → count ≡ length marks → eqb next count ≡ same_list (marks_of w) marks
    met_all over {count} e = go (ℕ_discrete next count)
      where
        whole : marks_of w ≡ take next marks
        whole = marks_whole w ∙ ap (marks_so_far w) (sym over) ∙ met.same

        go : Dec (next ≡ count) → eqb next count ≡ same_list (marks_of w) marks
        go (yes q) = eq-eqb next count q ∙ sym (list_same (marks_of w) marks (whole ∙ ap (λ n. take n marks) (q ∙ e) ∙ take-length marks))
        go (no q) =
            ne_eqb next count q
            ∙ sym (list_differs (marks_of w) marks (λ (same : marks_of w ≡ marks). q (sym (length-take-le next marks met.few) ∙ ap length (sym whole ∙ same) ∙ sym e)))

    module _ {v : ℕ} (read : v ≡ mark_of w i) where
      pub met_unmarked : v ≢ 1 → Met next (i + 1)
      met_unmarked other = record { few = met.few; same = unmarked_more w i read other ∙ met.same }

      module _ (one : v ≡ 1) where
        -- the next is this one
        pub met_more : next < length marks → get_or marks next 0 ≡ i → Met (next + 1) (i + 1)
        met_more u here = record {
          few = omega arith;
          same = marked_more w i read one ∙ ap₂ (λ l m. l ++ (m ∷ [])) met.same (sym here) ∙ sym (ap (λ n. take n marks) (add-one next) ∙ take-suc marks next 0 u);
        }

        -- there is none, or it is another
        pub met_too_many : i < bookings w → next ≡ length marks → false ≡ same_list (marks_of w) marks
        met_too_many u e =
            sym (list_differs (marks_of w) marks (λ (same : marks_of w ≡ marks).
            omega (arith, mark_within w i read one (bookings w) u, met_long, ap length (sym (marks_whole w) ∙ same))))

        pub met_other : i < bookings w → get_or marks next 0 ≢ i → false ≡ same_list (marks_of w) marks
        met_other u other =
            sym (list_differs (marks_of w) marks (λ (same : marks_of w ≡ marks).
            other (ap₂ (λ l a. get_or l a 0) (sym same ∙ marks_whole w) (sym met_long) ∙ mark_stands w i read one (bookings w) u)))
