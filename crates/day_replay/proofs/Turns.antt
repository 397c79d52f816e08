-- A loop over the rows of a section: before turn j the words are those of stage j, and what stands in the file from the offset on is the rows from row j on.
-- Said once, for bookings and for polls. Assumes nothing.
use mathlib.Core.Path.{◌≡◌, sym, ap, ◌∙◌}
use mathlib.Core.List.{List}
use Prim.Native.Nat.{ℕ, ◌+◌, ◌-◌, ◌<◌, ◌≤◌}
use native.Mathlib.Omega.{arith}
use lib.ListN.{length, get_or, drop, length-append, length-drop}
use Rattle.day_file.specs.Decode.{Read}
use Rattle.day_file.proofs.Codec.{Undone, Each}
use Rattle.day_replay.specs.Rows.{Replayed}
use Rattle.day_replay.proofs.Rows.{rows_from, row_front, row_read, rows_over}

module _ {A : Type 0} (bytes : A → List ℕ) (d : A) (xs : List A) (tail : List ℕ) (stage : ℕ → List ℕ) (file : List ℕ) where
  pub record Turn (w : List ℕ) (at j : ℕ) : Type 0 where
    pub most : j ≤ length xs
    pub words : w ≡ stage j
    pub rows : drop at file ≡ rows_from bytes d xs tail j

  module _ {w : List ℕ} {at j : ℕ} (turn : Turn w at j) where
    -- after the last
    pub turn_over : length xs ≤ j → (w ≡ stage (length xs)) × (drop at file ≡ tail)
    turn_over h =
        let last : j ≡ length xs = omega (arith, turn.most) in
        (turn.words ∙ ap stage last, turn.rows ∙ ap (rows_from bytes d xs tail) last ∙ rows_over bytes d xs tail)

    module _ (h : j < length xs) where
      -- the row has its bytes in the file
      pub turn_within : length (bytes (get_or xs j d)) ≤ length file - at
      turn_within =
          omega (
            arith,
            ap length (turn.rows ∙ row_front bytes d xs tail j h),
            length-drop at file,
            length-append (bytes (get_or xs j d)) (rows_from bytes d xs tail (j + 1)),
          )

      module _ {read : List ℕ → Read A} {Fits : A → Type 0} (undone : Undone bytes read Fits) (each : Each Fits xs) where
        -- it is the row that is read
        pub turn_read : read (drop at file) ≡ record { value = get_or xs j d; rest = rows_from bytes d xs tail (j + 1) }
        turn_read = ap read turn.rows ∙ row_read bytes d xs tail undone each j h

        pub turn_more : {once : List ℕ → A → List ℕ} {r : ℕ} {w' : List ℕ} → stage (j + 1) ≡ once (stage j) (get_or xs j d)
            → Replayed once (read (drop at file)) w file r w' → Turn w' r (j + 1)
        turn_more {once} {w' = w'} next done =
            record {
              most = omega arith;
              words = done.words ∙ ap (λ v. once v (read (drop at file)).value) turn.words ∙ ap (λ (o : Read A). once (stage j) o.value) turn_read ∙ sym next;
              rows = done.behind ∙ ap (λ (o : Read A). o.rest) turn_read;
            }
