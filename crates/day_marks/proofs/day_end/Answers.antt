-- Each part starts where the one before it ends, as the law reads them.
use mathlib.Core.Path.{◌≡◌, sym, ap, ap₂, ◌∙◌}
use mathlib.Core.List.{List}
use Prim.Native.Nat.{ℕ, ◌+◌, ◌*◌}
use lib.ListN.{drop}
use Rattle.day_file.specs.Decode.{read_number, read_many, read_counted, read_setting, read_booking}
use Rattle.day_marks.proofs.Readers.{day_rest}
use Rattle.day_marks.proofs.day_end.Goals as goal

pub returns : goal.returns
returns c =
    let file = c.args.file.now in
    let start = c.bookings_start-start.ensures.1 in
    let bookings : drop c.bookings_end-end.result file ≡ (read_counted read_booking (read_setting file).rest).rest =
    c.bookings_end-end.ensures.1
    ∙ ap₂ (λ (n : ℕ) (l : List ℕ). (read_many read_booking n l).rest) (c.number_at-count.ensures.0 ∙ ap (λ l. (read_number l).value) start) (c.past.ensures.1 ∙ ap (drop 2) start) in (
      c.past-2.ensures.0,
      c.past-2.ensures.1
          ∙ ap₂ (λ (n : ℕ) (l : List ℕ). drop (2 + 4 * n) l) (c.number_at-polls.ensures.0 ∙ ap (λ l. (read_number l).value) bookings) bookings
          ∙ sym (day_rest file),
    )
