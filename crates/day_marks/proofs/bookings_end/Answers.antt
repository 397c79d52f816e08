-- The offset is behind the first j bookings; where it is the end, the others leave nothing too.
use mathlib.Core.Path.{◌≡◌, sym, ap, ◌∙◌}
use mathlib.Core.List.{[]}
use Prim.Native.Nat.{ℕ, ◌+◌, ◌-◌}
use native.Mathlib.Omega.{arith}
use lib.ListN.{drop, drop_of_length-le}
use Rattle.day_file.specs.Decode.{read_many, read_booking}
use Rattle.day_marks.proofs.Readers.{many_none, many_and, many_more, bookings_nothing}
use Rattle.day_marks.proofs.bookings_end.Goals as goal

pub loop-init : goal.loop-init
loop-init c =
    (omega arith, c.requires, sym (many_none read_booking (drop c.args.start c.args.file.now)))

pub returns-then-at-file : goal.returns-then-at-file
returns-then-at-file c =
    let S = c.args in
    let file = S.file.now in
    let l = drop S.start file in
    let nothing : drop c.loop.at file ≡ [] = drop_of_length-le file {i = c.loop.at} (omega arith) in
    let others : c.loop.counter + (S.count - c.loop.counter) ≡ S.count = omega arith in (
      c.loop.invariant.1,
      nothing
          ∙ sym (ap (λ (n : ℕ). (read_many read_booking n l).rest) (sym others) ∙ many_and read_booking c.loop.counter (S.count - c.loop.counter) l
          ∙ ap (λ t. (read_many read_booking (S.count - c.loop.counter) t).rest) (sym c.loop.invariant.2 ∙ nothing) ∙ bookings_nothing (S.count - c.loop.counter)),
    )

pub loop-preserved : goal.loop-preserved
loop-preserved c =
    let S = c.args in
    let l = drop S.start S.file.now in
    (omega arith, c.booking_end-at.ensures.0, c.booking_end-at.ensures.1 ∙ ap (λ t. (read_booking t).rest) c.loop.invariant.2 ∙ sym (many_more read_booking c.loop.counter l))
