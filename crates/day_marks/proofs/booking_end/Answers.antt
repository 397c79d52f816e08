-- Behind its name, its slot and its count a booking has two bytes for each parent.
use mathlib.Core.Path.{sym, ap, ◌∙◌}
use Prim.Native.Nat.{ℕ, ◌+◌, ◌*◌}
use lib.ListN.{drop}
use Rattle.day_file.specs.Decode.{read_number}
use Rattle.day_marks.proofs.Readers.{booking_rest}
use Rattle.day_marks.proofs.booking_end.Goals as goal

pub returns : goal.returns
returns c =
    let S = c.args in
    let l = drop S.at S.file.now in
    let count = c.number_at-parents.ensures.0 ∙ ap (λ t. (read_number t).value) c.past.ensures.1 in
    (c.past-2.ensures.0, c.past-2.ensures.1 ∙ ap (λ (n : ℕ). drop (12 + 2 * n) l) count ∙ sym (booking_rest l))
