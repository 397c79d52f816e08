-- Behind its count the setting has two bytes for each number.
use mathlib.Core.Path.{sym, ap, ◌∙◌}
use Prim.Native.Nat.{ℕ, ◌+◌, ◌*◌}
use lib.ListN.{drop}
use Rattle.day_marks.proofs.Readers.{setting_rest}
use Rattle.day_marks.proofs.bookings_start.Goals as goal

pub returns : goal.returns
returns c =
    let file = c.args.file.now in
    (c.past.ensures.0, c.past.ensures.1 ∙ ap (λ (n : ℕ). drop (2 + 2 * n) file) c.number_at-numbers.ensures.0 ∙ sym (setting_rest file))
