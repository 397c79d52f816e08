-- The numbers are the setting of the day that the file carries, and the bookings stand behind the last of them.
use mathlib.Core.Path.{◌≡◌}
use lib.ListN.{drop}
use borrow.Author.Rules.{rules}
use Rattle.terms.specs.Setting.{setting_of}
use Rattle.day_file.specs.Decode.{decode}
use Rattle.day_replay.specs.Rows.{behind_setting}
use Rattle.day_replay.proofs.GoodFile.{first_read, later_read, opened_first}
use Rattle.day_replay.proofs.reopen.Goals as goal
use Rattle.day_replay.proofs.reopen.Goals.{then-number_at-eq-FIRST_NUMBERS, else-number_at-eq-FIRST_NUMBERS}

pub returns : goal.returns
returns c =
    let file = c.args.file.now in
    let good = c.requires.1 in
    let chosen = c.if-number_at-eq-FIRST_NUMBERS.edition in
    let read : (setting_of c.number_at-k.result c.number_at-a.result c.number_at-beta1.result c.number_at-beta2.result chosen.0 ≡ (decode file).setting) × (drop chosen.1 file ≡ behind_setting (decode file)) =
    elim c.if-number_at-eq-FIRST_NUMBERS.branch [
      | then-number_at-eq-FIRST_NUMBERS w ↦ rw w.edition-is (first_read file good c.number_at.result (search rules) c.number_at.ensures c.number_at-k.result c.number_at-a.result c.number_at-beta1.result c.number_at-beta2.result (search rules) (search rules) (search rules) (search rules) c.number_at-k.ensures c.number_at-a.ensures c.number_at-beta1.ensures c.number_at-beta2.ensures w.if-number_at-eq-FIRST_NUMBERS.true)
      | else-number_at-eq-FIRST_NUMBERS w ↦
          rw w.edition-is
          (later_read file good c.number_at.result (search rules) c.number_at.ensures c.number_at-k.result c.number_at-a.result c.number_at-beta1.result c.number_at-beta2.result (search rules) (search rules) (search rules) (search rules) c.number_at-k.ensures c.number_at-a.ensures c.number_at-beta1.ensures c.number_at-beta2.ensures w.if-number_at-eq-FIRST_NUMBERS.false w.number_at-else-number_at-eq-FIRST_NUMBERS.result (search rules) w.number_at-else-number_at-eq-FIRST_NUMBERS.ensures)
    ] in
    (opened_first file good c.write_open.ensures read.0, read.1)
