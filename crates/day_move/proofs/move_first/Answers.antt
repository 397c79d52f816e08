-- A file that isn't good is refused. The words of a good one are a ledger, and its second form is the file with their marks behind it.
use mathlib.Core.Path.{◌≡◌, refl, sym, ap, subst, ◌∙◌}
use mathlib.Core.Bool.{true}
use Rattle.terms.specs.declared.form.Form.TheVariants.{First, Second}
use Rattle.rules.specs.Sound.{Ledger}
use Rattle.day_file.specs.Bytes.{file_of}
use Rattle.day_file.specs.Replay.{good_file}
use Rattle.promises.proofs.Good.{file_ledger}
use Rattle.promises.proofs.MoveFile.{moved_is}
use Rattle.day_move.proofs.Moves.{bad_first, written_moved}
use Rattle.day_move.proofs.move_first.Goals as goal

pub returns-then-not-is_good : goal.returns-then-not-is_good
returns-then-not-is_good c = bad_first c.args.file.now c.args.out.now (sym c.is_good.ensures ∙ c.if-not-is_good.true)

pub write_second-requires : goal.write_second-requires
write_second-requires c =
    let good : good_file c.args.file.now ≡ true = sym c.is_good.ensures ∙ c.if-not-is_good.false in
    subst Ledger (sym c.replay.ensures) (file_ledger c.args.file.now good)

pub returns : goal.returns
returns c =
    let good : good_file c.args.file.now ≡ true = sym c.is_good.ensures ∙ c.if-not-is_good.false in
    written_moved First c.args.file.now c.args.out.now _ _ _ (subst Ledger (sym c.replay.ensures) (file_ledger c.args.file.now good)) good refl
    (ap (file_of Second) c.replay.ensures ∙ sym (moved_is First c.args.file.now good)) c.write_second.ensures
