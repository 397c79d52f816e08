use Rattle.std.proofs.Common.{◌≡◌, ◌-◌, arith, length, take, drop, rules}
use Rattle.std.proofs.Math.Seq.{take-add, take_all}
use Rattle.std.proofs.Math.ListN.{length-drop}
use Rattle.std.proofs.KnownBytes.{Appends-trans}
use Rattle.console.proofs.write_out.Goals as goal

pub loop-done-preserved : goal.loop-done-preserved
loop-done-preserved g c =
    let bytes = c.args.bytes.now in
    let done = c.loop-done.done in
    let rest : take (length bytes - done) (drop done bytes) ≡ drop done bytes = take_all _ _ (omega (arith, length-drop done bytes)) in
    record {
      within = search rules;
      written = rw (take-add done c.in_ok-count.count bytes) (Appends-trans _ _ _ _ _ c.loop-done.invariant.written (rw rest at c.in_ok-count.ensures.bytes));
    }
