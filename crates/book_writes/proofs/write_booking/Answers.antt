-- The record, then the slot, then n. The slot's count is that of the ledger, since a record reaches no entry, and can rise.
use Prim.Native.Nat.{◌≤◌}
use mathlib.Core.Path.{ap}
use lib.ListN.{length}
use native.Mathlib.Omega.{arith}
use borrow.Author.Rules.{rules}
use Rattle.rules.specs.Layout.{record_words, held_field}
use Rattle.rule_laws.proofs.Words.{entry_sets_record_kept}
use Rattle.book_writes.proofs.Held.{held_most}
use Rattle.book_writes.proofs.write_booking.Goals as goal

pub enter_slot-requires : goal.enter_slot-requires
enter_slot-requires c =
    let short : length c.new_record-row.result ≤ record_words = omega (arith, ap length c.new_record-row.ensures) in
    let kept = entry_sets_record_kept c.args.w.now c.wide.result c.new_record-row.result c.wide-2.result held_field (search rules) short in
    (search rules, search rules, rw (c.set_fields.ensures, kept, c.wide-2.ensures.0) (omega (arith, held_most c.requires.0 c.args.slot (search rules))))
