-- The two numbers are the poll that the law reads there.
use mathlib.Core.Path.{◌≡◌, sym, ap, ◌∙◌}
use mathlib.Core.List.{List}
use Prim.Native.Nat.{ℕ, ◌+◌}
use native.Mathlib.Omega.{arith}
use lib.ListN.{drop}
use lib.Dec.{eqb}
use borrow.Author.Rules.{rules}
use Rattle.rules.specs.Layout.{state_of}
use Rattle.day_file.specs.Day.{DayPoll}
use Rattle.day_file.specs.Decode.{Read, read_poll}
use Rattle.day_replay.specs.Rows.{repolled_once}
use Rattle.day_replay.proofs.Rows.{poll_read}
use Rattle.day_replay.proofs.repoll.Goals as goal

-- the poll that the law reads there is these two numbers
abbrev Reads : (file : List ℕ) (at booking outcome : ℕ) → Type 0
Reads file at booking outcome =
    read_poll (drop at file) ≡ record { value = record { booking = booking; success = eqb outcome 1 }; rest = drop (at + 4) file }

pub write_outcome-requires : goal.write_outcome-requires
write_outcome-requires c =
    let read : Reads c.args.file.now c.args.at c.wide-i.result c.number_at-outcome.result =
    poll_read c.args.file.now c.args.at c.number_at-outcome.result (search rules) (search rules) c.wide-i.ensures.0 c.number_at.ensures c.number_at-outcome.ensures in
    let able = c.requires.0 in
    let same = ap (λ (o : Read DayPoll). o.value.booking) read in
    (able.ledger, omega (arith, able.booked, same), ap (state_of c.args.w.now) (sym same) ∙ able.waiting)

pub returns : goal.returns
returns c =
    let read : Reads c.args.file.now c.args.at c.wide-i.result c.number_at-outcome.result =
    poll_read c.args.file.now c.args.at c.number_at-outcome.result (search rules) (search rules) c.wide-i.ensures.0 c.number_at.ensures c.number_at-outcome.ensures in
    record {
      words = c.write_outcome.ensures ∙ sym (ap (λ (o : Read DayPoll). repolled_once c.args.w.now o.value) read);
      behind = sym (ap (λ (o : Read DayPoll). o.rest) read);
    }
