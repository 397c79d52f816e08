-- The bits set are the numbers of the polls before q; each of these is by the rules, and their bytes are there.
use Prim.Native.Nat.{◌+◌, ◌*◌, ◌<◌}
use mathlib.Core.Path.{◌≡◌, sym, ap, ap₂, ◌∙◌}
use mathlib.Core.Bool.{not}
use mathlib.Core.List.{List}
use native.Mathlib.Omega.{arith}
use lib.ListN.{drop, length-drop}
use borrow.Author.Rules.{rules}
use borrow.Author.Tests.{eq-eqb}
use Rattle.loops.proofs.Search.{search_start, search_miss, search_over}
use Rattle.bits.specs.Bits.{with_bit}
use Rattle.bits.proofs.SetBelow.{set_below_zero, set_below_more}
use Rattle.day_file.specs.Bytes.{poll_bytes}
use Rattle.day_file.specs.Decode.{read_poll}
use Rattle.day_file.specs.DayRules.{poll_passes}
use Rattle.day_file.specs.Day.{DayPoll, polled_in}
use Rattle.day_judge.specs.Parts.{poll_test}
use Rattle.day_judge.proofs.Walk.{holds_more, holds_none}
use Rattle.day_judge.proofs.Decides.{denied, affirmed}
use Rattle.day_judge.proofs.Rows.{poll_leaves}
use Rattle.day_judge.proofs.Polls.{poll_at_lem, poll_rules, poll_there, polls_short, polls_end, polls_row, polls_rule, polls_whole}
use Rattle.day_judge.proofs.polls_good.Invariants.{polls_at}
use Rattle.day_judge.proofs.polls_good.Goals as goal

pub returns-then-sections-at-lt-NUMBER_BYTES : goal.returns-then-sections-at-lt-NUMBER_BYTES
returns-then-sections-at-lt-NUMBER_BYTES c = denied (λ claim. omega (arith, polls_short c.args.most (drop c.args.at c.args.sections.now) claim, length-drop c.args.at c.args.sections.now))

pub returns-then-sections-start : goal.returns-then-sections-start
returns-then-sections-start c =
    let small : c.number_at-polls.result < 65536 = search rules in
    denied (λ claim. omega (arith, polls_end c.args.sections.now c.args.at c.number_at-polls.result small c.number_at-polls.ensures c.args.most claim (omega arith)))

pub loop-q-init : goal.loop-q-init
loop-q-init c =
    let polls : List DayPoll = polls_at c.args.sections.now (c.args.at + 2) c.number_at-polls.result in
    (omega arith, c.requires.2 ∙ sym (set_below_zero (polled_in polls)), holds_none poll_bytes read_poll poll_leaves (drop (c.args.at + 2) c.args.sections.now), search_start _ _)

pub returns-then-not-enter_poll : goal.returns-then-not-enter_poll
returns-then-not-enter_poll c =
    let polls : List DayPoll = polls_at c.args.sections.now (c.args.at + 2) c.number_at-polls.result in
    let small : c.number_at-polls.result < 65536 = search rules in
    let tests : poll_test c.args.most c.loop-q.seen (read_poll (drop (c.args.at + 2 + 4 * c.loop-q.q) c.args.sections.now)).value ≡ poll_passes c.args.most polls c.loop-q.q = ap (λ m. poll_test c.args.most m (read_poll (drop (c.args.at + 2 + 4 * c.loop-q.q) c.args.sections.now)).value) c.loop-q.invariant.1 ∙ poll_rules c.args.sections.now c.args.at c.number_at-polls.result small c.number_at-polls.ensures c.args.most c.loop-q.q (omega arith) (omega arith) in
    denied (λ claim. c.enter_poll.ensures.0.no c.if-not-enter_poll.true (record {
      laid = polls_row c.args.sections.now c.args.at c.number_at-polls.result small c.number_at-polls.ensures c.args.most claim c.loop-q.q (omega arith);
      rules = tests ∙ polls_rule c.args.sections.now c.args.at c.number_at-polls.result small c.number_at-polls.ensures c.args.most claim c.loop-q.q (omega arith);
    }))

pub loop-q-preserved : goal.loop-q-preserved
loop-q-preserved c =
    let polls : List DayPoll = polls_at c.args.sections.now (c.args.at + 2) c.number_at-polls.result in
    let small : c.number_at-polls.result < 65536 = search rules in
    let tests : poll_test c.args.most c.loop-q.seen (read_poll (drop (c.args.at + 2 + 4 * c.loop-q.q) c.args.sections.now)).value ≡ poll_passes c.args.most polls c.loop-q.q = ap (λ m. poll_test c.args.most m (read_poll (drop (c.args.at + 2 + 4 * c.loop-q.q) c.args.sections.now)).value) c.loop-q.invariant.1 ∙ poll_rules c.args.sections.now c.args.at c.number_at-polls.result small c.number_at-polls.ensures c.args.most c.loop-q.q (omega arith) (omega arith) in
    let good = c.enter_poll.ensures.0.yes c.if-not-enter_poll.false in
    let numbers = polled_in polls in (
      omega arith,
      c.enter_poll.ensures.1
          ∙ ap₂ with_bit (sym (ap (λ (x : DayPoll). x.booking) (poll_at_lem c.args.sections.now c.args.at c.number_at-polls.result small c.number_at-polls.ensures c.loop-q.q (omega arith)))) c.loop-q.invariant.1
          ∙ sym (set_below_more numbers c.loop-q.q),
      holds_more poll_bytes read_poll poll_leaves c.loop-q.q (drop (c.args.at + 2) c.args.sections.now) c.loop-q.invariant.2
          (rw (← poll_there c.args.sections.now c.args.at c.number_at-polls.result small c.number_at-polls.ensures c.loop-q.q) at good.laid),
      search_miss _ _ _ c.loop-q.invariant.3 (omega arith) (ap not (sym tests ∙ good.rules)),
    )

pub returns : goal.returns
returns c =
    let small : c.number_at-polls.result < 65536 = search rules in
    let end : c.loop-q.q ≡ c.number_at-polls.result = omega arith in
    affirmed
    (polls_whole c.args.sections.now c.args.at c.number_at-polls.result small c.number_at-polls.ensures c.args.most (rw end at c.loop-q.invariant.2)
    (eq-eqb _ _ (search_over _ _ _ c.loop-q.invariant.3 (omega arith) ∙ end)) (omega arith))
