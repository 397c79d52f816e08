-- Each return is a case of the law's call, with what is known of the booking and the votes.
use Rattle.std.specs.Prelude.{Some}
use mathlib.Core.Path.{◌≡◌, sym, ◌∙◌}
use native.Mathlib.Omega.{arith}
use borrow.Author.Rules.{rules}
use borrow.Author.Tests.{eqb-true, not-false}
use Rattle.rules.specs.Layout.{state_of}
use Rattle.rules.specs.Book.{look_up}
use Rattle.rule_laws.proofs.Lookup.{found_below_lem}
use Rattle.known_poll.proofs.Polled.{poll_absent, poll_over, poll_miscounted, poll_bad, poll_taken}
use Rattle.known_poll.proofs.poll.Goals as goal

pub returns-in_default : goal.returns-in_default
returns-in_default c =
    poll_absent _ _ _ c.requires (sym c.find.ensures ∙ c.in_default.is)

pub is_polled-requires : goal.is_polled-requires
is_polled-requires c =
    let found : look_up c.args.w.now c.args.name ≡ Some c.in-Some.i = sym c.find.ensures ∙ c.in-Some.is in
    (search rules, omega (arith, c.requires.sound.bookings_most, found_below_lem c.args.w.now c.args.name c.in-Some.i found))

pub returns-then-is_polled : goal.returns-then-is_polled
returns-then-is_polled c =
    let found = sym c.find.ensures ∙ c.in-Some.is in
    poll_over _ _ _ c.requires c.in-Some.i found (sym c.is_polled.ensures ∙ c.if-is_polled.true)

pub returns-then-is_miscounted : goal.returns-then-is_miscounted
returns-then-is_miscounted c =
    let found = sym c.find.ensures ∙ c.in-Some.is in
    poll_miscounted _ _ _ c.requires c.in-Some.i found
    (sym c.is_polled.ensures ∙ c.if-is_polled.false)
    (sym c.is_miscounted.ensures ∙ c.if-is_miscounted.true)

pub returns-then-has_refused : goal.returns-then-has_refused
returns-then-has_refused c =
    let found = sym c.find.ensures ∙ c.in-Some.is in
    poll_bad _ _ _ c.requires c.in-Some.i found
    (sym c.is_polled.ensures ∙ c.if-is_polled.false)
    (sym c.is_miscounted.ensures ∙ c.if-is_miscounted.false)
    (sym c.has_refused.ensures ∙ c.if-has_refused.true)

pub write_poll-requires : goal.write_poll-requires
write_poll-requires c =
    let found : look_up c.args.w.now c.args.name ≡ Some c.in-Some.i = sym c.find.ensures ∙ c.in-Some.is in (
      c.requires,
      found_below_lem c.args.w.now c.args.name c.in-Some.i found,
      eqb-true (state_of c.args.w.now c.in-Some.i) 0 (not-false _ (sym c.is_polled.ensures ∙ c.if-is_polled.false)),
    )

pub returns : goal.returns
returns c =
    let found = sym c.find.ensures ∙ c.in-Some.is in
    rw c.write_poll.ensures
    (poll_taken _ _ _ c.requires c.in-Some.i found
    (sym c.is_polled.ensures ∙ c.if-is_polled.false)
    (sym c.is_miscounted.ensures ∙ c.if-is_miscounted.false)
    (sym c.has_refused.ensures ∙ c.if-has_refused.false))
