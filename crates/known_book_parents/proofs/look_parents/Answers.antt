-- The parents below a are known, and their numbers stand in their places.
use mathlib.Core.Path.{◌≡◌, sym, ap, ◌∙◌}
use lib.ListN.{length, get_or}
use native.Mathlib.Omega.{arith}
use borrow.Author.Rules.{rules}
use borrow.Author.Tests.{lt-ltb, le-ltb}
use Rattle.loops.proofs.Turns.{up_to_zero, up_to_more}
use Rattle.loops.proofs.Search.{search_start, search_hit, search_miss, search_over}
use Rattle.rules.specs.Book.{is_absent, has_unknown}
use Rattle.rule_laws.proofs.Lookup.{found_below_lem}
use Rattle.known_book_parents.specs.Parents.{first_unknown}
use Rattle.known_book_parents.proofs.look_parents.Goals as goal

pub loop-a-init : goal.loop-a-init
loop-a-init c = (search rules, search_start _ _, sym (up_to_zero _ _))

pub returns-in_default : goal.returns-in_default
unfolding has_unknown
returns-in_default c =
    let e : first_unknown c.args.w.now c.args.parents.now ≡ c.loop-a.a = search_hit _ _ _ c.loop-a.invariant.1 (omega arith) (ap is_absent (sym c.find.ensures ∙ c.in_default.is)) in
    record {
      answer = rw (e, lt-ltb c.loop-a.a (length c.args.parents.now) (omega arith));
      after = rw e c.loop-a.invariant.2;
    }

pub overflow_cast-numbers : goal.overflow_cast-numbers
overflow_cast-numbers c =
    omega (arith, c.requires.0.sound.bookings_most, found_below_lem c.args.w.now (get_or c.args.parents.now c.loop-a.a 0) c.in-Some.p (sym c.find.ensures ∙ c.in-Some.is))

pub loop-a-preserved : goal.loop-a-preserved
loop-a-preserved c =
    let L = c.loop-a in
    let e = sym c.find.ensures ∙ c.in-Some.is in
    (omega arith, search_miss _ _ _ L.invariant.1 (omega arith) (ap is_absent e), rw (up_to_more, ← L.invariant.2, e))

pub returns : goal.returns
unfolding has_unknown
returns c =
    let e : first_unknown c.args.w.now c.args.parents.now ≡ c.loop-a.a = search_over _ _ _ c.loop-a.invariant.1 (omega arith) in
    record {
      answer = rw (e, le-ltb c.loop-a.a (length c.args.parents.now) (omega arith));
      after = rw e c.loop-a.invariant.2;
    }
