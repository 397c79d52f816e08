-- The first booking with the name is what the search of the law finds.
use Rattle.std.proofs.Common.{◌≡◌, ◌∙◌, ◌-◌, eqb, refl, arith, rules, tests}
use Rattle.loops.proofs.Chains.{find_over}
use Rattle.rules.specs.Layout.{bookings, name_of}
use Rattle.rules.specs.Book.{look_up}
use Rattle.booking_reads.proofs.booking.find.Goals as goal

pub returns : goal.returns
unfolding look_up
returns c =
    let w = c.args.w.now in
    let n = c.how_many.result in
    let all : n ≡ bookings w = c.how_many.ensures in
    let left : bookings w - 0 ≡ bookings w = omega arith in
    find_over _ _ (λ i. eqb (name_of w i) c.args.name) 0 n _ c.find.ensures.ran refl (omega arith) (λ x b q k. search (rules, tests))
    ∙ rw (all, left)
