-- The members are those after the places so far: a parent of j's own word is a bit of the word apart, any other a bit of the row.
use Prim.Native.Nat.{◌/◌}
use mathlib.Core.Path.{◌≡◌, sym, ap, ap₂, ◌∙◌}
use native.Mathlib.Omega.{arith}
use lib.ListN.{length, get_or}
use borrow.Author.Rules.{rules}
use Rattle.loops.proofs.Fill.{length_from, get_d_from}
use Rattle.loops.proofs.Turns.{up_to_zero, up_to_more}
use Rattle.rules.specs.Layout.{most_parents, parents_field, field, parent_of}
use Rattle.rules.specs.Ancestry.{with_member}
use Rattle.bits.specs.Members.{members_with}
use Rattle.bits.proofs.Members.{length_members_with, with_member_own, with_member_other}
use Rattle.ancestry_parents.proofs.UnusedPlaces.{parents_done}
use Rattle.ancestry_parents.proofs.gather_parents.Goals as goal
use Rattle.ancestry_parents.proofs.gather_parents.Goals.{then-p-j, else-p-j+else-p-ge-MOST_BOOKINGS}

pub loop-parent-init : goal.loop-parent-init
loop-parent-init c = (search rules, sym (up_to_zero _ _))

pub returns-then-p-ge-MOST_BOOKINGS : goal.returns-then-p-ge-MOST_BOOKINGS
returns-then-p-ge-MOST_BOOKINGS c =
    let turn = c.loop-parent in
    let w = c.args.w.now in
    let places : length c.fields-parent-items.result.now ≡ most_parents = ap length c.fields-parent-items.ensures ∙ length_from _ _ _ in
    let parent : c.from-p.result ≡ parent_of w c.args.j turn.parent-index =
    c.from-p.ensures ∙ ap (λ l. get_or l turn.parent-index 0) c.fields-parent-items.ensures ∙ get_d_from (field w c.args.j) parents_field most_parents turn.parent-index (omega (arith, places)) in
    turn.invariant.1
    ∙ sym (parents_done w c.requires.0.sound c.args.j turn.parent-index (members_with c.args.m.now (c.args.j / 64) c.args.own) c.requires.1 (omega (arith, places)) (omega (arith, parent))
    (ap length (sym turn.invariant.1) ∙ length_members_with turn.m (c.args.j / 64) turn.word ∙ omega arith))

pub loop-parent-preserved : goal.loop-parent-preserved
loop-parent-preserved c =
    let turn = c.loop-parent in
    let w = c.args.w.now in
    let p = c.from-p.result in
    let q = c.args.j / 64 in
    let places : length c.fields-parent-items.result.now ≡ most_parents = ap length c.fields-parent-items.ensures ∙ length_from _ _ _ in
    let parent : p ≡ parent_of w c.args.j turn.parent-index =
    c.from-p.ensures ∙ ap (λ l. get_or l turn.parent-index 0) c.fields-parent-items.ensures ∙ get_d_from (field w c.args.j) parents_field most_parents turn.parent-index (omega (arith, places)) in
    let after = ap₂ with_member parent turn.invariant.1 ∙ sym (up_to_more _ turn.parent-index _) in
    elim c.if-p-j.branch [
      | then-p-j w ↦ (
        omega (arith, ap length w.m-is),
        ap₂ (λ x y. members_with x q y) w.m-is (w.word-is ∙ w.with_bit-word.ensures)
            ∙ with_member_own turn.m q turn.word p (omega (arith, c.requires.0.sound.bookings_most)) w.if-p-j.true ∙ after,
      )
      | else-p-j+else-p-ge-MOST_BOOKINGS w ↦ (
        omega (arith, ap length w.m-is, w.set_bit.auto.bits),
        ap₂ (λ x y. members_with x q y) (w.m-is ∙ w.set_bit.ensures) w.word-is ∙ with_member_other turn.m q turn.word p w.if-p-j.false ∙ after,
      )
    ]

pub returns : goal.returns
returns c =
    let turn = c.loop-parent in
    let places : length c.fields-parent-items.result.now ≡ most_parents = ap length c.fields-parent-items.ensures ∙ length_from _ _ _ in
    let over : turn.parent-index ≡ most_parents = omega (arith, places) in
    rw over at turn.invariant.1
