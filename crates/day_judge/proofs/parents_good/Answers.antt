-- Each parent below place a is a lower number and stands at no earlier place; the bits set are those parents.
use Prim.Native.Nat.{ℕ, ◌+◌, ◌<◌}
use mathlib.Core.Path.{◌≡◌, sym, ap, ap₂, ◌∙◌}
use mathlib.Core.Bool.{Bool, true, not, ◌&&◌}
use native.Mathlib.Omega.{arith}
use mathlib.Core.List.{List}
use lib.ListN.{length, get_or, take}
use lib.Seq.{length-take-le}
use Rattle.std.proofs.lemmas.List.{get_or-take}
use borrow.Author.Rules.{rules}
use borrow.Author.Tests.{eq-eqb, ltb-true}
use Rattle.loops.proofs.Bools.{and_judged}
use Rattle.loops.proofs.Search.{search_start, search_miss, search_over, all_fails}
use Rattle.rules.specs.Layout.{most_bookings}
use Rattle.bits.specs.Members.{set_below}
use Rattle.bits.specs.Bits.{bit_at, with_bit}
use Rattle.bits.proofs.SetBelow.{set_below_zero, set_below_more, bit_at_set_below}
use Rattle.day_judge.proofs.parents_good.Invariants.{lower, test}
use Rattle.day_judge.proofs.parents_good.Goals as goal

-- the test as it was asked, by the bits set
asked : (parents : List ℕ) (j a : ℕ) → j + 1 < most_bookings → {named : List ℕ} {set : Bool} → named ≡ set_below (λ b. get_or parents b 0) a → set ≡ bit_at named (get_or parents a 0)
    → lower parents j a && not set ≡ test parents j a
asked parents j a few {set = set} noted told =
    let p : ℕ = get_or parents a 0 in
    ap (λ t. lower parents j a && not t) (told ∙ ap (λ m. bit_at m p) noted)
    ∙ and_judged true (lower parents j a) _ _ (λ e. ap not (bit_at_set_below (λ b. get_or parents b 0) a p (omega (arith, ltb-true p (j + 1) e))))

pub loop-parent-init : goal.loop-parent-init
loop-parent-init c = (search rules, sym (set_below_zero _), search_start _ _)

pub returns-then-not-p-j : goal.returns-then-not-p-j
returns-then-not-p-j c =
    let parents = c.args.parents.now in
    let T = c.loop-parent in
    let long : length (take c.args.count parents) ≡ c.args.count = length-take-le c.args.count parents c.requires.0 in
    let here : get_or (take c.args.count parents) T.parent-index 0 ≡ get_or parents T.parent-index 0 = get_or-take c.args.count parents T.parent-index 0 (omega arith) in
    let told = asked parents c.args.j T.parent-index c.requires.1 T.invariant.1 (rw here at c.is_set.ensures) in
    sym (all_fails (test parents c.args.j) _ T.parent-index (omega arith) (sym told ∙ rw here at c.if-not-p-j.true))

pub loop-parent-preserved : goal.loop-parent-preserved
loop-parent-preserved c =
    let parents = c.args.parents.now in
    let T = c.loop-parent in
    let long : length (take c.args.count parents) ≡ c.args.count = length-take-le c.args.count parents c.requires.0 in
    let here : get_or (take c.args.count parents) T.parent-index 0 ≡ get_or parents T.parent-index 0 = get_or-take c.args.count parents T.parent-index 0 (omega arith) in
    let told = asked parents c.args.j T.parent-index c.requires.1 T.invariant.1 (rw here at c.is_set.ensures) in (
      omega arith,
      c.set_bit.ensures ∙ ap₂ with_bit here T.invariant.1 ∙ sym (set_below_more (λ b. get_or parents b 0) T.parent-index),
      search_miss _ _ _ T.invariant.2 (omega arith) (ap not (sym told ∙ rw here at c.if-not-p-j.false)),
    )

pub returns : goal.returns
returns c =
    let long = length-take-le c.args.count c.args.parents.now c.requires.0 in
    let over = search_over _ _ _ c.loop-parent.invariant.2 (omega (arith, long)) in
    sym (eq-eqb _ _ (over ∙ omega (arith, long)))
