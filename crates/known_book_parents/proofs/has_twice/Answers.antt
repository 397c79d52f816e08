-- The closure asks whether the name at place a stands among those before it.
use Rattle.std.proofs.Common.{ℕ, ◌∙◌, ◌-◌, Bool, eqb, length, get_or, take, drop, refl, ap, arith, rules, tests}
use native.Mathlib.Nat.{sub-zero}
use Rattle.std.specs.List.{list_any}
use Rattle.loops.proofs.Search.{any_same}
use Rattle.loops.proofs.Chains.{any_over, any_taken}
use Rattle.rules.specs.Book.{has_twice}
use Rattle.known_book_parents.proofs.has_twice.Goals as goal

pub returns : goal.returns
unfolding has_twice
returns c =
    let l = c.args.parents.now in
    let same : ℕ → ℕ → Bool = λ a y. eqb y (get_or l a 0) in
    let earlier : ℕ → Bool = λ a. list_any (same a) (take (a - 0) (drop 0 l)) in
    any_over _ _ earlier (length l) _ c.any.ensures.ran refl (λ x b q k. search (rules, tests))
    ∙ any_same earlier _ (length l) (λ a u. ap (λ n. list_any (same a) (take n l)) (sub-zero a) ∙ any_taken (same a) l a (omega arith))
