-- The state read is a chit exactly if the state word is 2.
use mathlib.Core.Path.{◌≡◌, refl, ap, ◌∙◌}
use mathlib.Core.Bool.{Bool, true, false}
use Prim.Native.Nat.{ℕ, zero, suc}
use native.Mathlib.Omega.{arith}
use lib.Dec.{eqb}
use borrow.Author.Rules.{rules}
use borrow.Author.Tests.{ne_eqb}
use Rattle.loops.specs.Total.{bit}
use Rattle.loops.proofs.Elements.{as_bit}
use Rattle.rules.specs.Layout.{state_of}
use Rattle.terms.specs.Votes.{state_says}
use Rattle.terms.specs.declared.vote.State.{State}
use Rattle.terms.specs.declared.vote.State.TheVariants.{Waiting, NoChit, Chit, Unknown}
use Rattle.words.proofs.chit.Goals as goal

abbrev is_chit : State → Bool
is_chit Waiting = false
is_chit NoChit = false
is_chit Chit = true
is_chit Unknown = false

chit_word : (s : ℕ) → is_chit (state_says s) ≡ eqb s 2
unfolding state_says
chit_word zero = refl
chit_word (suc zero) = refl
chit_word (suc (suc zero)) = refl
chit_word (suc (suc (suc s))) = rw (ne_eqb (suc (suc (suc s))) 0 (λ e. omega arith), ne_eqb (suc (suc (suc s))) 1 (λ e. omega arith), ne_eqb (suc (suc (suc s))) 2 (λ e. omega arith))

pub returns : goal.returns
returns c =
    let told : c.match-matches.matches ≡ is_chit (state_says (state_of c.args.w.now c.args.i)) = search rules in
    c.from.ensures ∙ as_bit _ ∙ ap bit (told ∙ chit_word _)
