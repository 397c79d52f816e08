-- What the word is where a state was read off it.
use mathlib.Core.Path.{◌≡◌, refl, sym, subst, ap, ◌∙◌}
use mathlib.Core.Bool.{Bool, true, false, cond}
use Prim.Native.Nat.{ℕ, ◌≤◌, ◌<◌}
use native.Mathlib.Omega.{arith}
use lib.Dec.{eqb}
use borrow.Author.Tests.{eqb-true, eqb-false, ne_eqb}
use Rattle.terms.specs.Votes.{state_says}
use Rattle.terms.specs.declared.vote.State.{State}
use Rattle.terms.specs.declared.vote.State.TheVariants.{Waiting, NoChit, Chit, Unknown}

-- the words that read as the state
abbrev pub Reads : State → ℕ → Type 0
Reads Waiting s = s ≡ 0
Reads NoChit s = s ≡ 1
Reads Chit s = s ≡ 2
Reads Unknown s = 2 < s

reads : (s : ℕ) → Reads (state_says s) s
unfolding state_says
reads s = first (eqb s 0) refl
  where
    third : (t : Bool) → eqb s 2 ≡ t → (s ≡ 0 → ⊥) → (s ≡ 1 → ⊥) → Reads (cond t Chit Unknown) s
    third true e n0 n1 = eqb-true s 2 e
    third false e n0 n1 = omega (arith, eqb-false s 2 e)

    second : (t : Bool) → eqb s 1 ≡ t → (s ≡ 0 → ⊥) → Reads (cond t NoChit (cond (eqb s 2) Chit Unknown)) s
    second true e n0 = eqb-true s 1 e
    second false e n0 = third (eqb s 2) refl n0 (eqb-false s 1 e)

    first : (t : Bool) → eqb s 0 ≡ t → Reads (cond t Waiting (cond (eqb s 1) NoChit (cond (eqb s 2) Chit Unknown))) s
    first true e = eqb-true s 0 e
    first false e = second (eqb s 1) refl (eqb-false s 0 e)

-- a word past the states is none of them
pub unknown_other : {s : ℕ} (t : ℕ) → t ≤ 2 → 2 < s → eqb s t ≡ false
unknown_other {s} t l h = ne_eqb s t (λ q. omega arith)

-- the state t was read off x, which is the word s
pub state_reads : {s x : ℕ} {r : State} (t : State) → x ≡ s → r ≡ state_says x → r ≡ t → Reads t s
state_reads {s} t word says told = subst (λ (u : State). Reads u s) (sym (says ∙ ap state_says word) ∙ told) (reads s)
