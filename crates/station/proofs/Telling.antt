-- What is told of an answer is told of the call that gave it.
use Prim.Native.Nat.{ℕ}
use mathlib.Core.Path.{◌≡◌, ap, ◌∙◌}
use mathlib.Core.List.{List}
use lib.IntN.{ℤ}
use Rattle.terms.specs.Answers.{Outcome, outcome, Handover, handover, number, value, Answer}
use Rattle.station.specs.Returned.{Returned, Handed, HandedOver}

-- of a reading, whose call is an answer
pub told_of : {a b : Answer} {r : ℕ} {v : ℤ} → a ≡ b → Returned a r v → Returned b r v
told_of e t = record { numbered = t.numbered ∙ ap number e; valued = t.valued ∙ ap value e }

-- of a writing call, whose outcome has words besides
pub left_of : {a : Answer} {w : List ℕ} {o : Outcome} {r : ℕ} {v : ℤ} → outcome a w ≡ o → Returned a r v → Handed o r v w
left_of e t = record { told = told_of (ap (λ o. o.answer) e) t; words = ap (λ o. o.words) e }

-- of a call with a second buffer, whose handover has bytes besides
pub handed_of : {a : Answer} {w b : List ℕ} {o : Handover} {r : ℕ} {v : ℤ} → handover a w b ≡ o → Returned a r v → HandedOver o r v w b
handed_of e t = record { told = told_of (ap (λ o. o.answer) e) t; words = ap (λ o. o.words) e; lent = ap (λ o. o.lent) e }
