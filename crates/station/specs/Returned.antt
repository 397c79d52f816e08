-- What the C face hands over of a call: its number, its value, and the words that it leaves; of one with a second buffer its bytes too.
use Rattle.std.specs.Prelude.{ℕ, ◌≡◌, List, ℤ}
use Rattle.terms.specs.Answers.{Outcome, Handover, number, value, Answer}

-- the number r returned and the value v written are those of the answer
pub record Returned (a : Answer) (r : ℕ) (v : ℤ) : Type 0 where
  pub numbered : r ≡ number a
  pub valued : v ≡ value a

-- and the words w left, or the bytes of a move's output, are those of the outcome
pub record Handed (o : Outcome) (r : ℕ) (v : ℤ) (w : List ℕ) : Type 0 where
  pub told : Returned o.answer r v
  pub words : w ≡ o.words

-- and the words w and the bytes b left are those of the handover
pub record HandedOver (o : Handover) (r : ℕ) (v : ℤ) (w b : List ℕ) : Type 0 where
  pub told : Returned o.answer r v
  pub words : w ≡ o.words
  pub lent : b ≡ o.lent
