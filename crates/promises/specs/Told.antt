-- What each reading answers, as callers see it: of every booking of every sound workspace.
use Rattle.std.specs.Prelude.{◌≡◌, List, ℕ, suc, ◌<◌, pos, ◌-ℤ◌, Ok}
use Rattle.rules.specs.Layout.{bookings, name_of, slot_of, confidence_of, mark_of, preferred_in}
use Rattle.rules.specs.Ancestry.{Reaches}
use Rattle.rules.specs.Sound.{Ledger}
use Rattle.rules.specs.Calls.{query_call, accepted_call, lead_call, confidence_call, size_call}
use Rattle.rules.specs.AsRead.{MostOfRivals}
use Rattle.terms.specs.Answers.{Answer}

-- c of the bookings below n are in the ancestry of i
pub data Sized (w : List ℕ) (i : ℕ) : ℕ → ℕ → Type 0 where
  nobody : Sized w i 0 0
  counts : {n c : ℕ} → Reaches w i n → Sized w i n c → Sized w i (suc n) (suc c)
  passes : {n c : ℕ} → (Reaches w i n → ⊥) → Sized w i n c → Sized w i (suc n) c

-- 1 exactly if the claim holds, else 0
pub record Tells (w : List ℕ) (call : List ℕ → ℕ → Answer) (i : ℕ) (claim : Type 0) : Type 0 where
  pub yes : claim → call w (name_of w i) ≡ Ok (pos 1)
  pub no : (claim → ⊥) → call w (name_of w i) ≡ Ok (pos 0)

-- what the five readings answer for booking i: preferred ancestry, the mark of acceptance, the distance to the strongest rival, the
-- confidence, and how many bookings it reaches
pub record Told (w : List ℕ) (i : ℕ) : Type 0 where
  pub query : Tells w query_call i ((j : ℕ) → Reaches w i j → preferred_in w (slot_of w j) ≡ j)
  pub accepted : Tells w accepted_call i (mark_of w i ≡ 1)
  pub lead : (m : ℕ) × MostOfRivals w i m × (lead_call w (name_of w i) ≡ Ok (pos (confidence_of w i) -ℤ pos m))
  pub confidence : confidence_call w (name_of w i) ≡ Ok (pos (confidence_of w i))
  pub size : (c : ℕ) × Sized w i (bookings w) c × (size_call w (name_of w i) ≡ Ok (pos c))

-- every reading, asked by a booking's name, says this of it
unfoldable pub ReadingsTold : Type 0
ReadingsTold = (w : List ℕ) → Ledger w → (i : ℕ) → i < bookings w → Told w i
