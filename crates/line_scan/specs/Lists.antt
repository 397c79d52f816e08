-- Document 01, "The text program": the parents of a booking and the votes of a poll, as many words as there are, up to a limit.
use Rattle.std.specs.Prelude.{ℕ, zero, suc, ◌≡◌, Bool, cond, List, [], ◌∷◌, Option, Some, None, length, eqb}
use Rattle.std.proofs.lemmas.List.Edits.{sets}

-- the parents of `book`, the votes of `poll`
abbrev pub parents_most : ℕ
parents_most = 16

abbrev pub votes_most : ℕ
votes_most = 64

abbrev pub ahead : {A : Type 0} → Option A → List A → List A
ahead (Some v) vs = v ∷ vs
ahead None vs = []

-- the values that the words begin with, up to the first word that has none and at most as many as the limit
unfoldable pub leading : {A : Type 0} → (List ℕ → Option A) → ℕ → List (List ℕ) → List A
leading reader zero ws = []
leading reader (suc most) [] = []
leading reader (suc most) (w ∷ ws) = ahead (reader w) (leading reader most ws)

-- every word has a value, and they are not too many
abbrev pub is_list : {A : Type 0} → (List ℕ → Option A) → ℕ → List (List ℕ) → Bool
is_list reader most ws = eqb (length (leading reader most ws)) (length ws)

-- how many
unfoldable pub many_of : {A : Type 0} → (List ℕ → Option A) → ℕ → List (List ℕ) → Option ℕ
many_of reader most ws = cond (is_list reader most ws) (Some (length ws)) None

-- what reading the words after a place leaves: how many, and the values at the start of the buffer
pub record Listed {A : Type 0} (reader : List ℕ → Option A) (most : ℕ) (ws : List (List ℕ)) (buffer : List A) (r : Option ℕ) (buffer' : List A) : Type 0 where
  pub many : r ≡ many_of reader most ws
  pub after : buffer' ≡ sets buffer 0 (leading reader most ws)

-- a function that returns this for a word gives the word's value
abbrev pub Reads : {A : Type 0} → (List ℕ → Option A → Type 0) → (List ℕ → Option A) → Type 0
Reads returns reader = (word : List ℕ) (value : _) → returns word value → value ≡ reader word
