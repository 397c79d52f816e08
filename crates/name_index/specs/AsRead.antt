-- CR 6 as people read it: when probing meets a name, and which cell is the first empty one.
-- proofs/Probing.antt shows that the definitions of Index.antt say the same.
use Rattle.std.specs.Prelude.{ℕ, ◌<◌, ◌≡◌, List, ◌≢◌}
use Rattle.rules.specs.Layout.{bookings, name_of}
use Rattle.name_index.specs.Index.{cells, empty, cell, home, tried}

-- from the name's home, after so many others, a cell is met that has the number of a booking with the name, and none of the others is empty
pub record NameMet (w index : List ℕ) (name : ℕ) : Type 0 where
  pub others : ℕ
  pub within : others < cells
  pub below : cell index (tried (home name) others) < bookings w
  pub named : name_of w (cell index (tried (home name) others)) ≡ name
  pub before : (s : ℕ) → s < others → cell index (tried (home name) s) ≢ empty

-- cell c is the first empty one from cell h on, up by one and round
pub record FirstEmpty (index : List ℕ) (h c : ℕ) : Type 0 where
  pub others : ℕ
  pub within : others < cells
  pub there : c ≡ tried h others
  pub free : cell index c ≡ empty
  pub before : (s : ℕ) → s < others → cell index (tried h s) ≢ empty

-- no cell is empty
abbrev pub NoneEmpty : List ℕ → Type 0
NoneEmpty index = (c : ℕ) → c < cells → cell index c ≢ empty
