-- Document 01, "Ancestry": a booking's ancestry is itself and everything reached through parents, each member once.
-- `Reaches` is what people read, `ancestry` what computes; rule_laws/proofs/Ancestry.antt shows that they agree on sound workspaces.
use Rattle.std.specs.Prelude.{ℕ, zero, suc, ◌<◌, ◌≡◌, Bool, cond, List, ◌≢◌, eqb, get_or, set, replicate}
use Rattle.loops.specs.Turns.{up_to}
use Rattle.rules.specs.Layout.{most_bookings, most_parents, none, parent_of}

-- p stands at a used parent place of booking j
pub record Parent (w : List ℕ) (j p : ℕ) : Type 0 where
  pub place : ℕ
  pub within : place < most_parents
  pub stands : parent_of w j place ≡ p
  pub used : p ≢ none

-- booking j is in the ancestry of booking i
pub data Reaches (w : List ℕ) (i : ℕ) : ℕ → Type 0 where
  self : Reaches w i i
  up : {j p : ℕ} → Reaches w i j → Parent w j p → Reaches w i p

-- ---- the same as a list: 1 at each member, once however many paths lead there

abbrev pub is_member : List ℕ → ℕ → Bool
is_member m j = eqb (get_or m j 0) 1

-- the members with p too; an unused place is past the end and adds nobody
abbrev pub with_member : ℕ → List ℕ → List ℕ
with_member p m = set m p 1

-- the members with the parents of j too
abbrev pub with_parents : List ℕ → ℕ → List ℕ → List ℕ
with_parents w j m = up_to (λ a. with_member (parent_of w j a)) most_parents m

-- the same only if j is a member
unfoldable pub spread : List ℕ → ℕ → List ℕ → List ℕ
spread w j m = cond (is_member m j) (with_parents w j m) m

-- from j - 1 down to 0: parents are lower, so a member is met before its parents
unfoldable pub sweep : List ℕ → ℕ → List ℕ → List ℕ
sweep w zero m = m
sweep w (suc j) m = sweep w j (spread w j m)

abbrev pub no_members : List ℕ
no_members = replicate most_bookings 0

-- the members of booking i's ancestry
unfoldable pub ancestry : List ℕ → ℕ → List ℕ
ancestry w i = sweep w (suc i) (with_member i no_members)
