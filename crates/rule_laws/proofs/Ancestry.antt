-- On a sound workspace the members of `ancestry` are exactly the bookings that `Reaches` names.
-- A member is only ever made of a parent of a member, so members are reached. The other way: parents are lower, so when the sweep
-- has passed a number no member will be made there, and all its parents are members; at the end this holds at every number.
use mathlib.Core.Path.{◌≡◌, refl, sym, ap, subst, ◌∙◌}
use mathlib.Core.Bool.{Bool, true, false, cond}
use mathlib.Core.List.{List}
use mathlib.Core.Logic.{◌⊎◌, inl, inr, ⊎_elim, ◌↔◌}
use Prim.Native.Nat.{ℕ, zero, suc, ◌+◌, ◌-◌, ◌<◌, ◌≤◌}
use native.Mathlib.Nat.{eq-or-lt_of_le}
use native.Mathlib.Numerals.{add-one}
use native.Mathlib.Decide.{dec_lt, ℕ_discrete}
use native.Mathlib.Omega.{arith}
use lib.ListN.{length, get_or, set, replicate, length-set, length-replicate, get_or-replicate, get_or-eq_default}
use lib.Seq.{get_or-set_same, get_or-set_other, set_out}
use borrow.Author.Tests.{eq-eqb, eqb-true}
use Rattle.loops.specs.Turns.{up_to}
use Rattle.loops.proofs.Turns.{up_to_kept, up_to_since, up_to_same}
use Rattle.rules.specs.Layout.{most_bookings, most_parents, bookings, parent_of}
use Rattle.rules.specs.Ancestry.{Parent, Reaches, self, up, is_member, with_member, with_parents, spread, sweep, no_members, ancestry}
use Rattle.rules.specs.Sound.{Sound}

-- ---- what becomes of k, from m to m': it stays, or it is made, and then for the reason P

data MemberGrown (m m' : List ℕ) (k : ℕ) (P : Type 0) : Type 0 where
  stays : get_or m' k 0 ≡ get_or m k 0 → MemberGrown m m' k P
  made : P → get_or m' k 0 ≡ 1 → MemberGrown m m' k P

abbrev Member : List ℕ → ℕ → Type 0
Member m k = get_or m k 0 ≡ 1

module _ {m m' : List ℕ} {k : ℕ} {P : Type 0} where
  grown_kept : MemberGrown m m' k P → Member m k → Member m' k
  grown_kept (stays e) t = e ∙ t
  grown_kept (made p e) t = e

  grown_only : MemberGrown m m' k P → Member m' k → Member m k ⊎ P
  grown_only (stays e) t = inl (sym e ∙ t)
  grown_only (made p e) t = inr p

  grown_for : {Q : Type 0} → (P → Q) → MemberGrown m m' k P → MemberGrown m m' k Q
  grown_for f (stays e) = stays e
  grown_for f (made p e) = made (f p) e

  grown_then : {m'' : List ℕ} → MemberGrown m m' k P → MemberGrown m' m'' k P → MemberGrown m m'' k P
  grown_then (stays e) (stays d) = stays (d ∙ e)
  grown_then (made p e) (stays d) = made p (d ∙ e)
  grown_then g (made p e) = made p e

-- ---- one member more

with_member_new : (m : List ℕ) (p : ℕ) → p < length m → Member (with_member p m) p
with_member_new m p h = get_or-set_same m p 1 0 h

with_member_grown : (m : List ℕ) (p k : ℕ) → MemberGrown m (with_member p m) k ((k ≡ p) × (p < length m))
with_member_grown m p k = go (ℕ_discrete k p) (dec_lt p (length m))
  where
    go : Dec (k ≡ p) → Dec (p < length m) → MemberGrown m (with_member p m) k ((k ≡ p) × (p < length m))
    go (yes e) (yes h) = made (e, h) (ap (λ x. get_or (set m p 1) x 0) e ∙ with_member_new m p h)
    go (no d) h = stays (get_or-set_other m p k 1 0 d)
    go (yes e) (no h) = stays (ap (λ l. get_or l k 0) (set_out m p 1 (omega arith)))

-- ---- the parents of j too

module _ (w : List ℕ) (j : ℕ) where
  with_parent : ℕ → List ℕ → List ℕ
  with_parent a = with_member (parent_of w j a)

  length_with_parents : (n : ℕ) (m : List ℕ) → length (up_to with_parent n m) ≡ length m
  unfolding with_parent
  length_with_parents n m = up_to_kept with_parent (λ v. length v ≡ length m) n (λ a l v e. simp length-set e) m refl

  -- an unused place is past the end of the members
  parents_grown : (n : ℕ) (m : List ℕ) (k : ℕ) → n ≤ most_parents → length m ≡ most_bookings → MemberGrown m (up_to with_parent n m) k (Parent w j k)
  unfolding with_parent up_to
  parents_grown zero m k h e = stays refl
  parents_grown (suc n) m k h e =
      grown_then (parents_grown n m k (omega arith) e)
      (grown_for
      (λ u. record { place = n; within = omega arith; stands = sym u.0; used = λ q. omega (arith, length_with_parents n m) })
      (with_member_grown (up_to with_parent n m) (parent_of w j n) k))

  parents_new : (m : List ℕ) (p : ℕ) → Parent w j p → p < length m → Member (up_to with_parent most_parents m) p
  unfolding with_parent
  parents_new m p a h =
      up_to_since with_parent (λ v. Member v p) most_parents a.place a.within m
      (rw a.stands (with_member_new (up_to with_parent a.place m) p (omega (arith, length_with_parents a.place m))))
      (λ b l u v t. grown_kept (with_member_grown v (parent_of w j b) p) t)

-- ---- one turn of the sweep

module _ (w : List ℕ) (j : ℕ) (m : List ℕ) where
  pub length_spread : length (spread w j m) ≡ length m
  unfolding spread with_parent
  length_spread = elim (is_member m j) as (λ b. length (cond b (with_parents w j m) m) ≡ length m) [ true ↦ length_with_parents w j most_parents m | false ↦ refl ]

  spread_new : (p : ℕ) → Member m j → Parent w j p → p < length m → Member (spread w j m) p
  unfolding spread with_parent
  spread_new p t a h = rw (eq-eqb (get_or m j 0) 1 t) (parents_new w j m p a h)

  spread_grown : (k : ℕ) → length m ≡ most_bookings → MemberGrown m (spread w j m) k (Member m j × Parent w j k)
  unfolding spread with_parent
  spread_grown k e = go (is_member m j) refl
    where
      go : (b : Bool) → is_member m j ≡ b → MemberGrown m (cond b (with_parents w j m) m) k (Member m j × Parent w j k)
      go true q = grown_for (λ a. (eqb-true _ _ q, a)) (parents_grown w j most_parents m k (omega arith) e)
      go false q = stays refl

-- ---- the whole sweep

pub length_sweep : (w : List ℕ) (j : ℕ) (m : List ℕ) → length (sweep w j m) ≡ length m
unfolding sweep
length_sweep w zero m = refl
length_sweep w (suc j) m = length_sweep w j (spread w j m) ∙ length_spread w j m

-- members are made only for what is reached
sweep_grown : (w : List ℕ) (i j : ℕ) (m : List ℕ) (k : ℕ) → length m ≡ most_bookings → ((x : ℕ) → Member m x → Reaches w i x) → MemberGrown m (sweep w j m) k (Reaches w i k)
unfolding sweep
sweep_grown w i zero m k e h = stays refl
sweep_grown w i (suc j) m k e h =
    grown_then
    (grown_for (λ u. up (h j u.0) u.1) (spread_grown w j m k e))
    (sweep_grown w i j (spread w j m) k (length_spread w j m ∙ e)
    (λ x t. ⊎_elim (h x) (λ u. up (h j u.0) u.1) (grown_only (spread_grown w j m x e) t)))

-- ---- at the start only i is a member

pub length_no_members : length no_members ≡ most_bookings
length_no_members = length-replicate {A = ℕ} most_bookings 0

pub no_members_zero : (k : ℕ) → get_or no_members k 0 ≡ 0
no_members_zero k = go most_bookings (dec_lt k most_bookings)
  where
    go : (n : ℕ) → Dec (k < n) → get_or {A = ℕ} (replicate n 0) k 0 ≡ 0
    go n (yes h) = get_or-replicate n k 0 0 h
    go n (no h) = get_or-eq_default (replicate n 0) 0 (omega (arith, length-replicate {A = ℕ} n 0))

length_start : (i : ℕ) → length (with_member i no_members) ≡ most_bookings
length_start i = length-set no_members i 1 ∙ length_no_members

start_only : (i k : ℕ) → Member (with_member i no_members) k → k ≡ i
start_only i k t = ⊎_elim (λ (u : Member no_members k). absurd (omega (arith, no_members_zero k))) (λ u. u.0) (grown_only (with_member_grown no_members i k) t)

-- ---- the members of booking i's ancestry, on any words

module _ (w : List ℕ) (i : ℕ) where
  swept_grown : (k : ℕ) → MemberGrown (with_member i no_members) (ancestry w i) k (Reaches w i k)
  unfolding ancestry
  swept_grown k = sweep_grown w i (suc i) (with_member i no_members) k (length_start i) (λ x t. subst (Reaches w i) (sym (start_only i x t)) self)

  ancestry_grown : (k : ℕ) → MemberGrown no_members (ancestry w i) k (Reaches w i k)
  ancestry_grown k = grown_then (grown_for (λ u. subst (Reaches w i) (sym u.0) self) (with_member_grown no_members i k)) (swept_grown k)

  -- a member is reached
  pub members→Reaches : (k : ℕ) → is_member (ancestry w i) k ≡ true → Reaches w i k
  members→Reaches k t =
      ⊎_elim (λ (u : Member no_members k). absurd (omega (arith, no_members_zero k))) (λ r. r) (grown_only (ancestry_grown k) (eqb-true _ _ t))

-- what is reached from what is reached
pub Reaches_then : {w : List ℕ} {i j k : ℕ} → Reaches w i j → Reaches w j k → Reaches w i k
Reaches_then r self = r
Reaches_then r (up s a) = up (Reaches_then r s) a

-- ---- on a sound workspace

module _ (w : List ℕ) (sound : Sound w) where
  -- parents are lower
  pub Parent_lt : (j p : ℕ) → j < bookings w → Parent w j p → p < j
  Parent_lt zero p h a = absurd (a.used (sym a.stands ∙ sound.genesis_parents a.place a.within))
  Parent_lt (suc j) p h a =
      subst (λ x. x < suc j) a.stands
      ((sound.booking (suc j) (omega arith) h).parents_lower a.place a.within (λ e. a.used (sym a.stands ∙ e)))

  pub Reaches_le : {i j : ℕ} → i < bookings w → Reaches w i j → j ≤ i
  Reaches_le h self = omega arith
  Reaches_le h (up {j} {p} r a) = let l = Reaches_le h r in omega (arith, Parent_lt j p (omega arith) a)

  -- every member from t on has its parents among the members
  Closed : ℕ → List ℕ → Type 0
  Closed t m = (k p : ℕ) → t ≤ k → k < bookings w → Member m k → Parent w k p → Member m p

  sweep_closed : (j : ℕ) (m : List ℕ) → j ≤ bookings w → length m ≡ most_bookings → Closed j m → Closed 0 (sweep w j m)
  unfolding sweep Closed
  sweep_closed zero m b e h = h
  sweep_closed (suc j) m b e h =
      sweep_closed j (spread w j m) (omega arith) (length_spread w j m ∙ e)
      (λ k p l u t a.
      ⊎_elim
      (λ (v : Member m k).
      ⊎_elim
      (λ (q : j ≡ k).
      spread_new w j m p (subst (Member m) (sym q) v) (subst (λ x. Parent w x p) (sym q) a) (omega (arith, sound.bookings_most, Parent_lt k p u a)))
      (λ (q : j < k). grown_kept (spread_grown w j m p e) (h k p q u v a))
      (eq-or-lt_of_le l))
      (λ v. absurd (omega (arith, Parent_lt j k (omega arith) v.1)))
      (grown_only (spread_grown w j m k e) t))

  module _ (i : ℕ) (below : i < bookings w) where
    ancestry_closed : Closed 0 (ancestry w i)
    unfolding ancestry Closed
    ancestry_closed =
        sweep_closed (suc i) (with_member i no_members) (omega arith) (length_start i) (λ k p l u t a. absurd (omega (arith, start_only i k t)))

    reached : {k : ℕ} → Reaches w i k → Member (ancestry w i) k
    unfolding Closed
    reached self = grown_kept (swept_grown w i i) (with_member_new no_members i (omega (arith, sound.bookings_most, length_no_members)))
    reached (up {j} {p} r a) = ancestry_closed j p (omega arith) (omega (arith, Reaches_le below r)) (reached r) a

    -- what is reached is a member
    pub Reaches→members : (k : ℕ) → Reaches w i k → is_member (ancestry w i) k ≡ true
    Reaches→members k r = eq-eqb (get_or (ancestry w i) k 0) 1 (reached r)

    -- the members are the ancestry
    pub members_are : (k : ℕ) → (is_member (ancestry w i) k ≡ true) ↔ Reaches w i k
    members_are k = (members→Reaches w i k, Reaches→members k)

    pub member_le : (k : ℕ) → is_member (ancestry w i) k ≡ true → k ≤ i
    member_le k t = Reaches_le below (members→Reaches w i k t)

    pub member_self : is_member (ancestry w i) i ≡ true
    member_self = Reaches→members i self

-- ---- the turns of a loop that counts down

pub sweep_turn : (w : List ℕ) (j : ℕ) (m : List ℕ) → 0 < j → sweep w j m ≡ sweep w (j - 1) (spread w (j - 1) m)
unfolding sweep
sweep_turn w zero m h = absurd (omega arith)
sweep_turn w (suc j) m h = let e : suc j - 1 ≡ j = omega arith in rw e

pub sweep_done : (w : List ℕ) (j : ℕ) (m : List ℕ) → j ≤ 0 → sweep w j m ≡ m
unfolding sweep
sweep_done w zero m h = refl
sweep_done w (suc j) m h = absurd (omega arith)

pub sweep_all : (w : List ℕ) (i : ℕ) → sweep w (i + 1) (with_member i no_members) ≡ ancestry w i
unfolding ancestry
sweep_all w i = ap (λ n. sweep w n (with_member i no_members)) (add-one i)

-- ---- the ancestry of i depends only on the parents of the bookings up to i

module _ (w u : List ℕ) where
  spread_same : (j : ℕ) → ((a : ℕ) → a < most_parents → parent_of u j a ≡ parent_of w j a) → (m : List ℕ) → spread u j m ≡ spread w j m
  unfolding spread with_parent
  spread_same j h m = ap (λ l. cond (is_member m j) l m) (up_to_same (with_parent u j) (with_parent w j) most_parents (λ a l v. ap (λ p. with_member p v) (h a l)) m)

  sweep_same : (n : ℕ) → ((j a : ℕ) → j < n → a < most_parents → parent_of u j a ≡ parent_of w j a) → (m : List ℕ) → sweep u n m ≡ sweep w n m
  unfolding sweep
  sweep_same zero h m = refl
  sweep_same (suc j) h m = ap (sweep u j) (spread_same j (λ a. h j a (omega arith)) m) ∙ sweep_same j (λ k a l. h k a (omega arith)) (spread w j m)

  pub ancestry_kept : (i : ℕ) → ((j a : ℕ) → j ≤ i → a < most_parents → parent_of u j a ≡ parent_of w j a) → ancestry u i ≡ ancestry w i
  unfolding ancestry
  ancestry_kept i h = sweep_same (suc i) (λ j a l. h j a (omega arith)) (with_member i no_members)
