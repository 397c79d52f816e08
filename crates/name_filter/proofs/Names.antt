-- Every name noted so far has both bits set, so one with a bit that is not set is new.
use mathlib.Core.Path.{◌≡◌, refl, sym, ap, ap₂, ◌∙◌}
use mathlib.Core.Bool.{Bool, true, false, ◌&&◌, true≢false}
use mathlib.Core.List.{List}
use Prim.Native.Nat.{ℕ, ◌+◌, ◌<◌}
use native.Mathlib.Omega.{arith}
use lib.Dec.{eqb}
use lib.ListN.{length, replicate, length-replicate}
use borrow.Author.Tests.{eqb-true}
use Rattle.bits.specs.Bits.{bit_at, with_bit}
use Rattle.bits.proofs.Bits.{with_bit_length, bit_at_with_bit_same, bit_at_with_bit_kept}
use Rattle.loops.specs.Search.{any}
use Rattle.loops.proofs.Search.{any→}
use Rattle.loops.proofs.Turns.{up_to_zero, up_to_more, up_to_kept, up_to_since}
use Rattle.name_filter.specs.Names.{filter_words, first_bit, second_bit, is_noted, with_noted, names_noted}

pub noted_length : (name : ℕ) (f : List ℕ) → length (with_noted name f) ≡ length f
noted_length name f = with_bit_length (second_bit name) (with_bit (first_bit name) f) ∙ with_bit_length (first_bit name) f

pub names_noted_length : (f : ℕ → ℕ) (i : ℕ) → length (names_noted f i) ≡ filter_words
unfolding names_noted
names_noted_length f i =
    up_to_kept (λ j. with_noted (f j)) (λ m. length m ≡ filter_words) i (λ j l m e. noted_length (f j) m ∙ e) (replicate filter_words 0) (length-replicate {A = ℕ} filter_words 0)

-- the turns of the loop that notes
pub names_noted_zero : (f : ℕ → ℕ) → names_noted f 0 ≡ replicate filter_words 0
unfolding names_noted
names_noted_zero f = up_to_zero _ _

pub names_noted_more : (f : ℕ → ℕ) (i : ℕ) → names_noted f (i + 1) ≡ with_noted (f i) (names_noted f i)
unfolding names_noted
names_noted_more f i = up_to_more _ i _

-- a whole filter in which both bits of the name are set
record Has (name : ℕ) (f : List ℕ) : Type 0 where
  whole : length f ≡ filter_words
  first : bit_at f (first_bit name) ≡ true
  second : bit_at f (second_bit name) ≡ true

with_bit_has : (name q : ℕ) (f : List ℕ) → Has name f → Has name (with_bit q f)
with_bit_has name q f h =
    record {
      whole = with_bit_length q f ∙ h.whole;
      first = bit_at_with_bit_kept f q (first_bit name) (omega (arith, h.whole)) h.first;
      second = bit_at_with_bit_kept f q (second_bit name) (omega (arith, h.whole)) h.second;
    }

noted_has : (name : ℕ) (f : List ℕ) → length f ≡ filter_words → Has name (with_noted name f)
noted_has name f e =
    let g : length (with_bit (first_bit name) f) ≡ filter_words = with_bit_length (first_bit name) f ∙ e in
    record {
      whole = noted_length name f ∙ e;
      first = bit_at_with_bit_kept (with_bit (first_bit name) f) (second_bit name) (first_bit name) (omega arith) (bit_at_with_bit_same f (first_bit name) (omega arith));
      second = bit_at_with_bit_same (with_bit (first_bit name) f) (second_bit name) (omega arith);
    }

-- an earlier name is noted
names_noted_has : (f : ℕ → ℕ) (i j : ℕ) → j < i → Has (f j) (names_noted f i)
unfolding names_noted
names_noted_has f i j l =
    up_to_since (λ k. with_noted (f k)) (Has (f j)) i j l (replicate filter_words 0) (noted_has (f j) _ (names_noted_length f j)) (λ k u v m h. with_bit_has (f j) _ _ (with_bit_has (f j) _ m h))

-- so a name that is not noted is none of them
pub is_noted_new : (f : ℕ → ℕ) (i name : ℕ) → is_noted (names_noted f i) name ≡ false → any (λ j. eqb (f j) name) i ≡ false
is_noted_new f i name e = go (any (λ j. eqb (f j) name) i) refl
  where
    go : (t : Bool) → any (λ j. eqb (f j) name) i ≡ t → t ≡ false
    go false q = refl
    go true q =
        let s = any→ (λ j. eqb (f j) name) i q in
        let h = names_noted_has f i s.0 s.1 in
        let n = eqb-true (f s.0) name s.2 in
        absurd (true≢false (sym (ap₂ ◌&&◌ h.first h.second) ∙ ap (is_noted (names_noted f i)) n ∙ e))
