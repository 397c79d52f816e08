-- Each reading is found at the one booking with the name, and says of it what its law says.
use Rattle.std.specs.Prelude.{Ok}
use mathlib.Core.Path.{◌≡◌, refl, sym, ap, ◌∙◌}
use mathlib.Core.Bool.{Bool, true, false, true≢false}
use mathlib.Core.List.{List}
use Prim.Native.Nat.{ℕ, zero, suc, ◌+◌, ◌<◌}
use native.Mathlib.Numerals.{add-one}
use native.Mathlib.Nat.{add-zero}
use lib.IntN.{ℤ, pos}
use borrow.Author.Tests.{eq-eqb, eqb-true}
use Rattle.loops.specs.Total.{bit, total, count}
use Rattle.terms.specs.Answers.{Answer}
use Rattle.rules.specs.Layout.{bookings, name_of, confidence_of, mark_of}
use Rattle.rules.specs.Ancestry.{ancestry, is_member}
use Rattle.rules.specs.Readings.{query_of, accepted_of, lead_of, rivals_most, size_of}
use Rattle.rules.specs.Sound.{Ledger}
use Rattle.rules.specs.Calls.{reading_call}
use Rattle.rule_laws.proofs.Lookup.{found_is}
use Rattle.rule_laws.proofs.Tested.{reading_found}
use Rattle.rule_laws.proofs.Ancestry.{members→Reaches, Reaches→members}
use Rattle.rule_laws.proofs.Readings.{query_is, rivals_most_is}
use Rattle.promises.specs.Told.{Sized, nobody, counts, passes, Told, ReadingsTold}

module _ (w : List ℕ) (ledger : Ledger w) (i : ℕ) (below : i < bookings w) where
  told : (f : ℕ → ℤ) → reading_call f w (name_of w i) ≡ Ok (f i)
  told f = reading_found f w (name_of w i) ledger i (found_is w ledger.sound i below)

  one : (b : Bool) → b ≡ true → ◌≡◌ {A = Answer} (Ok (pos (bit b))) (Ok (pos 1))
  one b e = ap (λ (x : Bool). Ok (pos (bit x))) e

  other : (b : Bool) → (b ≡ true → ⊥) → ◌≡◌ {A = Answer} (Ok (pos (bit b))) (Ok (pos 0))
  other true n = absurd (n refl)
  other false n = refl

  sized : (n : ℕ) → Sized w i n (count (is_member (ancestry w i)) n)
  unfolding total
  sized zero = nobody
  sized (suc n) = go (is_member (ancestry w i) n) refl (sized n)
    where
      go : (b : Bool) → is_member (ancestry w i) n ≡ b → Sized w i n (count (is_member (ancestry w i)) n) → Sized w i (suc n) (count (is_member (ancestry w i)) n + bit b)
      go true e s = rw add-one (counts (members→Reaches w i n e) s)
      go false e s = rw add-zero (passes (λ r. true≢false (sym (Reaches→members w ledger.sound i below n r) ∙ e)) s)

  pub each_told : Told w i
  unfolding lead_of size_of
  each_told = record {
    query = record {
      yes = λ c. told (λ k. pos (bit (query_of w k))) ∙ one (query_of w i) ((query_is w ledger.sound i below).1 c);
      no = λ n. told (λ k. pos (bit (query_of w k))) ∙ other (query_of w i) (λ e. n ((query_is w ledger.sound i below).0 e));
    };
    accepted = record {
      yes = λ c. told (λ k. pos (bit (accepted_of w k))) ∙ one (accepted_of w i) (eq-eqb (mark_of w i) 1 c);
      no = λ n. told (λ k. pos (bit (accepted_of w k))) ∙ other (accepted_of w i) (λ e. n (eqb-true (mark_of w i) 1 e));
    };
    lead = (rivals_most w i, rivals_most_is w i, told (lead_of w));
    confidence = told (λ k. pos (confidence_of w k));
    size = (size_of w i, sized (bookings w), told (λ k. pos (size_of w k)));
  }

pub readings_told : ReadingsTold
unfolding ReadingsTold
readings_told w ledger i below = each_told w ledger i below
