-- Laws of the step to the next word: there is none past the end, and any other is read where it stands.
use mathlib.Core.Path.{◌≡◌, refl, sym, ap, ap₂, ◌∙◌}
use mathlib.Core.List.{List, ◌∷◌}
use Prim.Native.Nat.{ℕ, ◌<◌, ◌≤◌}
use native.Mathlib.Omega.{arith}
use lib.ListN.{length}
use borrow.Author.Tests.{lt-ltb, le-ltb}
use Rattle.std.proofs.Common.{Option, Some, None}
use Rattle.std.proofs.lemmas.Option.{some_pair_parts}
use Rattle.line_words.specs.Words.{words_after}
use Rattle.line_scan.specs.Steps.{word_after, end_after, step_by, step_of}
use Rattle.line_scan.proofs.Split.{words_after_next, end_after_le}

module _ (reader : List ℕ → Option ℕ) (line : List ℕ) (at : ℕ) where
  pub step_none : length line ≤ at → step_of reader line at ≡ None
  unfolding step_of
  step_none h = rw (le-ltb at (length line) h)

  pub step_here : at < length line → step_of reader line at ≡ step_by (reader (word_after line at)) (end_after line at)
  unfolding step_of
  step_here h = rw (lt-ltb at (length line) h)

  -- where there is a word, a step ends it at e with its value, and none says that it is no number
  pub record Stepped (v e : ℕ) : Type 0 where
    pub word : words_after line at ≡ word_after line at ∷ words_after line e
    pub value : reader (word_after line at) ≡ Some v
    pub within : e ≤ length line
    pub further : at < e

  pub step_next : (v e : ℕ) → at < length line → step_of reader line at ≡ Some (v, e) → Stepped v e
  step_next v e h q = go (reader (word_after line at)) refl (sym (step_here h) ∙ q)
    where
      go : (n : Option ℕ) → reader (word_after line at) ≡ n → step_by n (end_after line at) ≡ Some (v, e) → Stepped v e
      go (Some u) r s =
          let both = some_pair_parts u v (end_after line at) e s in
          record {
            word = words_after_next line at h ∙ ap (λ i. word_after line at ∷ words_after line i) both.1;
            value = r ∙ ap Some both.0;
            within = omega (arith, end_after_le line at h, both.1);
            further = omega (arith, both.1);
          }
      go None r s = absurd (let z : ◌≡◌ {A = ℕ} 0 1 = cc in omega arith)

  pub step_stop : at < length line → step_of reader line at ≡ None → reader (word_after line at) ≡ None
  step_stop h q = go (reader (word_after line at)) refl (sym (step_here h) ∙ q)
    where
      go : (n : Option ℕ) → reader (word_after line at) ≡ n → step_by n (end_after line at) ≡ None → reader (word_after line at) ≡ None
      go (Some u) r s = absurd (let z : ◌≡◌ {A = ℕ} 0 1 = cc in omega arith)
      go None r s = r

  -- a step as the code makes it: the word is read, and then where it ends is told
  pub step_made : (word : List ℕ) (end : ℕ) (n : Option ℕ) → at < length line → word ≡ word_after line at → end ≡ end_after line at
      → n ≡ reader word → step_by n end ≡ step_of reader line at
  step_made word end n h w e r = ap₂ step_by (r ∙ ap reader w) e ∙ sym (step_here h)
