-- The first place where the byte stands, and the end where there is none.
use Rattle.std.proofs.Common.{rules, tests, ◌≡◌, ℕ, length, List, ltb, cond, Some, None, Bool, true, false, not, refl, ◌∙◌, eqb, arith}
use borrow.Author.Tests.{ltb-false}
use Rattle.std.specs.List.{position, position_or_len}
use Rattle.std.specs.Option.{unwrap_or}
use Rattle.std.proofs.lemmas.Iterator.{YieldsList-from_slice}
use Rattle.std.proofs.lemmas.Iterator.Search.{position_from_yields_List}
use Rattle.std.proofs.lemmas.List.Sums.{prefix_len-le-length}
use Rattle.line_words.proofs.find_byte.Goals as goal

place_or_end : (p : ℕ → Bool) (xs : List ℕ) → unwrap_or (position p xs) (length xs) ≡ position_or_len p xs
place_or_end p xs = go (ltb (position_or_len p xs) (length xs)) refl
  where
    go : (b : Bool) → ltb (position_or_len p xs) (length xs) ≡ b → unwrap_or (cond b (Some (position_or_len p xs)) None) (length xs) ≡ position_or_len p xs
    go true e = refl
    go false e = omega (arith, ltb-false (position_or_len p xs) (length xs) e, prefix_len-le-length (λ x. not (p x)) xs)

pub returns : goal.returns
returns c =
    let xs = c.args.text.now in
    let is_it : ℕ → Bool = λ b. eqb b c.args.byte in
    let found : c.position.result ≡ position is_it xs =
    position_from_yields_List is_it _ _ _ c.position.ensures.ran (YieldsList-from_slice xs cc) (λ x b q k. search (rules, tests))
    in
    let e : c.unwrap_or.result ≡ position_or_len is_it xs = rw found at c.unwrap_or.ensures ∙ place_or_end is_it xs in
    (e, omega (arith, e, prefix_len-le-length (λ x. not (is_it x)) xs))
