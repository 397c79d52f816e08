-- A booking on a ledger by its cases, in the order of its refusals: each case is what the law's call gives.
use Rattle.std.specs.Prelude.{Err}
use mathlib.Core.Path.{◌≡◌}
use mathlib.Core.Bool.{true, false, ◌||◌}
use mathlib.Core.List.{List}
use Prim.Native.Nat.{ℕ, ◌<◌, ◌≤◌}
use lib.ListN.{length}
use lib.Dec.{eqb, leb, ltb}
use native.Mathlib.Omega.{arith}
use Rattle.terms.specs.declared.answer.Refusal.TheVariants.{NameTaken, BadSlot, BadParents}
use Rattle.rules.specs.Layout.{slots, most_parents}
use Rattle.terms.specs.Answers.{outcome}
use Rattle.rules.specs.Sound.{Ledger}
use Rattle.rules.specs.Book.{look_up, is_found}
use Rattle.rules.specs.Calls.{book_call}
use Rattle.rule_laws.proofs.Tested.{tested_known}
use Rattle.known_book_parents.specs.Parents.{parents_call}

module _ (w : List ℕ) (name slot : ℕ) (parents : List ℕ) (ledger : Ledger w) where
  pub book_name : is_found (look_up w name) ≡ true → outcome (Err NameTaken) w ≡ book_call w name slot parents
  unfolding book_call
  book_name f = rw (tested_known, f)

  module _ (absent : is_found (look_up w name) ≡ false) where
    pub book_slot : (eqb slot 0 || leb slots slot) ≡ true → outcome (Err BadSlot) w ≡ book_call w name slot parents
    unfolding book_call
    book_slot s = rw (tested_known, absent, s)

    module _ (fits : (eqb slot 0 || leb slots slot) ≡ false) where
      pub book_count : (eqb (length parents) 0 || ltb most_parents (length parents)) ≡ true → outcome (Err BadParents) w ≡ book_call w name slot parents
      unfolding book_call
      book_count p = rw (tested_known, absent, fits, p)

      pub book_rest : (eqb (length parents) 0 || ltb most_parents (length parents)) ≡ false → parents_call w name slot parents ≡ book_call w name slot parents
      unfolding book_call parents_call
      book_rest p = rw (tested_known, absent, fits, p)

-- ---- what the tests that fail leave

pub slot_lt : (slot : ℕ) → (eqb slot 0 || leb slots slot) ≡ false → slot < slots
slot_lt slot e = grind arith

pub count_most : (n : ℕ) → (eqb n 0 || ltb most_parents n) ≡ false → n ≤ most_parents
count_most n e = grind arith
