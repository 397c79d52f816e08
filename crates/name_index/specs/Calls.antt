-- CR 6: the calls on an index and the words that it stands beside. None of them changes a word, and looking up changes no cell.
use Rattle.std.specs.Prelude.{ℕ, Bool, not, cond, List, pos, length, eqb, Err, Ok}
use Rattle.terms.specs.declared.answer.Refusal.TheVariants.{WrongIndex, IndexFull}
use Rattle.terms.specs.Answers.{Handover, hands_over, done, Answer, Tested}
use Rattle.rules.specs.Calls.{damage_of, beside_by, unless_stopped, asked_of}
use Rattle.name_index.specs.Index.{cells, look_up_in, is_full, newest, with_number, built}

-- 18: the index isn't 1,024 words long
abbrev pub is_wrong_index : List ℕ → Bool
is_wrong_index index = not (eqb (length index) cells)

-- 2, 14 and 15 are `damage_of`; that it is a parameter lets the cases be computed with a faster one of the same results
module _ (damage : List ℕ → Tested) where
  -- what each begins with: 1, 18, 2, 14, 15
  abbrev pub index_tested : (w index : List ℕ) → Answer → Answer
  index_tested w index rest = unless_stopped (beside_by damage (is_wrong_index index) WrongIndex w) rest

  -- ---- build: no more refusals. What the index held makes no difference

  abbrev pub build_by : (w index : List ℕ) → Handover
  build_by w index = hands_over (index_tested w index done) w index (built w)

  -- ---- enter the newest booking: then 27, no cell holds 65535

  abbrev pub enter_answer : (w index : List ℕ) → Answer
  enter_answer w index =
      index_tested w index
      (cond (is_full index) (Err IndexFull)
      done)

  abbrev pub enter_by : (w index : List ℕ) → Handover
  enter_by w index = hands_over (enter_answer w index) w index (with_number w (newest w) index)

  -- ---- look up: then 10, nothing found. The value is the booking's number

  abbrev pub find_by : (w index : List ℕ) → ℕ → Answer
  find_by w index name = index_tested w index (asked_of (look_up_in w index name) (λ i. Ok (pos i)))

-- ---- the calls

unfoldable pub index_build_call : (w index : List ℕ) → Handover
index_build_call = build_by damage_of

unfoldable pub index_enter_call : (w index : List ℕ) → Handover
index_enter_call = enter_by damage_of

unfoldable pub index_find_call : (w index : List ℕ) → ℕ → Answer
index_find_call = find_by damage_of
