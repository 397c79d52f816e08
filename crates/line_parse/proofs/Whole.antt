-- Laws of the whole line: its keyword and the words after it say what it says, and a command that takes no list leaves the buffers.
use mathlib.Core.Path.{◌≡◌, refl, sym, ap, ◌∙◌}
use mathlib.Core.List.{List, [], ◌∷◌}
use Prim.Native.Nat.{ℕ}
use lib.ListN.{take}
use lib.Seq.{sets}
use Rattle.std.proofs.Common.{Option, Some, None}
use Rattle.line_parse.specs.declared.command.Command.{Command}
use Rattle.line_keyword.specs.declared.Keyword.{Keyword}
use Rattle.line_words.specs.Words.{word_end, words_after}
use Rattle.line_keyword.specs.Keywords.{keyword_of}
use Rattle.line_parse.specs.Line.{valued, with_number, bare, book_says, poll_says, keyword_says, words_say, line_says, BookRead, PollRead, Parsed}
use Rattle.line_scan.proofs.Split.{words_first}

pub line_says_lem : (line : List ℕ) (end : ℕ) (k : Keyword) → end ≡ word_end line → k ≡ keyword_of (take end line) → line_says line ≡ keyword_says k (words_after line end)
unfolding line_says
line_says_lem line end k e q =
    ap words_say (words_first line) ∙ ap (λ n. keyword_says (keyword_of (take n line)) (words_after line n)) (sym e)
    ∙ ap (λ x. keyword_says x (words_after line end)) (sym q)

-- ---- a booking says nothing of votes, a poll nothing of parents

-- what holds of a bad line and of every rest holds of a number and its rest
pub number_holds : {A : Type 0} (P : A → Type 0) (none : A) (reader : List ℕ → Option ℕ) (rest : ℕ → List (List ℕ) → A) → P none
    → ((v : ℕ) (ws : List (List ℕ)) → P (rest v ws)) → (ws : List (List ℕ)) → P (with_number none reader ws rest)
number_holds P none reader rest h each [] = h
number_holds P none reader rest h each (w ∷ ws) = go (reader w)
  where
    go : (n : Option ℕ) → P (valued none n (λ v. rest v ws))
    go (Some v) = each v ws
    go None = h

book_votes : (ws : List (List ℕ)) → (book_says ws).votes ≡ []
unfolding book_says
book_votes = number_holds (λ s. s.votes ≡ []) (bare None) _ _ refl (λ name. number_holds (λ s. s.votes ≡ []) (bare None) _ _ refl (λ slot ws. refl))

poll_parents : (ws : List (List ℕ)) → (poll_says ws).parents ≡ []
unfolding poll_says
poll_parents = number_holds (λ s. s.parents ≡ []) (bare None) _ _ refl (λ name ws. refl)

-- ---- what the buffers then hold

module _ {line : List ℕ} (parents votes : List ℕ) {r : Option Command} where
  pub parsed_alone : (c : Option Command) → line_says line ≡ bare c → r ≡ c → Parsed line parents votes r parents votes
  parsed_alone c e q =
      record {
        answer = q ∙ sym (ap (λ s. s.command) e);
        parents_after = sym (ap (λ s. sets parents 0 s.parents) e);
        votes_after = sym (ap (λ s. sets votes 0 s.votes) e);
      }

  pub parsed_booked : {parents' : List ℕ} (ws : List (List ℕ)) → line_says line ≡ book_says ws → BookRead (book_says ws) parents r parents' → Parsed line parents votes r parents' votes
  parsed_booked ws e b =
      record {
        answer = b.answer ∙ sym (ap (λ s. s.command) e);
        parents_after = b.after ∙ sym (ap (λ s. sets parents 0 s.parents) e);
        votes_after = sym (ap (λ s. sets votes 0 s.votes) e ∙ ap (sets votes 0) (book_votes ws));
      }

  pub parsed_polled : {votes' : List ℕ} (ws : List (List ℕ)) → line_says line ≡ poll_says ws → PollRead (poll_says ws) votes r votes' → Parsed line parents votes r parents votes'
  parsed_polled ws e p =
      record {
        answer = p.answer ∙ sym (ap (λ s. s.command) e);
        parents_after = sym (ap (λ s. sets parents 0 s.parents) e ∙ ap (sets parents 0) (poll_parents ws));
        votes_after = p.after ∙ sym (ap (λ s. sets votes 0 s.votes) e);
      }
