-- Laws of what is told from the words in turn: a step takes one number from the words, and a stop makes the line bad.
use mathlib.Core.Path.{◌≡◌, sym, ap, ◌∙◌}
use mathlib.Core.List.{List}
use Prim.Native.Nat.{ℕ, ◌<◌, ◌≤◌}
use native.Mathlib.Decide.{dec_lt}
use native.Mathlib.Omega.{arith}
use lib.ListN.{length}
use lib.Seq.{sets}
use Rattle.std.proofs.Common.{Option, Some, None}
use Rattle.line_words.specs.Words.{words_after}
use Rattle.line_scan.specs.Steps.{step_of}
use Rattle.line_number.specs.Numbers.{name_read, vote_read}
use Rattle.line_scan.specs.Lists.{parents_most, votes_most, Listed}
use Rattle.line_parse.specs.Line.{
  with_number,
  nothing,
  Said,
  bare,
  book_with,
  book_words,
  poll_with,
  poll_words,
  BookRead,
  PollRead,
}
use Rattle.line_scan.proofs.Split.{words_after_next, words_after_end}
use Rattle.line_scan.proofs.Walk.{Stepped, step_none, step_next, step_stop}

module _ (reader : List ℕ → Option ℕ) (line : List ℕ) (at : ℕ) where
  -- a step is made only where there is a word
  pub stepped : (v e : ℕ) → step_of reader line at ≡ Some (v, e) → Stepped reader line at v e
  stepped v e q = go (dec_lt at (length line))
    where
      go : Dec (at < length line) → Stepped reader line at v e
      go (yes h) = step_next reader line at v e h q
      go (no h) =
          let none = step_none reader line at (omega arith) in
          absurd (let z : ◌≡◌ {A = ℕ} 0 1 = cc in omega arith)

  pub number_next : {A : Type 0} (bad : A) (rest : ℕ → List (List ℕ) → A) (v e : ℕ) → step_of reader line at ≡ Some (v, e)
      → with_number bad reader (words_after line at) rest ≡ rest v (words_after line e)
  number_next bad rest v e q = let s = stepped v e q in rw (s.word, s.value)

  pub number_stop : {A : Type 0} (bad : A) (rest : ℕ → List (List ℕ) → A) → step_of reader line at ≡ None
      → with_number bad reader (words_after line at) rest ≡ bad
  number_stop {A} bad rest q = go (dec_lt at (length line))
    where
      go : Dec (at < length line) → with_number bad reader (words_after line at) rest ≡ bad
      go (yes h) = rw (words_after_next line at h, step_stop reader line at h q)
      go (no h) = rw (words_after_end line at (omega arith))

module _ (line : List ℕ) (at : ℕ) {A : Type 0} (bad a : A) where
  pub nothing_end : length line ≤ at → nothing bad (words_after line at) a ≡ a
  nothing_end h = rw (words_after_end line at h)

  pub nothing_more : at < length line → nothing bad (words_after line at) a ≡ bad
  nothing_more h = rw (words_after_next line at h)

-- ---- what the buffers then hold

-- a bad line that read no list leaves its buffer
pub booked_bad : {said : Said} (parents : List ℕ) → said ≡ bare None → BookRead said parents None parents
booked_bad parents e = record { answer = sym (ap (λ s. s.command) e); after = sym (ap (λ s. sets parents 0 s.parents) e) }

pub polled_bad : {said : Said} (votes : List ℕ) → said ≡ bare None → PollRead said votes None votes
polled_bad votes e = record { answer = sym (ap (λ s. s.command) e); after = sym (ap (λ s. sets votes 0 s.votes) e) }

-- a list that was read is the command's, whether or not it made a good line
pub booked_listed : {said : Said} {parents parents' : List ℕ} {many : Option ℕ} (name slot : ℕ) (ws : List (List ℕ)) (m : Option ℕ)
    → said ≡ book_words name slot ws → Listed name_read parents_most ws parents many parents' → many ≡ m → BookRead said parents (book_with name slot m) parents'
booked_listed {said} {parents} name slot ws m e l q =
    record {
      answer = ap (book_with name slot) (sym q ∙ l.many) ∙ sym (ap (λ s. s.command) e);
      after = l.after ∙ sym (ap (λ s. sets parents 0 s.parents) e);
    }

pub polled_listed : {said : Said} {votes votes' : List ℕ} {many : Option ℕ} (name : ℕ) (ws : List (List ℕ)) (m : Option ℕ)
    → said ≡ poll_words name ws → Listed vote_read votes_most ws votes many votes' → many ≡ m → PollRead said votes (poll_with name m) votes'
polled_listed {said} {votes} name ws m e l q =
    record {
      answer = ap (poll_with name) (sym q ∙ l.many) ∙ sym (ap (λ s. s.command) e);
      after = l.after ∙ sym (ap (λ s. sets votes 0 s.votes) e);
    }
