-- A good line counts the numbers that it wrote: a caller may lend the start of the buffer, as long as the count says, and
-- lends exactly the parents, or the votes, that the line says.
use mathlib.Core.Path.{◌≡◌, refl, ap, ◌∙◌}
use mathlib.Core.Bool.{Bool, true, false, cond}
use mathlib.Core.List.{List, [], ◌∷◌}
use Prim.Native.Nat.{ℕ, ◌+◌, ◌≤◌}
use native.Mathlib.Omega.{arith}
use lib.ListN.{length, take, drop}
use lib.Seq.{sets, sets-eq, take_at}
use lib.Dec.{ltb}
use Rattle.std.proofs.Common.{Option, Some, None}
use Rattle.terms.specs.declared.setting.Setting.{Setting}
use Rattle.terms.specs.declared.answer.Reading.{Reading}
use Rattle.line_keyword.specs.declared.Keyword.{Keyword}
use Rattle.line_keyword.specs.declared.Keyword.TheVariants.{
  Open as open_word,
  Book as book_word,
  Poll as poll_word,
  Read as read_word,
  List as list_word,
  Unknown,
}
use Rattle.line_words.specs.Words.{words}
use Rattle.line_number.specs.Numbers.{name_read, short_read, vote_read}
use Rattle.line_keyword.specs.Keywords.{keyword_of}
use Rattle.line_scan.specs.Lists.{parents_most, votes_most, leading, many_of}
use Rattle.line_scan.proofs.Leading.{many_count, leading_length}
use Rattle.line_parse.specs.declared.command.Command.{Command}
use Rattle.line_parse.specs.declared.command.Command.TheVariants.{Open, Book, Poll, Read, List as ListAll}
use Rattle.line_parse.specs.Line.{nothing, Said, bare, open_least, open_most, setting_typed, open_with, open_says, read_says, book_with, book_says, poll_with, poll_says, keyword_says, words_say, line_says}
use Rattle.line_parse.proofs.Whole.{number_holds}

-- the count of a booking is that of its parents, within the limit; likewise a poll's votes
pub record CountsFit (s : Said) : Type 0 where
  pub books : (name slot n : ℕ) → s.command ≡ Some (Book name slot n) → (n ≡ length s.parents) × (n ≤ parents_most)
  pub polls : (name n : ℕ) → s.command ≡ Some (Poll name n) → (n ≡ length s.votes) × (n ≤ votes_most)

-- what follows where two different commands would be equal
clash : ◌≡◌ {A = ℕ} 0 1 → ⊥
clash z = omega arith

-- a command that is neither
pub data Listless : Option Command → Type 0 where
  opens : (s : Setting) → Listless (Some (Open s))
  reads : (r : Reading) (name : ℕ) → Listless (Some (Read r name))
  lists : Listless (Some ListAll)
  bad : Listless None

listless_counted : (c : Option Command) → Listless c → CountsFit (bare c)
listless_counted c (opens s) = record { books = λ name slot n e. absurd (clash (cc)); polls = λ name n e. absurd (clash (cc)) }
listless_counted c (reads r x) = record { books = λ name slot n e. absurd (clash (cc)); polls = λ name n e. absurd (clash (cc)) }
listless_counted c lists = record { books = λ name slot n e. absurd (clash (cc)); polls = λ name n e. absurd (clash (cc)) }
listless_counted c bad = record { books = λ name slot n e. absurd (clash (cc)); polls = λ name n e. absurd (clash (cc)) }

open_listless : (ws : List (List ℕ)) → Listless (open_says ws)
unfolding open_says
open_listless ws = go (many_of short_read open_most ws) (leading short_read open_most ws)
  where
    go : (m : Option ℕ) (vs : List ℕ) → Listless (open_with m vs)
    go (Some n) vs = pick (ltb n open_least)
      where
        pick : (t : Bool) → Listless (cond t None (Some (Open (setting_typed vs))))
        pick true = bad
        pick false = opens (setting_typed vs)
    go None vs = bad

nothing_listless : (ws : List (List ℕ)) (c : Option Command) → Listless c → Listless (nothing None ws c)
nothing_listless [] c l = l
nothing_listless (w ∷ ws) c l = bad

read_listless : (r : Reading) (ws : List (List ℕ)) → Listless (read_says r ws)
unfolding read_says
read_listless r = number_holds Listless None _ _ bad (λ name ws. nothing_listless ws (Some (Read r name)) (reads r name))

book_counted : (ws : List (List ℕ)) → CountsFit (book_says ws)
unfolding book_says
book_counted =
    number_holds CountsFit (bare None) _ _ (listless_counted None bad)
    (λ name. number_holds CountsFit (bare None) _ _ (listless_counted None bad) (λ slot ws. go name slot ws (many_of name_read parents_most ws) refl))
  where
    go : (x s : ℕ) (ws : List (List ℕ)) (m : Option ℕ) → many_of name_read parents_most ws ≡ m
        → CountsFit (record { command = book_with x s m; parents = leading name_read parents_most ws; votes = [] })
    go x s ws (Some k) q =
        record {
          books = λ name slot n e.
              let h : k ≡ n = cc in
              (omega (arith, many_count name_read parents_most ws k q), omega (arith, many_count name_read parents_most ws k q, leading_length name_read parents_most ws));
          polls = λ name n e. absurd (clash (cc));
        }
    go x s ws None q = record { books = λ name slot n e. absurd (clash (cc)); polls = λ name n e. absurd (clash (cc)) }

poll_counted : (ws : List (List ℕ)) → CountsFit (poll_says ws)
unfolding poll_says
poll_counted = number_holds CountsFit (bare None) _ _ (listless_counted None bad) (λ name ws. go name ws (many_of vote_read votes_most ws) refl)
  where
    go : (x : ℕ) (ws : List (List ℕ)) (m : Option ℕ) → many_of vote_read votes_most ws ≡ m
        → CountsFit (record { command = poll_with x m; parents = []; votes = leading vote_read votes_most ws })
    go x ws (Some k) q =
        record {
          books = λ name slot n e. absurd (clash (cc));
          polls = λ name n e.
              let h : k ≡ n = cc in
              (omega (arith, many_count vote_read votes_most ws k q), omega (arith, many_count vote_read votes_most ws k q, leading_length vote_read votes_most ws));
        }
    go x ws None q = record { books = λ name slot n e. absurd (clash (cc)); polls = λ name n e. absurd (clash (cc)) }

keyword_counted : (k : Keyword) (ws : List (List ℕ)) → CountsFit (keyword_says k ws)
keyword_counted open_word ws = listless_counted (open_says ws) (open_listless ws)
keyword_counted book_word ws = book_counted ws
keyword_counted poll_word ws = poll_counted ws
keyword_counted (read_word r) ws = listless_counted (read_says r ws) (read_listless r ws)
keyword_counted list_word ws = listless_counted (nothing None ws (Some ListAll)) (nothing_listless ws (Some ListAll) lists)
keyword_counted Unknown ws = listless_counted None bad

pub line_counted : (line : List ℕ) → CountsFit (line_says line)
unfolding line_says
line_counted line = go (words line)
  where
    go : (ws : List (List ℕ)) → CountsFit (words_say ws)
    go [] = listless_counted None bad
    go (w ∷ ws) = keyword_counted (keyword_of w) ws

-- the start of a buffer after a list was stored there
take_sets : (buffer vs : List ℕ) → length vs ≤ length buffer → take (length vs) (sets buffer 0 vs) ≡ vs
take_sets buffer vs h = ap (take (length vs)) (sets-eq vs buffer 0 (omega arith)) ∙ take_at vs (drop (0 + length vs) buffer) (length vs) refl

pub take_stored : (buffer vs : List ℕ) (n : ℕ) → length vs ≡ n → n ≤ length buffer → take n (sets buffer 0 vs) ≡ vs
take_stored buffer vs n e h = rw (← e) (take_sets buffer vs (omega arith))
