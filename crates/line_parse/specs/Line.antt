-- Document 01, "The text program", with CR 7 and CR 8: what a line says. The whole line is judged before any call is made.
use Rattle.std.specs.Prelude.{ℕ, ◌≤◌, ◌≡◌, cond, List, [], ◌∷◌, Option, Some, None, get_or, ltb}
use Rattle.std.proofs.lemmas.List.Edits.{sets}
use Rattle.terms.specs.declared.setting.Setting.{Setting}
use Rattle.terms.specs.Setting.{setting_of}
use Rattle.terms.specs.declared.answer.Reading.{Reading}
use Rattle.line_parse.specs.declared.command.Command.{Command}
use Rattle.line_parse.specs.declared.command.Command.TheVariants.{Open, Book, Poll, Read, List as ListAll}
use Rattle.line_keyword.specs.declared.Keyword.{Keyword}
use Rattle.line_keyword.specs.declared.Keyword.TheVariants.{
  Open as open_word,
  Book as book_word,
  Poll as poll_word,
  Read as read_word,
  List as list_word,
  Unknown,
}
use Rattle.line_words.specs.Words.{words}
use Rattle.line_number.specs.Numbers.{short_most, name_read, short_read, vote_read}
use Rattle.line_keyword.specs.Keywords.{keyword_of}
use Rattle.line_scan.specs.Lists.{parents_most, votes_most, leading, many_of}

-- ---- what is told from the words in turn

-- a word that is a number, and then the rest; `bad` where there is none
abbrev pub valued : {A : Type 0} → A → Option ℕ → (ℕ → A) → A
valued bad (Some v) rest = rest v
valued bad None rest = bad

abbrev pub with_number : {A : Type 0} → A → (List ℕ → Option ℕ) → List (List ℕ) → (ℕ → List (List ℕ) → A) → A
with_number bad reader [] rest = bad
with_number bad reader (w ∷ ws) rest = valued bad (reader w) (λ v. rest v ws)

-- no further word
abbrev pub nothing : {A : Type 0} → A → List (List ℕ) → A → A
nothing bad [] a = a
nothing bad (w ∷ ws) a = bad

-- ---- commands

-- a command, or none where the line is bad, with the numbers that stand at the start of the two buffers. A bad line may have read some before it turned out bad.
pub record Said : Type 0 where
  pub command : Option Command
  pub parents : List ℕ
  pub votes : List ℕ

abbrev pub bare : Option Command → Said
bare c = record { command = c; parents = []; votes = [] }

-- how many numbers `open` has: four, or the edition behind them
abbrev pub open_least : ℕ
open_least = 4

abbrev pub open_most : ℕ
open_most = 5

-- the edition where no fifth number tells it: the later one (CR 8)
abbrev pub edition_untold : ℕ
edition_untold = 1

-- k a β1 β2 and the edition, or what stands for it where it is left out
abbrev pub setting_or : ℕ → List ℕ → Setting
setting_or untold vs = setting_of (get_or vs 0 0) (get_or vs 1 0) (get_or vs 2 0) (get_or vs 3 0) (get_or vs 4 untold)

abbrev pub setting_typed : List ℕ → Setting
setting_typed = setting_or edition_untold

-- every number of a list is short
abbrev pub AllShort : List ℕ → Type 0
AllShort vs = (i : ℕ) → get_or vs i 0 ≤ short_most

-- four of them or five, no fewer and no more
abbrev pub open_with : Option ℕ → List ℕ → Option Command
open_with (Some n) vs = cond (ltb n open_least) None (Some (Open (setting_typed vs)))
open_with None vs = None

unfoldable pub open_says : List (List ℕ) → Option Command
open_says ws = open_with (many_of short_read open_most ws) (leading short_read open_most ws)

-- a name
unfoldable pub read_says : Reading → List (List ℕ) → Option Command
read_says reading ws = with_number None name_read ws (λ name ws. nothing None ws (Some (Read reading name)))

abbrev pub book_with : ℕ → ℕ → Option ℕ → Option Command
book_with name slot (Some n) = Some (Book name slot n)
book_with name slot None = None

abbrev pub book_words : ℕ → ℕ → List (List ℕ) → Said
book_words name slot ws =
    record { command = book_with name slot (many_of name_read parents_most ws); parents = leading name_read parents_most ws; votes = [] }

-- name slot parents
unfoldable pub book_says : List (List ℕ) → Said
book_says ws = with_number (bare None) name_read ws (λ name ws. with_number (bare None) short_read ws (λ slot ws. book_words name slot ws))

abbrev pub poll_with : ℕ → Option ℕ → Option Command
poll_with name (Some n) = Some (Poll name n)
poll_with name None = None

abbrev pub poll_words : ℕ → List (List ℕ) → Said
poll_words name ws =
    record { command = poll_with name (many_of vote_read votes_most ws); parents = []; votes = leading vote_read votes_most ws }

-- name votes
unfoldable pub poll_says : List (List ℕ) → Said
poll_says ws = with_number (bare None) name_read ws (λ name ws. poll_words name ws)

-- ---- the line

abbrev pub keyword_says : Keyword → List (List ℕ) → Said
keyword_says open_word ws = bare (open_says ws)
keyword_says book_word ws = book_says ws
keyword_says poll_word ws = poll_says ws
keyword_says (read_word reading) ws = bare (read_says reading ws)
keyword_says list_word ws = bare (nothing None ws (Some ListAll))
keyword_says Unknown ws = bare None

abbrev pub words_say : List (List ℕ) → Said
words_say [] = bare None
words_say (w ∷ ws) = keyword_says (keyword_of w) ws

unfoldable pub line_says : List ℕ → Said
line_says line = words_say (words line)

-- ---- what reading a line leaves: the command, and its numbers at the start of the buffers; the rest of each buffer stays

pub record BookRead (said : Said) (parents : List ℕ) (r : Option Command) (parents' : List ℕ) : Type 0 where
  pub answer : r ≡ said.command
  pub after : parents' ≡ sets parents 0 said.parents

pub record PollRead (said : Said) (votes : List ℕ) (r : Option Command) (votes' : List ℕ) : Type 0 where
  pub answer : r ≡ said.command
  pub after : votes' ≡ sets votes 0 said.votes

pub record Parsed (line parents votes : List ℕ) (r : Option Command) (parents' votes' : List ℕ) : Type 0 where
  pub answer : r ≡ (line_says line).command
  pub parents_after : parents' ≡ sets parents 0 (line_says line).parents
  pub votes_after : votes' ≡ sets votes 0 (line_says line).votes
