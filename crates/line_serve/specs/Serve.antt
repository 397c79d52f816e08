-- Document 01, "The text program": what one line does to the words, and what it prints.
use Rattle.std.specs.Prelude.{ℕ, ◌+◌, ◌≤◌, ◌≡◌, Bool, true, false, List, Option, Some, None, length, replicate}
use Rattle.terms.specs.Answers.{Outcome, Answer}
use Rattle.terms.specs.Setting.{is_good}
use Rattle.rules.specs.Layout.{size}
use Rattle.rules.specs.Sound.{Ledger}
use Rattle.rules.specs.Calls.{open_call, book_call, poll_call, read_call}
use Rattle.rules.specs.Listing.{list_call}
use Rattle.put.specs.Put.{Put}
use Rattle.text_print.specs.Print.{bad_line, reading_prints, call_prints}
use Rattle.line_parse.specs.declared.command.Command.{Command}
use Rattle.line_parse.specs.declared.command.Command.TheVariants.{Open, Book, Poll, Read, List as ListAll}
use Rattle.line_parse.specs.Line.{Said, line_says}
use Rattle.text_listing.specs.Listed.{list_shows, line_most}
use Rattle.line_serve.specs.declared.Served.{Served}

-- the words that a line leaves, and the bytes that it prints
pub record Effect : Type 0 where
  pub words : List ℕ
  pub prints : List ℕ

-- a refusal prints its number, other taken calls print nothing
abbrev pub called : Outcome → Effect
called o = record { words = o.words; prints = call_prints o.answer }

-- a reading prints its value
abbrev pub asked : List ℕ → Answer → Effect
asked w a = record { words = w; prints = reading_prints a }

abbrev pub listed : List ℕ → Effect
listed w = record { words = w; prints = list_shows (list_call w) w }

-- anything else
abbrev pub bad : List ℕ → Effect
bad w = record { words = w; prints = bad_line }

abbrev pub command_does : Option Command → (parents votes w : List ℕ) → Effect
command_does (Some (Open s)) parents votes w = called (open_call w s)
command_does (Some (Book name slot count)) parents votes w = called (book_call w name slot parents)
command_does (Some (Poll name count)) parents votes w = called (poll_call w name votes)
command_does (Some (Read what name)) parents votes w = asked w (read_call what w name)
command_does (Some ListAll) parents votes w = listed w
command_does None parents votes w = bad w

abbrev pub said_does : Said → List ℕ → Effect
said_does said w = command_does said.command said.parents said.votes w

unfoldable pub served : List ℕ → List ℕ → Effect
served w line = said_does (line_says line) w

-- ---- the contract of every function that serves

-- what the program keeps: a ledger once one was opened, and until then words that are all zero
abbrev pub Keeps : (opened : Bool) → List ℕ → Type 0
Keeps true w = Ledger w
Keeps false w = w ≡ replicate size 0

-- the line is an opening that is taken on words of the right length
abbrev pub command_opens : Option Command → Bool
command_opens (Some (Open s)) = is_good s
command_opens (Some (Book name slot count)) = false
command_opens (Some (Poll name count)) = false
command_opens (Some (Read what name)) = false
command_opens (Some ListAll) = false
command_opens None = false

abbrev pub opens : List ℕ → Bool
opens line = command_opens (line_says line).command

-- which of them the words are is known, and there is room for the longest that a line prints
pub record Ready (w : List ℕ) (known : Bool) (out : List ℕ) (at : ℕ) : Type 0 where
  pub whole : length w ≡ size
  pub told : Keeps known w
  pub room : at + line_most ≤ length out

-- the words and the bytes are those of the effect, and which of them the words are is known again
pub record Serves (e : Effect) (out : List ℕ) (at : ℕ) (r : Served) (w' out' : List ℕ) : Type 0 where
  pub left : w' ≡ e.words
  pub put : Put out at e.prints r.at out'
  pub within : r.at ≤ at + line_most
  pub told : Keeps r.known w'
