-- Each function asks nothing, and its contract says that it gives what the law gives: number, value, words and bytes. Assumes nothing.
use mathlib.Core.Path.{◌≡◌, refl, ap, subst}
use mathlib.Core.List.{List}
use Prim.Native.Nat.{ℕ}
use lib.IntN.{ℤ}
use Rattle.terms.specs.Answers.{Outcome, outcome, Handover, number, value, Answer}
use Rattle.promises.specs.Run.{outcome_of, lent_after}
use Rattle.station.specs.Returned.{Handed, HandedOver}
use Rattle.station.proofs.Telling.{left_of, handed_of}
use Rattle.code_promises.specs.Contract.{Unasked, Allowed}
use Rattle.code_promises.specs.OfCode.{Done, Function, NothingAsked, CodeLawful}
use Rattle.code_promises.proofs.Functions.{
  Name,
  by_open,
  by_book,
  by_poll,
  by_query,
  by_accepted,
  by_lead,
  by_confidence,
  by_size,
  by_write_file,
  by_read_file,
  by_build,
  by_enter,
  by_find,
  by_filz_open,
  by_filz_book,
  by_filz_poll,
  by_filz_query,
  by_filz_accepted,
  by_filz_lead,
  by_filz_confidence,
  by_filz_size,
  by_filz_write_first,
  by_filz_write_second,
  by_filz_read_first,
  by_filz_read_second,
  by_filz_index_build,
  by_filz_index_enter,
  by_filz_index_find,
  function,
}

abbrev Gives : Done → Type 0
Gives d = Handed (outcome_of d.call d.before) d.number d.value d.after × (d.lent ≡ lent_after d.call d.before)

record Lawful (f : Function) : Type 0 where
  asks : Unasked f.contract
  gives : (m : Allowed f.contract) → Gives (f.done m)

-- a handover has an outcome, and bytes besides
over : {o : Handover} {n : ℕ} {v : ℤ} {w b : List ℕ} → HandedOver o n v w b → Handed (outcome o.answer o.words) n v w × (b ≡ o.lent)
over h = (record { told = h.told; words = h.words }, h.lent)

-- ---- the ledger's functions, and the index's

answers : {a : Answer} {w : List ℕ} {o : Outcome} → outcome a w ≡ o → Handed o (number a) (value a) w
answers e = left_of e (record { numbered = refl; valued = refl })

-- a reading's words are only lent
reads : {a b : Answer} {w : List ℕ} → a ≡ b → Handed (outcome b w) (number a) (value a) w
reads {w = w} e = answers (ap (λ r. outcome r w) e)

open_lawful : Lawful (function by_open)
unfolding outcome_of lent_after
open_lawful = record { asks = λ at given. tt; gives = λ m. (answers m.learnt, refl) }

book_lawful : Lawful (function by_book)
unfolding outcome_of lent_after
book_lawful = record { asks = λ at given. tt; gives = λ m. (answers m.learnt, refl) }

poll_lawful : Lawful (function by_poll)
unfolding outcome_of lent_after
poll_lawful = record { asks = λ at given. tt; gives = λ m. (answers m.learnt, refl) }

query_lawful : Lawful (function by_query)
unfolding outcome_of lent_after
query_lawful = record { asks = λ at given. tt; gives = λ m. (reads m.learnt, refl) }

accepted_lawful : Lawful (function by_accepted)
unfolding outcome_of lent_after
accepted_lawful = record { asks = λ at given. tt; gives = λ m. (reads m.learnt, refl) }

lead_lawful : Lawful (function by_lead)
unfolding outcome_of lent_after
lead_lawful = record { asks = λ at given. tt; gives = λ m. (reads m.learnt, refl) }

confidence_lawful : Lawful (function by_confidence)
unfolding outcome_of lent_after
confidence_lawful = record { asks = λ at given. tt; gives = λ m. (reads m.learnt, refl) }

size_lawful : Lawful (function by_size)
unfolding outcome_of lent_after
size_lawful = record { asks = λ at given. tt; gives = λ m. (reads m.learnt, refl) }

write_file_lawful : Lawful (function by_write_file)
unfolding outcome_of lent_after
write_file_lawful = record { asks = λ at given. tt; gives = λ m. over (handed_of m.learnt (record { numbered = refl; valued = refl })) }

read_file_lawful : Lawful (function by_read_file)
unfolding outcome_of lent_after
read_file_lawful = record { asks = λ at given. tt; gives = λ m. (answers m.learnt, refl) }

build_lawful : Lawful (function by_build)
unfolding outcome_of lent_after
build_lawful = record { asks = λ at given. tt; gives = λ m. over (handed_of m.learnt (record { numbered = refl; valued = refl })) }

enter_lawful : Lawful (function by_enter)
unfolding outcome_of lent_after
enter_lawful = record { asks = λ at given. tt; gives = λ m. over (handed_of m.learnt (record { numbered = refl; valued = refl })) }

find_lawful : Lawful (function by_find)
unfolding outcome_of lent_after
find_lawful = record { asks = λ at given. tt; gives = λ m. (reads m.learnt, refl) }

-- ---- the C face's functions

filz_open_lawful : Lawful (function by_filz_open)
unfolding outcome_of lent_after
filz_open_lawful = record { asks = λ at given. tt; gives = λ m. (m.learnt, refl) }

filz_book_lawful : Lawful (function by_filz_book)
unfolding outcome_of lent_after
filz_book_lawful = record { asks = λ at given. tt; gives = λ m. (m.learnt, refl) }

filz_poll_lawful : Lawful (function by_filz_poll)
unfolding outcome_of lent_after
filz_poll_lawful = record { asks = λ at given. tt; gives = λ m. (m.learnt, refl) }

filz_query_lawful : Lawful (function by_filz_query)
unfolding outcome_of lent_after
filz_query_lawful = record { asks = λ at given. tt; gives = λ m. (record { told = m.learnt; words = refl }, refl) }

filz_accepted_lawful : Lawful (function by_filz_accepted)
unfolding outcome_of lent_after
filz_accepted_lawful = record { asks = λ at given. tt; gives = λ m. (record { told = m.learnt; words = refl }, refl) }

filz_lead_lawful : Lawful (function by_filz_lead)
unfolding outcome_of lent_after
filz_lead_lawful = record { asks = λ at given. tt; gives = λ m. (record { told = m.learnt; words = refl }, refl) }

filz_confidence_lawful : Lawful (function by_filz_confidence)
unfolding outcome_of lent_after
filz_confidence_lawful = record { asks = λ at given. tt; gives = λ m. (record { told = m.learnt; words = refl }, refl) }

filz_size_lawful : Lawful (function by_filz_size)
unfolding outcome_of lent_after
filz_size_lawful = record { asks = λ at given. tt; gives = λ m. (record { told = m.learnt; words = refl }, refl) }

filz_write_first_lawful : Lawful (function by_filz_write_first)
unfolding outcome_of lent_after
filz_write_first_lawful = record { asks = λ at given. tt; gives = λ m. over m.learnt }

filz_write_second_lawful : Lawful (function by_filz_write_second)
unfolding outcome_of lent_after
filz_write_second_lawful = record { asks = λ at given. tt; gives = λ m. over m.learnt }

filz_read_first_lawful : Lawful (function by_filz_read_first)
unfolding outcome_of lent_after
filz_read_first_lawful = record { asks = λ at given. tt; gives = λ m. (m.learnt, refl) }

filz_read_second_lawful : Lawful (function by_filz_read_second)
unfolding outcome_of lent_after
filz_read_second_lawful = record { asks = λ at given. tt; gives = λ m. (m.learnt, refl) }

filz_index_build_lawful : Lawful (function by_filz_index_build)
unfolding outcome_of lent_after
filz_index_build_lawful = record { asks = λ at given. tt; gives = λ m. over m.learnt }

filz_index_enter_lawful : Lawful (function by_filz_index_enter)
unfolding outcome_of lent_after
filz_index_enter_lawful = record { asks = λ at given. tt; gives = λ m. over m.learnt }

filz_index_find_lawful : Lawful (function by_filz_index_find)
unfolding outcome_of lent_after
filz_index_find_lawful = record { asks = λ at given. tt; gives = λ m. (record { told = m.learnt; words = refl }, refl) }

-- ---- all of them

lawful : (f : Name) → Lawful (function f)
lawful by_open = open_lawful
lawful by_book = book_lawful
lawful by_poll = poll_lawful
lawful by_query = query_lawful
lawful by_accepted = accepted_lawful
lawful by_lead = lead_lawful
lawful by_confidence = confidence_lawful
lawful by_size = size_lawful
lawful by_write_file = write_file_lawful
lawful by_read_file = read_file_lawful
lawful by_build = build_lawful
lawful by_enter = enter_lawful
lawful by_find = find_lawful
lawful by_filz_open = filz_open_lawful
lawful by_filz_book = filz_book_lawful
lawful by_filz_poll = filz_poll_lawful
lawful by_filz_query = filz_query_lawful
lawful by_filz_accepted = filz_accepted_lawful
lawful by_filz_lead = filz_lead_lawful
lawful by_filz_confidence = filz_confidence_lawful
lawful by_filz_size = filz_size_lawful
lawful by_filz_write_first = filz_write_first_lawful
lawful by_filz_write_second = filz_write_second_lawful
lawful by_filz_read_first = filz_read_first_lawful
lawful by_filz_read_second = filz_read_second_lawful
lawful by_filz_index_build = filz_index_build_lawful
lawful by_filz_index_enter = filz_index_enter_lawful
lawful by_filz_index_find = filz_index_find_lawful

pub nothing_asked : NothingAsked function
unfolding NothingAsked
nothing_asked f = (lawful f).asks

pub code_lawful : CodeLawful function
unfolding CodeLawful
code_lawful d m = subst Gives m.seen ((lawful m.by).gives m.allowed)
