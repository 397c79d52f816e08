-- The public functions: the ledger's eleven, the index's three, and the C face's seventeen. Each by its own contract, which src/lib.rt passes on, and by what its
-- parameters mean. The three that move a file have no workspace and stand at the end, by themselves.
use Prim.Native.Nat.{ℕ}
use mathlib.Core.List.{List, []}
use lib.IntN.{ℤ}
use borrow.Fn.Kinds.{In, Out}
use Rattle.terms.specs.declared.answer.Reading.TheVariants.{Query, Accepted, Lead, Confidence, Size}
use Rattle.terms.specs.declared.form.Form.{Form}
use Rattle.terms.specs.declared.form.Form.TheVariants.{First, Second}
use Rattle.terms.specs.Answers.{number, value, Answer}
use Rattle.promises.specs.Run.{Call, Open, Book, Poll, Ask, WriteFile, ReadFile, IndexBuild, IndexEnter, IndexFind}
use Rattle.terms.specs.Setting.{setting_of}
use Rattle.code_promises.specs.Contract.{contract_of, left}
use Rattle.code_promises.specs.OfCode.{Done, Function}
use Rattle.code_promises.specs.OfMoves.{Mover}
use Rattle.code_promises.proofs as code

pub data Name : Type 0 where
  by_open : Name
  by_book : Name
  by_poll : Name
  by_query : Name
  by_accepted : Name
  by_lead : Name
  by_confidence : Name
  by_size : Name
  by_write_file : Name
  by_read_file : Name
  by_build : Name
  by_enter : Name
  by_find : Name
  by_filz_open : Name
  by_filz_book : Name
  by_filz_poll : Name
  by_filz_query : Name
  by_filz_accepted : Name
  by_filz_lead : Name
  by_filz_confidence : Name
  by_filz_size : Name
  by_filz_write_first : Name
  by_filz_write_second : Name
  by_filz_read_first : Name
  by_filz_read_second : Name
  by_filz_index_build : Name
  by_filz_index_enter : Name
  by_filz_index_find : Name

-- a call that was lent a buffer besides the words, and left these bytes or cells in it
abbrev leaving : Done → (lent : List ℕ) → Done
leaving d lent = record { call = d.call; before = d.before; number = d.number; value = d.value; after = d.after; lent = lent }

-- ---- the ledger's functions and the index's return an answer

abbrev answered : Call → (before : List ℕ) → Answer → (after : List ℕ) → Done
answered c before r after = record { call = c; before = before; number = number r; value = value r; after = after; lent = [] }

-- a reading takes the words and a name
abbrev reading : In 1 code.query.Kinds.ps → Out 1 code.query.Kinds.ps code.query.Kinds.r → (ℕ → Call) → Function
reading Asked Learnt call = record {
  contract = contract_of 1 code.query.Kinds.ps code.query.Kinds.r Asked Learnt;
  done = λ m. answered (call m.given.1.0) m.given.0.now m.returned (left m).0.now;
}

-- a call about an index that changes it takes the words and the cells
abbrev indexing : In 2 code.build.Kinds.ps → Out 2 code.build.Kinds.ps code.build.Kinds.r → (List ℕ → Call) → Function
indexing Asked Learnt call = record {
  contract = contract_of 2 code.build.Kinds.ps code.build.Kinds.r Asked Learnt;
  done = λ m. leaving
      (answered (call m.given.1.0.now) m.given.0.now m.returned (left m).0.now)
      (left m).1.0.now;
}

-- ---- the C face's return a number, and write the value through their last pointer

abbrev told : Call → (before : List ℕ) → ℕ → ℤ → (after : List ℕ) → Done
told c before n v after = record { call = c; before = before; number = n; value = v; after = after; lent = [] }

abbrev filz_reading : In 2 code.filz_query.Kinds.ps → Out 2 code.filz_query.Kinds.ps code.filz_query.Kinds.r → (ℕ → Call) → Function
filz_reading Asked Learnt call = record {
  contract = contract_of 2 code.filz_query.Kinds.ps code.filz_query.Kinds.r Asked Learnt;
  done = λ m. told (call m.given.1.0) m.given.0.now m.returned (left m).1.1.0.now (left m).0.now;
}

abbrev filz_indexing : In 3 code.filz_index_build.Kinds.ps → Out 3 code.filz_index_build.Kinds.ps code.filz_index_build.Kinds.r → (List ℕ → Call) → Function
filz_indexing Asked Learnt call = record {
  contract = contract_of 3 code.filz_index_build.Kinds.ps code.filz_index_build.Kinds.r Asked Learnt;
  done = λ m. leaving
      (told (call m.given.1.0.now) m.given.0.now m.returned (left m).1.1.0.now (left m).0.now)
      (left m).1.0.now;
}

-- a file is written to the bytes that are lent, or read from them, in the form that the function's name says
abbrev filz_writing : In 3 code.filz_write_first.Kinds.ps → Out 3 code.filz_write_first.Kinds.ps code.filz_write_first.Kinds.r → Form → Function
filz_writing Asked Learnt form = record {
  contract = contract_of 3 code.filz_write_first.Kinds.ps code.filz_write_first.Kinds.r Asked Learnt;
  done = λ m. leaving
      (told (WriteFile form m.given.1.0.now) m.given.0.now m.returned (left m).1.1.0.now (left m).0.now)
      (left m).1.0.now;
}

abbrev filz_taking : In 3 code.filz_read_first.Kinds.ps → Out 3 code.filz_read_first.Kinds.ps code.filz_read_first.Kinds.r → Form → Function
filz_taking Asked Learnt form = record {
  contract = contract_of 3 code.filz_read_first.Kinds.ps code.filz_read_first.Kinds.r Asked Learnt;
  done = λ m. told (ReadFile form m.given.1.0.now) m.given.0.now m.returned (left m).1.1.0.now (left m).0.now;
}

-- ---- all of them

abbrev pub function : Name → Function
function by_open = record {
  contract = contract_of 1 code.open.Kinds.ps code.open.Kinds.r code.open.Reads.Asked code.open.Reads.Learnt;
  done = λ m. answered (Open m.given.1.0) m.given.0.now m.returned (left m).0.now;
}
function by_book = record {
  contract = contract_of 2 code.book.Kinds.ps code.book.Kinds.r code.book.Reads.Asked code.book.Reads.Learnt;
  done = λ m. answered (Book m.given.1.0 m.given.1.1.0 m.given.1.1.1.0.now) m.given.0.now m.returned (left m).0.now;
}
function by_poll = record {
  contract = contract_of 2 code.poll.Kinds.ps code.poll.Kinds.r code.poll.Reads.Asked code.poll.Reads.Learnt;
  done = λ m. answered (Poll m.given.1.0 m.given.1.1.0.now) m.given.0.now m.returned (left m).0.now;
}
function by_query = reading code.query.Reads.Asked code.query.Reads.Learnt (Ask Query)
function by_accepted = reading code.accepted.Reads.Asked code.accepted.Reads.Learnt (Ask Accepted)
function by_lead = reading code.lead.Reads.Asked code.lead.Reads.Learnt (Ask Lead)
function by_confidence = reading code.confidence.Reads.Asked code.confidence.Reads.Learnt (Ask Confidence)
function by_size = reading code.size.Reads.Asked code.size.Reads.Learnt (Ask Size)
function by_write_file = record {
  contract = contract_of 2 code.write_file.Kinds.ps code.write_file.Kinds.r code.write_file.Reads.Asked code.write_file.Reads.Learnt;
  done = λ m. leaving
      (answered (WriteFile m.given.1.0 m.given.1.1.0.now) m.given.0.now m.returned (left m).0.now)
      (left m).1.1.0.now;
}
function by_read_file = record {
  contract = contract_of 2 code.read_file.Kinds.ps code.read_file.Kinds.r code.read_file.Reads.Asked code.read_file.Reads.Learnt;
  done = λ m. answered (ReadFile m.given.1.0 m.given.1.1.0.now) m.given.0.now m.returned (left m).0.now;
}
function by_build = indexing code.build.Reads.Asked code.build.Reads.Learnt IndexBuild
function by_enter = indexing code.enter.Reads.Asked code.enter.Reads.Learnt IndexEnter
function by_find = record {
  contract = contract_of 2 code.find.Kinds.ps code.find.Kinds.r code.find.Reads.Asked code.find.Reads.Learnt;
  done = λ m. answered (IndexFind m.given.1.0.now m.given.1.1.0) m.given.0.now m.returned (left m).0.now;
}
function by_filz_open = record {
  contract = contract_of 2 code.filz_open.Kinds.ps code.filz_open.Kinds.r code.filz_open.Reads.Asked code.filz_open.Reads.Learnt;
  done = λ m. told
      (Open (setting_of m.given.1.0 m.given.1.1.0 m.given.1.1.1.0 m.given.1.1.1.1.0 m.given.1.1.1.1.1.0))
      m.given.0.now m.returned (left m).1.1.1.1.1.1.0.now (left m).0.now;
}
function by_filz_book = record {
  contract = contract_of 3 code.filz_book.Kinds.ps code.filz_book.Kinds.r code.filz_book.Reads.Asked code.filz_book.Reads.Learnt;
  done = λ m. told
      (Book m.given.1.0 m.given.1.1.0 m.given.1.1.1.0.now)
      m.given.0.now m.returned (left m).1.1.1.1.0.now (left m).0.now;
}
function by_filz_poll = record {
  contract = contract_of 3 code.filz_poll.Kinds.ps code.filz_poll.Kinds.r code.filz_poll.Reads.Asked code.filz_poll.Reads.Learnt;
  done = λ m. told
      (Poll m.given.1.0 m.given.1.1.0.now)
      m.given.0.now m.returned (left m).1.1.1.0.now (left m).0.now;
}
function by_filz_query = filz_reading code.filz_query.Reads.Asked code.filz_query.Reads.Learnt (Ask Query)
function by_filz_accepted = filz_reading code.filz_accepted.Reads.Asked code.filz_accepted.Reads.Learnt (Ask Accepted)
function by_filz_lead = filz_reading code.filz_lead.Reads.Asked code.filz_lead.Reads.Learnt (Ask Lead)
function by_filz_confidence = filz_reading code.filz_confidence.Reads.Asked code.filz_confidence.Reads.Learnt (Ask Confidence)
function by_filz_size = filz_reading code.filz_size.Reads.Asked code.filz_size.Reads.Learnt (Ask Size)
function by_filz_write_first = filz_writing code.filz_write_first.Reads.Asked code.filz_write_first.Reads.Learnt First
function by_filz_write_second = filz_writing code.filz_write_second.Reads.Asked code.filz_write_second.Reads.Learnt Second
function by_filz_read_first = filz_taking code.filz_read_first.Reads.Asked code.filz_read_first.Reads.Learnt First
function by_filz_read_second = filz_taking code.filz_read_second.Reads.Asked code.filz_read_second.Reads.Learnt Second
function by_filz_index_build = filz_indexing code.filz_index_build.Reads.Asked code.filz_index_build.Reads.Learnt IndexBuild
function by_filz_index_enter = filz_indexing code.filz_index_enter.Reads.Asked code.filz_index_enter.Reads.Learnt IndexEnter
function by_filz_index_find = record {
  contract = contract_of 3 code.filz_index_find.Kinds.ps code.filz_index_find.Kinds.r code.filz_index_find.Reads.Asked code.filz_index_find.Reads.Learnt;
  done = λ m. told
      (IndexFind m.given.1.0.now m.given.1.1.0)
      m.given.0.now m.returned (left m).1.1.1.0.now (left m).0.now;
}

-- ---- the function that each face has for a call

abbrev pub of_ledger : Call → Name
of_ledger (Open s) = by_open
of_ledger (Book name slot parents) = by_book
of_ledger (Poll name votes) = by_poll
of_ledger (Ask Query name) = by_query
of_ledger (Ask Accepted name) = by_accepted
of_ledger (Ask Lead name) = by_lead
of_ledger (Ask Confidence name) = by_confidence
of_ledger (Ask Size name) = by_size
of_ledger (WriteFile form buffer) = by_write_file
of_ledger (ReadFile form file) = by_read_file
of_ledger (IndexBuild index) = by_build
of_ledger (IndexEnter index) = by_enter
of_ledger (IndexFind index name) = by_find

abbrev pub of_station : Call → Name
of_station (Open s) = by_filz_open
of_station (Book name slot parents) = by_filz_book
of_station (Poll name votes) = by_filz_poll
of_station (Ask Query name) = by_filz_query
of_station (Ask Accepted name) = by_filz_accepted
of_station (Ask Lead name) = by_filz_lead
of_station (Ask Confidence name) = by_filz_confidence
of_station (Ask Size name) = by_filz_size
of_station (WriteFile First buffer) = by_filz_write_first
of_station (WriteFile Second buffer) = by_filz_write_second
of_station (ReadFile First file) = by_filz_read_first
of_station (ReadFile Second file) = by_filz_read_second
of_station (IndexBuild index) = by_filz_index_build
of_station (IndexEnter index) = by_filz_index_enter
of_station (IndexFind index name) = by_filz_index_find

-- ---- a move of a file has two buffers and no workspace

pub data MoverName : Type 0 where
  by_move_file : MoverName
  by_filz_move_first : MoverName
  by_filz_move_second : MoverName

abbrev filz_moving : In 3 code.filz_move_first.Kinds.ps → Out 3 code.filz_move_first.Kinds.ps code.filz_move_first.Kinds.r → Form → Mover
filz_moving Asked Learnt form = record {
  contract = contract_of 3 code.filz_move_first.Kinds.ps code.filz_move_first.Kinds.r Asked Learnt;
  done = λ m. record {
    form = form;
    file = m.given.0.now;
    before = m.given.1.0.now;
    number = m.returned;
    value = (left m).1.1.0.now;
    after = (left m).1.0.now;
  };
}

abbrev pub mover : MoverName → Mover
mover by_move_file = record {
  contract = contract_of 2 code.move_file.Kinds.ps code.move_file.Kinds.r code.move_file.Reads.Asked code.move_file.Reads.Learnt;
  done = λ m. record {
    form = m.given.0;
    file = m.given.1.0.now;
    before = m.given.1.1.0.now;
    number = number m.returned;
    value = value m.returned;
    after = (left m).1.1.0.now;
  };
}
mover by_filz_move_first = filz_moving code.filz_move_first.Reads.Asked code.filz_move_first.Reads.Learnt First
mover by_filz_move_second = filz_moving code.filz_move_second.Reads.Asked code.filz_move_second.Reads.Learnt Second

-- the function that each face has for a move, by the form of the file that is read
abbrev pub moves_of_ledger : Form → MoverName
moves_of_ledger form = by_move_file

abbrev pub moves_of_station : Form → MoverName
moves_of_station First = by_filz_move_first
moves_of_station Second = by_filz_move_second
