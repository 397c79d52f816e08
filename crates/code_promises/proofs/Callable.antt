-- What the law gives for a call is an outcome that the contract of its function allows. Assumes nothing.
use mathlib.Core.Path.{◌≡◌, refl, sym, ap}
use mathlib.Core.List.{List, []}
use Prim.Native.Nat.{ℕ}
use lib.IntN.{pos}
use denote.Ref.{Bor}
use denote.MutBor.{MutBor}
use denote.Triple.Clauses.{at_exit}
use borrow.Fn.Kinds.{In, Out}
use Rattle.terms.specs.declared.setting.Setting.{Setting}
use Rattle.terms.specs.declared.answer.Reading.TheVariants.{Query, Accepted, Lead, Confidence, Size}
use Rattle.terms.specs.declared.form.Form.{Form}
use Rattle.terms.specs.declared.form.Form.TheVariants.{First, Second}
use Rattle.terms.specs.Answers.{Outcome, Handover, handover, number, value, Answer}
use Rattle.rules.specs.Calls.{open_call, book_call, poll_call, query_call, accepted_call, lead_call, confidence_call, size_call}
use Rattle.day_file.specs.Calls.{write_file_call, read_file_call}
use Rattle.name_index.specs.Calls.{index_build_call, index_enter_call, index_find_call}
use Rattle.promises.specs.Run.{Open, Book, Poll, Ask, WriteFile, ReadFile, IndexBuild, IndexEnter, IndexFind}
use Rattle.promises.proofs.Taken.{write_words, build_words, enter_words}
use Rattle.station.specs.Returned.{Returned, Handed, HandedOver}
use Rattle.code_promises.specs.Contract.{contract_of, Allowed, ended_by}
use Rattle.code_promises.specs.OfCode.{Makes, CodeCallable}
use Rattle.code_promises.proofs.Functions.{
  by_open,
  by_book,
  by_poll,
  by_write_file,
  by_read_file,
  by_find,
  by_filz_open,
  by_filz_book,
  by_filz_poll,
  by_filz_index_find,
  function,
  of_ledger,
  of_station,
}
use Rattle.code_promises.proofs as code

-- a reference to what is lent; no contract asks where it stands
abbrev pub lent : {X : Type 0} → X → Bor X
lent x = record { ref_ptr = (0, 0); now = x }

-- and one to what is lent for writing
abbrev pub held : {X : Type 0} → X → MutBor X
held x = record { ref_ptr = (0, 0); ghost_name = 0; now = x }

-- the number and the value of an answer are its own
own : (a : Answer) → Returned a (number a) (value a)
own a = record { numbered = refl; valued = refl }

pub handed : (o : Outcome) → Handed o (number o.answer) (value o.answer) o.words
handed o = record { told = own o.answer; words = refl }

-- the law leaves the words that are only lent
left_words : (o : Handover) {w : List ℕ} → o.words ≡ w → handover o.answer w o.lent ≡ o
left_words o e = ap (λ words. handover o.answer words o.lent) (sym e)

-- what is handed over of a call that leaves the words
over : (o : Handover) {w : List ℕ} → o.words ≡ w → HandedOver o (number o.answer) (value o.answer) w o.lent
over o e = record { told = own o.answer; words = sym e; lent = refl }

-- ---- the ledger's functions, and the index's

open_callable : (s : Setting) (w : List ℕ) → Makes function by_open (Open s) w
open_callable s w =
    let o = open_call w s in
    record {
      allowed = record { at = ([], tt); given = (held w, (s, tt)); returned = o.answer; last = (o.words, (tt, tt)); learnt = refl };
      asks = refl;
      words = refl;
    }

book_callable : (name slot : ℕ) (parents w : List ℕ) → Makes function by_book (Book name slot parents) w
book_callable name slot parents w =
    let o = book_call w name slot parents in
    record {
      allowed = record {
        at = ([], ([], tt));
        given = (held w, (name, (slot, (lent parents, tt))));
        returned = o.answer;
        last = (o.words, (tt, (tt, (tt, tt))));
        learnt = refl;
      };
      asks = refl;
      words = refl;
    }

poll_callable : (name : ℕ) (votes w : List ℕ) → Makes function by_poll (Poll name votes) w
poll_callable name votes w =
    let o = poll_call w name votes in
    record {
      allowed = record {
        at = ([], ([], tt));
        given = (held w, (name, (lent votes, tt)));
        returned = o.answer;
        last = (o.words, (tt, (tt, tt)));
        learnt = refl;
      };
      asks = refl;
      words = refl;
    }

-- the words are only lent, and the law leaves them
write_file_callable : (form : Form) (buffer w : List ℕ) → Makes function by_write_file (WriteFile form buffer) w
write_file_callable form buffer w =
    let o = write_file_call form w buffer in
    record {
      allowed = record {
        at = ([], ([], tt));
        given = (lent w, (form, (held buffer, tt)));
        returned = o.answer;
        last = (tt, (tt, (o.lent, tt)));
        learnt = left_words o (write_words form w buffer);
      };
      asks = refl;
      words = refl;
    }

read_file_callable : (form : Form) (file w : List ℕ) → Makes function by_read_file (ReadFile form file) w
read_file_callable form file w =
    let o = read_file_call form w file in
    record {
      allowed = record {
        at = ([], ([], tt));
        given = (held w, (form, (lent file, tt)));
        returned = o.answer;
        last = (o.words, (tt, (tt, tt)));
        learnt = refl;
      };
      asks = refl;
      words = refl;
    }

-- a call that changes an index, with a handover that its contract allows
abbrev index : {Asked : In 2 code.build.Kinds.ps} {Learnt : Out 2 code.build.Kinds.ps code.build.Kinds.r} →
    let f = contract_of 2 code.build.Kinds.ps code.build.Kinds.r Asked Learnt in
    (cells w : List ℕ) (o : Handover) →
    Learnt ([], ([], tt)) (lent w, (held cells, tt)) o.answer (at_exit (ended_by f) ([], ([], tt)) (lent w, (held cells, tt)) (tt, (o.lent, tt))) →
    Allowed f
index cells w o learnt =
    record { at = ([], ([], tt)); given = (lent w, (held cells, tt)); returned = o.answer; last = (tt, (o.lent, tt)); learnt = learnt }

find_callable : (cells : List ℕ) (name : ℕ) (w : List ℕ) → Makes function by_find (IndexFind cells name) w
find_callable cells name w =
    record {
      allowed = record {
        at = ([], ([], tt));
        given = (lent w, (lent cells, (name, tt)));
        returned = index_find_call w cells name;
        last = (tt, (tt, (tt, tt)));
        learnt = refl;
      };
      asks = refl;
      words = refl;
    }

-- a reading with an answer that its contract allows
abbrev read : {Asked : In 1 code.query.Kinds.ps} {Learnt : Out 1 code.query.Kinds.ps code.query.Kinds.r} →
    let f = contract_of 1 code.query.Kinds.ps code.query.Kinds.r Asked Learnt in
    (name : ℕ) (w : List ℕ) (r : Answer) →
    Learnt ([], tt) (lent w, (name, tt)) r (at_exit (ended_by f) ([], tt) (lent w, (name, tt)) (tt, (tt, tt))) → Allowed f
read name w r learnt = record { at = ([], tt); given = (lent w, (name, tt)); returned = r; last = (tt, (tt, tt)); learnt = learnt }

pub ledger_callable : CodeCallable function of_ledger
unfolding CodeCallable
ledger_callable (Open s) w = open_callable s w
ledger_callable (Book name slot parents) w = book_callable name slot parents w
ledger_callable (Poll name votes) w = poll_callable name votes w
ledger_callable (Ask Query name) w = record { allowed = read name w (query_call w name) refl; asks = refl; words = refl }
ledger_callable (Ask Accepted name) w = record { allowed = read name w (accepted_call w name) refl; asks = refl; words = refl }
ledger_callable (Ask Lead name) w = record { allowed = read name w (lead_call w name) refl; asks = refl; words = refl }
ledger_callable (Ask Confidence name) w = record { allowed = read name w (confidence_call w name) refl; asks = refl; words = refl }
ledger_callable (Ask Size name) w = record { allowed = read name w (size_call w name) refl; asks = refl; words = refl }
ledger_callable (WriteFile form buffer) w = write_file_callable form buffer w
ledger_callable (ReadFile form file) w = read_file_callable form file w
ledger_callable (IndexBuild cells) w =
    let o = index_build_call w cells in
    record { allowed = index cells w o (left_words o (build_words w cells)); asks = refl; words = refl }
ledger_callable (IndexEnter cells) w =
    let o = index_enter_call w cells in
    record { allowed = index cells w o (left_words o (enter_words w cells)); asks = refl; words = refl }
ledger_callable (IndexFind cells name) w = find_callable cells name w

-- ---- the C face's functions

filz_open_callable : (s : Setting) (w : List ℕ) → Makes function by_filz_open (Open s) w
filz_open_callable s w =
    let o = open_call w s in
    record {
      allowed = record {
        at = ([], ([], tt));
        given = (held w, (s.k, (s.a, (s.beta1, (s.beta2, (s.edition, (held (pos 0), tt)))))));
        returned = number o.answer;
        last = (o.words, (tt, (tt, (tt, (tt, (tt, (value o.answer, tt)))))));
        learnt = handed o;
      };
      asks = refl;
      words = refl;
    }

filz_book_callable : (name slot : ℕ) (parents w : List ℕ) → Makes function by_filz_book (Book name slot parents) w
filz_book_callable name slot parents w =
    let o = book_call w name slot parents in
    record {
      allowed = record {
        at = ([], ([], ([], tt)));
        given = (held w, (name, (slot, (lent parents, (held (pos 0), tt)))));
        returned = number o.answer;
        last = (o.words, (tt, (tt, (tt, (value o.answer, tt)))));
        learnt = handed o;
      };
      asks = refl;
      words = refl;
    }

filz_poll_callable : (name : ℕ) (votes w : List ℕ) → Makes function by_filz_poll (Poll name votes) w
filz_poll_callable name votes w =
    let o = poll_call w name votes in
    record {
      allowed = record {
        at = ([], ([], ([], tt)));
        given = (held w, (name, (lent votes, (held (pos 0), tt))));
        returned = number o.answer;
        last = (o.words, (tt, (tt, (value o.answer, tt))));
        learnt = handed o;
      };
      asks = refl;
      words = refl;
    }

-- a file that is written or read, with an outcome that its contract allows
abbrev filz_write : {Asked : In 3 code.filz_write_first.Kinds.ps} {Learnt : Out 3 code.filz_write_first.Kinds.ps code.filz_write_first.Kinds.r} →
    let f = contract_of 3 code.filz_write_first.Kinds.ps code.filz_write_first.Kinds.r Asked Learnt in
    (buffer w : List ℕ) (o : Handover) →
    Learnt ([], ([], ([], tt))) (lent w, (held buffer, (held (pos 0), tt))) (number o.answer)
    (at_exit (ended_by f) ([], ([], ([], tt))) (lent w, (held buffer, (held (pos 0), tt))) (tt, (o.lent, (value o.answer, tt)))) →
    Allowed f
filz_write buffer w o learnt =
    record {
      at = ([], ([], ([], tt)));
      given = (lent w, (held buffer, (held (pos 0), tt)));
      returned = number o.answer;
      last = (tt, (o.lent, (value o.answer, tt)));
      learnt = learnt;
    }

abbrev filz_take : {Asked : In 3 code.filz_read_first.Kinds.ps} {Learnt : Out 3 code.filz_read_first.Kinds.ps code.filz_read_first.Kinds.r} →
    let f = contract_of 3 code.filz_read_first.Kinds.ps code.filz_read_first.Kinds.r Asked Learnt in
    (file w : List ℕ) (o : Outcome) →
    Learnt ([], ([], ([], tt))) (held w, (lent file, (held (pos 0), tt))) (number o.answer)
    (at_exit (ended_by f) ([], ([], ([], tt))) (held w, (lent file, (held (pos 0), tt))) (o.words, (tt, (value o.answer, tt)))) →
    Allowed f
filz_take file w o learnt =
    record {
      at = ([], ([], ([], tt)));
      given = (held w, (lent file, (held (pos 0), tt)));
      returned = number o.answer;
      last = (o.words, (tt, (value o.answer, tt)));
      learnt = learnt;
    }

abbrev filz_index : {Asked : In 3 code.filz_index_build.Kinds.ps} {Learnt : Out 3 code.filz_index_build.Kinds.ps code.filz_index_build.Kinds.r} →
    let f = contract_of 3 code.filz_index_build.Kinds.ps code.filz_index_build.Kinds.r Asked Learnt in
    (cells w : List ℕ) (o : Handover) →
    Learnt ([], ([], ([], tt))) (lent w, (held cells, (held (pos 0), tt))) (number o.answer)
    (at_exit (ended_by f) ([], ([], ([], tt))) (lent w, (held cells, (held (pos 0), tt))) (tt, (o.lent, (value o.answer, tt)))) →
    Allowed f
filz_index cells w o learnt =
    record {
      at = ([], ([], ([], tt)));
      given = (lent w, (held cells, (held (pos 0), tt)));
      returned = number o.answer;
      last = (tt, (o.lent, (value o.answer, tt)));
      learnt = learnt;
    }

filz_find_callable : (cells : List ℕ) (name : ℕ) (w : List ℕ) → Makes function by_filz_index_find (IndexFind cells name) w
filz_find_callable cells name w =
    let r = index_find_call w cells name in
    record {
      allowed = record {
        at = ([], ([], ([], tt)));
        given = (lent w, (lent cells, (name, (held (pos 0), tt))));
        returned = number r;
        last = (tt, (tt, (tt, (value r, tt))));
        learnt = own r;
      };
      asks = refl;
      words = refl;
    }

abbrev filz_read : {Asked : In 2 code.filz_query.Kinds.ps} {Learnt : Out 2 code.filz_query.Kinds.ps code.filz_query.Kinds.r} →
    let f = contract_of 2 code.filz_query.Kinds.ps code.filz_query.Kinds.r Asked Learnt in
    (name : ℕ) (w : List ℕ) (r : Answer) →
    Learnt ([], ([], tt)) (lent w, (name, (held (pos 0), tt))) (number r)
    (at_exit (ended_by f) ([], ([], tt)) (lent w, (name, (held (pos 0), tt))) (tt, (tt, (value r, tt)))) →
    Allowed f
filz_read name w r learnt =
    record { at = ([], ([], tt)); given = (lent w, (name, (held (pos 0), tt))); returned = number r; last = (tt, (tt, (value r, tt))); learnt = learnt }

pub station_callable : CodeCallable function of_station
unfolding CodeCallable
station_callable (Open s) w = filz_open_callable s w
station_callable (Book name slot parents) w = filz_book_callable name slot parents w
station_callable (Poll name votes) w = filz_poll_callable name votes w
station_callable (Ask Query name) w = let r = query_call w name in record { allowed = filz_read name w r (own r); asks = refl; words = refl }
station_callable (Ask Accepted name) w = let r = accepted_call w name in record { allowed = filz_read name w r (own r); asks = refl; words = refl }
station_callable (Ask Lead name) w = let r = lead_call w name in record { allowed = filz_read name w r (own r); asks = refl; words = refl }
station_callable (Ask Confidence name) w = let r = confidence_call w name in record { allowed = filz_read name w r (own r); asks = refl; words = refl }
station_callable (Ask Size name) w = let r = size_call w name in record { allowed = filz_read name w r (own r); asks = refl; words = refl }
station_callable (WriteFile First buffer) w =
    let o = write_file_call First w buffer in
    record { allowed = filz_write buffer w o (over o (write_words First w buffer)); asks = refl; words = refl }
station_callable (WriteFile Second buffer) w =
    let o = write_file_call Second w buffer in
    record { allowed = filz_write buffer w o (over o (write_words Second w buffer)); asks = refl; words = refl }
station_callable (ReadFile First file) w =
    let o = read_file_call First w file in
    record { allowed = filz_take file w o (handed o); asks = refl; words = refl }
station_callable (ReadFile Second file) w =
    let o = read_file_call Second w file in
    record { allowed = filz_take file w o (handed o); asks = refl; words = refl }
station_callable (IndexBuild cells) w =
    let o = index_build_call w cells in
    record { allowed = filz_index cells w o (over o (build_words w cells)); asks = refl; words = refl }
station_callable (IndexEnter cells) w =
    let o = index_enter_call w cells in
    record { allowed = filz_index cells w o (over o (enter_words w cells)); asks = refl; words = refl }
station_callable (IndexFind cells name) w = filz_find_callable cells name w
